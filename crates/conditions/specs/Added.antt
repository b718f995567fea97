-- What a test adds, whichever rows the emitter goes on with.
use Rattle.std.specs.Prelude.{◌+◌, ◌≤◌, ◌≡◌, ◌++◌, false, length, take}
use Rattle.codegen.specs.declared.Side.TheVariants.{Success, Failure}
use Rattle.codegen.specs.Block.{Block, far}
use Rattle.codegen.specs.Emit.{Code, code}
use Rattle.emit.specs.declared.Emitter.{Emitter}
use Rattle.emit.specs.Lines.{assembled, patches, waiting, writes}

-- a block was added, and its facts hold: its instructions stand where the row reaches to its end, and its open jumps wait
pub record Added (c : Code) (e f : Emitter) : Type 0 where
  pub insns : f.count ≡ e.count + length c.block
  pub successes : f.successes ≡ e.successes + length (patches Success e.count c.block)
  pub failures : f.failures ≡ e.failures + length (patches Failure e.count c.block)
  pub writings : f.x_writes ≡ e.x_writes + writes c.block
  pub near : far c.block ≡ false
  pub lines : f.count ≤ length f.insns.now → take f.count f.insns.now ≡ take e.count e.insns.now ++ assembled c.block
  pub won : waiting f.successes f.success.now ≡ waiting e.successes e.success.now ++ patches Success e.count c.block
  pub lost : waiting f.failures f.failure.now ≡ waiting e.failures e.failure.now ++ patches Failure e.count c.block
  pub facts : f.facts ≡ c.facts
  -- each row stays as long, and the link stays
  pub row : length f.insns.now ≡ length e.insns.now
  pub won_room : length f.success.now ≡ length e.success.now
  pub lost_room : length f.failure.now ≡ length e.failure.now
  pub link : f.link ≡ e.link

-- a block that learns nothing
abbrev pub Adds : Block → Emitter → Emitter → Type 0
Adds b e f = Added (code b e.facts) e f
