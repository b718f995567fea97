-- What the functions of the generator leave in an emitter.
use Rattle.std.specs.Prelude.{ℕ, ◌+◌, ◌<◌, ◌≤◌, ◌≡◌, List, [], ◌++◌, false, ◌^◌, length, take, drop, set, Ok, Err, IfOk}
use Rattle.std.specs.Borrow.{MutBor}
use Rattle.error.specs.Answer.{Out, ◌>>=◌}
use Rattle.bpf.specs.declared.Insn.{Insn}
use Rattle.ast.specs.declared.LinkType.{LinkType}
use Rattle.codegen.specs.declared.Side.{Side}
use Rattle.codegen.specs.declared.Side.TheVariants.{Success, Failure}
use Rattle.codegen.specs.declared.Exit.{Exit}
use Rattle.codegen.specs.declared.Exit.TheVariants.{Skip, Leave}
use Rattle.codegen.specs.declared.Line.{Line}
use Rattle.codegen.specs.declared.Facts.{Facts}
use Rattle.codegen.specs.Block.{Block, far, resolved, otherwise}
use Rattle.codegen.specs.Emit.{Code, code}
use Rattle.emit.specs.declared.Patch.{Patch}
use Rattle.emit.specs.declared.Emitter.{Emitter}
use Rattle.emit.specs.Lines.{assembled, exit_of, pending, patches, waiting, writes, resolve, Below}

-- places for n more lines, which 16 bits hold, and X written no more often than there are lines
pub record Place (n : ℕ) (e : Emitter) : Type 0 where
  pub insns : e.count + n ≤ 65536
  pub writings : e.x_writes + n ≤ 65536

-- and room for their pending failures
pub record Space (n : ℕ) (e : Emitter) : Type 0 where
  pub insns : e.count + n ≤ 65536
  pub writings : e.x_writes + n ≤ 65536
  pub failures : e.failures + n ≤ length e.failure.now

-- and for their pending successes
pub record Room (n : ℕ) (e : Emitter) : Type 0 where
  pub insns : e.count + n ≤ 65536
  pub writings : e.x_writes + n ≤ 65536
  pub failures : e.failures + n ≤ length e.failure.now
  pub successes : e.successes + n ≤ length e.success.now

-- the stack of an exit's side has a free place
abbrev pub Free : Exit → Emitter → Type 0
Free (Skip d) e = Unit {0}
Free (Leave Success) e = e.successes < length e.success.now
Free (Leave Failure) e = e.failures < length e.failure.now

-- room for one line
pub record Fits (l : Line) (e : Emitter) : Type 0 where
  pub insns : e.count + 1 ≤ 65536
  pub writings : e.x_writes + 1 ≤ 65536
  pub free : Free (exit_of l) e

-- nothing was added
pub record Empty (e : Emitter) : Type 0 where
  pub count : e.count ≡ 0
  pub success : e.successes ≡ 0
  pub failure : e.failures ≡ 0
  pub x_writes : e.x_writes ≡ 0

-- over these lent rows, for this link
pub record Lent (L : LinkType) (I : MutBor (List Insn)) (Y N : MutBor (List Patch)) (e : Emitter) : Type 0 where
  pub insns : e.insns.now ≡ I.now
  pub won : e.success.now ≡ Y.now
  pub lost : e.failure.now ≡ N.now
  pub link : e.link ≡ L
  -- what is written goes to the lender
  pub same_insns : e.insns.ghost_name ≡ I.ghost_name
  pub same_won : e.success.ghost_name ≡ Y.ghost_name
  pub same_lost : e.failure.ghost_name ≡ N.ghost_name

-- what stays whatever is added or refused: what is lent, and its lengths, and the link
pub record Kept (e f : Emitter) : Type 0 where
  pub same_insns : f.insns.ghost_name ≡ e.insns.ghost_name
  pub same_won : f.success.ghost_name ≡ e.success.ghost_name
  pub same_lost : f.failure.ghost_name ≡ e.failure.ghost_name
  pub row : length f.insns.now ≡ length e.insns.now
  pub won_room : length f.success.now ≡ length e.success.now
  pub lost_room : length f.failure.now ≡ length e.failure.now
  pub link : f.link ≡ e.link

-- the two stacks change places
pub record Turned (e f : Emitter) : Type 0 where
  pub success : f.successes ≡ e.failures
  pub won : f.success.now ≡ e.failure.now
  pub failure : f.failures ≡ e.successes
  pub lost : f.failure.now ≡ e.success.now
  pub insns : f.insns.now ≡ e.insns.now
  pub count : f.count ≡ e.count
  pub x_writes : f.x_writes ≡ e.x_writes
  pub facts : f.facts ≡ e.facts
  pub link : f.link ≡ e.link
  pub same_insns : f.insns.ghost_name ≡ e.insns.ghost_name
  pub same_won : f.success.ghost_name ≡ e.failure.ghost_name
  pub same_lost : f.failure.ghost_name ≡ e.success.ghost_name

-- ---- rows that stay whole

-- the row of pending jumps by a side is as it was, past its length too
abbrev pub Spared : Side → Emitter → Emitter → Type 0
Spared Success e f = f.success.now ≡ e.success.now
Spared Failure e f = f.failure.now ≡ e.failure.now

-- the rows that a line with this exit leaves whole
abbrev pub Apart : Exit → Emitter → Emitter → Type 0
Apart (Skip d) e f = Spared Success e f × Spared Failure e f
Apart (Leave Success) e f = Spared Failure e f
Apart (Leave Failure) e f = Spared Success e f

-- ---- one line

-- an instruction stands at the end, if the lent row reaches so far
pub record Put (x : Insn) (e f : Emitter) : Type 0 where
  pub insns : f.insns.now ≡ set e.insns.now e.count x
  pub count : f.count ≡ e.count + 1
  pub won : waiting f.successes f.success.now ≡ waiting e.successes e.success.now
  pub won_len : f.successes ≡ e.successes
  pub lost : waiting f.failures f.failure.now ≡ waiting e.failures e.failure.now
  pub lost_len : f.failures ≡ e.failures
  pub won_spared : Spared Success e f
  pub lost_spared : Spared Failure e f
  pub x_writes : f.x_writes ≡ e.x_writes
  pub facts : f.facts ≡ e.facts
  pub kept : Kept e f

-- a jump waits, if its exit is still open
pub record Waits (x : Exit) (q : Patch) (e f : Emitter) : Type 0 where
  pub insns : f.insns.now ≡ e.insns.now
  pub count : f.count ≡ e.count
  pub won : waiting f.successes f.success.now ≡ waiting e.successes e.success.now ++ pending Success q x []
  pub won_len : f.successes ≡ e.successes + length (pending Success q x [])
  pub lost : waiting f.failures f.failure.now ≡ waiting e.failures e.failure.now ++ pending Failure q x []
  pub lost_len : f.failures ≡ e.failures + length (pending Failure q x [])
  pub apart : Apart x e f
  pub x_writes : f.x_writes ≡ e.x_writes
  pub facts : f.facts ≡ e.facts
  pub kept : Kept e f

-- ---- blocks

-- a block was added, and its facts hold: its instructions stand where the lent row reaches to its end, and its open jumps wait
pub record Grew (c : Code) (e f : Emitter) : Type 0 where
  pub insns : f.count ≡ e.count + length c.block
  pub successes : f.successes ≡ e.successes + length (patches Success e.count c.block)
  pub failures : f.failures ≡ e.failures + length (patches Failure e.count c.block)
  pub writings : f.x_writes ≡ e.x_writes + writes c.block
  pub near : far c.block ≡ false
  pub lines : f.count ≤ length f.insns.now → take f.count f.insns.now ≡ take e.count e.insns.now ++ assembled c.block
  pub won : waiting f.successes f.success.now ≡ waiting e.successes e.success.now ++ patches Success e.count c.block
  pub lost : waiting f.failures f.failure.now ≡ waiting e.failures e.failure.now ++ patches Failure e.count c.block
  pub facts : f.facts ≡ c.facts
  pub kept : Kept e f

-- a block that learns nothing
abbrev pub Grows : Block → Emitter → Emitter → Type 0
Grows b e f = Grew (code b e.facts) e f

-- an answer against what the definition gives
abbrev pub Answers : {A : Type 0} → Out A → (A → Type 0) → Out (Unit {0}) → Type 0
Answers (Ok a) P (Ok u) = P a
Answers (Ok a) P (Err q) = ⊥
Answers (Err r) P (Ok u) = ⊥
Answers (Err r) P (Err q) = q ≡ r

pub record Replies (o : Out Code) (e f : Emitter) (r : Out (Unit {0})) : Type 0 where
  pub is : Answers o (λ c. Grew c e f) r
  pub kept : Kept e f

-- of a row whose pending jumps are resolved
pub record Settles (o : Out (List Insn)) (xs : List Insn) (r : Out (Unit {0})) : Type 0 where
  pub is : Answers o (λ ys. xs ≡ ys) r

-- ---- settled blocks

-- the row of a side, and how many pending jumps it holds
abbrev pub row_of : Side → Emitter → List Patch
row_of Success e = e.success.now
row_of Failure e = e.failure.now

abbrev pub len_of : Side → Emitter → ℕ
len_of Success e = e.successes
len_of Failure e = e.failures

-- the stack of a side was m long, and its pending jumps since then stand before what they go to
pub record Open (s : Side) (m over : ℕ) (e : Emitter) : Type 0 where
  pub most : e.count + over < 2 ^ 64
  pub mark : m ≤ len_of s e
  pub room : len_of s e ≤ length (row_of s e)
  pub below : Below (e.count + over) (drop m (waiting (len_of s e) (row_of s e)))

-- the stack of a side is cut, unless it was refused, and the other stays
abbrev pub Cut : Side → ℕ → Emitter → Emitter → Type 0
Cut Success mark e f = (f.successes ≡ mark) × (f.failures ≡ e.failures)
Cut Failure mark e f = (f.successes ≡ e.successes) × (f.failures ≡ mark)

-- what `settle` leaves: the row resolved, or refused
pub record Settled (s : Side) (mark over : ℕ) (e f : Emitter) (r : Out (Unit {0})) : Type 0 where
  pub row : Settles (resolve (drop mark (waiting (len_of s e) (row_of s e))) (e.count + over) e.insns.now) f.insns.now r
  pub cut : IfOk r (λ u. Cut s mark e f)
  pub count : f.count ≡ e.count
  pub won : f.success.now ≡ e.success.now
  pub lost : f.failure.now ≡ e.failure.now
  pub x_writes : f.x_writes ≡ e.x_writes
  pub facts : f.facts ≡ e.facts
  pub kept : Kept e f

-- a block that was settled, or refused: its code with these facts
abbrev pub coded : Facts → Out Block → Out Code
coded g o = o >>= λ b. Ok (code b g)

-- `otherwise` of a block that was added since the stack of failures was `mark` long
pub record Otherwise (mark : ℕ) (e f : Emitter) (r : Out (Unit {0})) : Type 0 where
  pub of : (b : Block) (d : Emitter) → Grew (code b e.facts) d e → d.failures ≡ mark → d.failures ≤ length d.failure.now
      → Replies (coded e.facts (resolved (otherwise b))) d f r
  pub kept : Kept e f
