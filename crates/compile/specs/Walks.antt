-- The walk over the records: what it needs, and its parts as the code has them.
use Rattle.std.specs.Prelude.{ℕ, ◌+◌, ◌≤◌, ◌<◌, ◌≡◌, List, ◌++◌, map, length, take, drop, Ok, Err}
use Rattle.error.specs.Answer.{Out, ◌>>=◌}
use Rattle.bpf.specs.declared.Insn.{Insn}
use Rattle.ast.specs.declared.LinkType.{LinkType}
use Rattle.ast.specs.Tree.{Expr}
use Rattle.ast.specs.File.{count_of}
use Rattle.ast.proofs.Proper.{Proper}
use Rattle.codegen.specs.declared.Facts.{Facts}
use Rattle.codegen.specs.Facts.{meet}
use Rattle.codegen.specs.Block.{otherwise, resolved, assemble}
use Rattle.codegen.specs.Emit.{Code, code, restored_after, emit}
use Rattle.codegen.specs.Compile.{finished, returns}
use Rattle.codegen.proofs.Shape.{weight}
use Rattle.emit.specs.declared.Emitter.{Emitter}
use Rattle.emit.specs.declared.Patch.{Patch}
use Rattle.emit.specs.Lines.{Below, waiting}
use Rattle.emit.specs.Grown.{Empty, Kept, Grew, Answers}
use Rattle.reader.specs.Reader.{Here, tree_of}
use Rattle.guards.specs.declared.Note.{Note}
use Rattle.guards.specs.Notes.{Noted}

-- M has the notes of all records of the file s, if these are more than two: fewer have no join, and joins alone read notes
pub record Joined (s : List ℕ) (M : List Note) : Type 0 where
  pub noted : 2 < count_of s → Noted s M 0 (count_of s)
  pub long : 2 < count_of s → count_of s ≤ length M

-- room for them
pub record Noting (s : List ℕ) (M : List Note) : Type 0 where
  pub here : Here s 0
  pub notes : 2 < count_of s → count_of s ≤ length M

-- a tree stands at record i of the file s, and M has its notes
pub record Walk (s : List ℕ) (M : List Note) (i : ℕ) : Type 0 where
  pub here : Here s i
  pub proper : Proper (tree_of s i)
  pub joined : Joined s M

-- the right side of an or, after facts of the left
abbrev pub right_of : LinkType → Expr → Facts → Facts → Out Code
right_of L t left g = emit L t g >>= λ c. Ok (code c.block (meet left c.facts))

-- an or after its hoisted guards
abbrev pub arms : LinkType → Expr → Expr → Facts → Out Code
arms L l r g = do
  b ← emit L l g
  b' ← resolved (otherwise b.block)
  c ← emit L r (restored_after b.block g)
  Ok (code (b' ++ c.block) (meet b.facts c.facts))

-- a program, in the lent row where it reaches to its end; the row is as long as it was in d
pub record Holds (p : List Insn) (d e : Emitter) : Type 0 where
  pub row : length e.insns.now ≡ length d.insns.now
  pub count : e.count ≡ length p
  pub insns : e.count ≤ length e.insns.now → take e.count e.insns.now ≡ p

-- or a refusal; what is lent stays
pub record Compiles (o : Out (List Insn)) (d e : Emitter) (r : Out (Unit {0})) : Type 0 where
  pub is : Answers o (λ p. Holds p d e) r
  pub kept : Kept d e

-- places for the two returns, and pending jumps before them
pub record Ended (e : Emitter) : Type 0 where
  pub insns : e.count + 2 ≤ 65536
  pub successes : e.successes ≤ length e.success.now
  pub failures : e.failures ≤ length e.failure.now
  pub won : Below e.count (drop 0 (waiting e.successes e.success.now))
  pub lost : Below e.count (drop 0 (waiting e.failures e.failure.now))

-- the program of a block that was added from the start
pub record Finishes (e f : Emitter) (r : Out (Unit {0})) : Type 0 where
  pub program : (c : Code) (d : Emitter) → Empty d → Grew c d e → Compiles (resolved (finished c.block) >>= λ b. Ok (map assemble b ++ returns)) d f r

-- the count of a program that stands in the row I, where I reaches to its end; or a refusal
abbrev pub Counts : Out (List Insn) → List Insn → Out ℕ → Type 0
Counts (Ok p) I (Ok n) = (n ≡ length p) × (n ≤ length I → take n I ≡ p)
Counts (Ok p) I (Err q) = ⊥
Counts (Err r) I (Ok n) = ⊥
Counts (Err r) I (Err q) = q ≡ r

pub record Programs (o : Out (List Insn)) (I : List Insn) (r : Out ℕ) : Type 0 where
  pub is : Counts o I r

-- a file with one tree, and room for its notes and, in the rows Y and N, for pending jumps
pub record Ready (s : List ℕ) (M : List Note) (Y N : List Patch) : Type 0 where
  pub noting : Noting s M
  pub proper : Proper (tree_of s 0)
  pub insns : weight (tree_of s 0) + 2 ≤ 65536
  pub successes : weight (tree_of s 0) ≤ length Y
  pub failures : weight (tree_of s 0) ≤ length N
