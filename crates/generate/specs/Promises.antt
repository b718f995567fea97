-- What `generate` promises: a program's count or refusal, and its bytes at the start of a lent part that has room for them.
use Rattle.std.specs.Prelude.{Ok, Err}
use Rattle.std.specs.Prelude.{ℕ, ◌+◌, ◌*◌, ◌≤◌, ◌<◌, ◌≡◌, List, ◌++◌, cond, length, drop, ltb}
use Rattle.error.specs.Answer.{Out}
use Rattle.bpf.specs.declared.Insn.{Insn}
use Rattle.bpf.specs.Program.{program_bytes}
use Rattle.ast.specs.Tree.{records}
use Rattle.ast.specs.File as File
use Rattle.ast.proofs.Proper.{Proper}
use Rattle.reader.specs.Reader.{Here, tree_of}
use Rattle.codegen.proofs.Shape.{weight}

-- a file that passed checks 1 to 4: one tree stands at its first record, takes all of them, and its fields are within their bounds
pub record Stands (s : List ℕ) : Type 0 where
  pub here : Here s 0
  pub proper : Proper (tree_of s 0)
  pub size : records (tree_of s 0) ≡ File.count_of s

-- a program's count, or the refusal
abbrev pub counted : Out (List Insn) → Out ℕ
counted (Err r) = Err r
counted (Ok p) = Ok (length p)

-- what is left of a part b: a program that has room in it stands at its start, and else nothing is written
abbrev pub written : Out (List Insn) → List ℕ → List ℕ
written (Err r) b = b
written (Ok p) b = cond (ltb (length b) (8 * length p)) b (program_bytes p ++ drop (8 * length p) b)

-- the count; 0 for a refusal
abbrev pub count_of : Out ℕ → ℕ
count_of (Ok n) = n
count_of (Err r) = 0

-- arrays of so many notes, lines and jumps suffice for a file and a part of so many bytes: lines are asked for if that holds an instruction
pub record Suffices (s : List ℕ) (n l j lent : ℕ) : Type 0 where
  pub notes : 2 < File.count_of s → File.count_of s ≤ n
  pub jumps : weight (tree_of s 0) ≤ j
  pub places : weight (tree_of s 0) + 2 ≤ 65536
  pub lines : 0 < lent → weight (tree_of s 0) + 2 ≤ l
  pub few : (n ≤ 4096) × (l ≤ 4096) × (j ≤ 4096)

-- the answer r is that of the program o; a count is far below what 32 bits hold
pub record Counts (o : Out (List Insn)) (r : Out ℕ) : Type 0 where
  pub answer : r ≡ counted o
  pub few : count_of r ≤ 65536

-- and the part b is left as b'
pub record Generates (o : Out (List Insn)) (b b' : List ℕ) (r : Out ℕ) : Type 0 where
  pub counts : Counts o r
  pub part : b' ≡ written o b
