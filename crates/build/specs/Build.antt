-- The build: a tree file's program in a lent buffer, or a refusal. And its two halves: the question and the load.
use Rattle.std.specs.Prelude.{Ok, Err}
use Rattle.std.specs.Prelude.{ℕ, ◌*◌, ◌-◌, List, [], ◌∷◌, ◌++◌, map, Bool, cond, length, replicate, eqb, ltb}
use Rattle.error.specs.declared.Refusal.{Refusal}
use Rattle.error.specs.declared.Refusal.TheVariants.{ShortBuffer, CountMoved}
use Rattle.error.specs.Answer.{Out, ◌>>=◌, number_of}
use Rattle.bpf.specs.declared.Insn.{Insn}
use Rattle.bpf.specs.Program.{program_bytes}
use Rattle.ast.specs.File.{parse}
use Rattle.codegen.specs.Compile.{compile}

-- what a build leaves: its answer, and every byte of the lent buffer
pub record Built : Type 0 where
  pub answer : Out ℕ
  pub buffer : List ℕ

-- "A refusal of 1 to 9 zeroes the whole program buffer."; T-03, of 15: "zeroing the buffer, like 7"; T-05, of 19: "the buffer zero"
abbrev pub rejected : ℕ → Refusal → Built
rejected lent r = record { answer = Err r; buffer = replicate lent 0 }

-- "The program starts the lent buffer; the rest of it is zero. The answer is the instruction count."
abbrev pub placed : ℕ → List Insn → Built
placed lent p = record { answer = Ok (length p); buffer = program_bytes p ++ replicate (lent - 8 * length p) 0 }

-- number 9, "fewer than 8 × instructions bytes lent"
abbrev pub too_short : ℕ → List Insn → Bool
too_short lent p = ltb lent (8 * length p)

-- "9 is last"
abbrev pub into : ℕ → Out (List Insn) → Built
into lent (Err r) = rejected lent r
into lent (Ok p) = cond (too_short lent p) (rejected lent ShortBuffer) (placed lent p)

-- a file's program: "1, 2, 3, 4 come in that order over the whole file. Of 5 to 8 the one the source meets first is given"; T-03,
-- of 15: "met in the source's walk at that leaf"
unfoldable pub program : List ℕ → Out (List Insn)
program tree = parse tree >>= λ t. compile t.link t.tree

-- the build of a file into a buffer of so many bytes
unfoldable pub build : List ℕ → ℕ → Built
build tree lent = into lent (program tree)

-- ---- the listing `pft-list`

-- a program's lines: "the count, then code, jt, jf, k per line"
unfoldable pub listing : List Insn → List (List ℕ)
listing p = (length p ∷ []) ∷ map (λ i. i.code ∷ i.jt ∷ i.jf ∷ i.k ∷ []) p

-- ---- the values of the answer

-- the refusal's number; 0 for a count
abbrev pub refusal_of : Out ℕ → ℕ
refusal_of (Ok c) = 0
refusal_of (Err r) = number_of r

-- the count; 0 for a refusal
abbrev pub count_of : Out ℕ → ℕ
count_of (Ok c) = c
count_of (Err r) = 0

-- ---- T-05, "Size first, load after"

-- "a question that returns the instruction count or refusal"
abbrev pub asked : Out (List Insn) → Out ℕ
asked (Err r) = Err r
asked (Ok p) = Ok (length p)

-- "and touches no buffer": none is lent
unfoldable pub question : List ℕ → Out ℕ
question tree = asked (program tree)

-- "if the tree still has that count"; else 19 "count moved"
abbrev pub still : ℕ → List Insn → Out (List Insn)
still count p = cond (eqb (length p) count) (Ok p) (Err CountMoved)

-- "a load that takes that count. The load writes what document 01 says"; 19 comes "after 1 to 8 and 15, before 9, the buffer zero"
unfoldable pub load : List ℕ → ℕ → ℕ → Built
load tree count lent = into lent (program tree >>= still count)
