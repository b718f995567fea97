-- Demands 1 and 3, in the customer's order and words, of what calls of `build`, `run` and `direct_reading` answer and leave.
-- `proofs/Demands.antt` proves them of every tree file from what these functions promise.
use Rattle.std.specs.Prelude.{Ok, Err}
use Rattle.error.specs.Answer.{Out}
use Rattle.std.specs.Prelude.{Bool}
use Rattle.std.specs.Prelude.{ℕ, ◌+◌, ◌*◌, ◌≤◌, ◌<◌, ◌≡◌, List, [], ◌∷◌, ◌↔◌, ◌⊎◌, true, false, length, replicate, take}
use Rattle.error.specs.declared.Refusal.{Refusal}
use Rattle.error.specs.declared.Refusal.TheVariants.{ShortBuffer}
use Rattle.error.specs.Answer.{number_of, Numbered}
use Rattle.bpf.specs.Bytes.{AreBytes}
use Rattle.bpf.specs.Program.{insn_at, targets, Each}
use Rattle.vm.specs.declared.Verdict.{Verdict}
use Rattle.vm.specs.declared.Verdict.TheVariants.{Accepted, Dropped, Short}
use Rattle.vm.specs.declared.Outcome.{Outcome}
use Rattle.vm.specs.Machine.{run}
use Rattle.ast.specs.declared.LinkType.{LinkType}
use Rattle.ast.specs.File.{header}
use Rattle.direct.specs.Reading.{network_start}
use Rattle.direct.specs.Direct.{direct}
use Rattle.build.specs.Build.{build}

-- ---- the calls

-- what the three functions answer for one tree file, and what `build` leaves
pub record Calls : Type 0 where
  pub answer : ℕ → Out ℕ  -- of `build` with a buffer of so many bytes
  pub buffer : ℕ → List ℕ  -- every byte of that buffer afterwards
  pub ran : List ℕ → List ℕ → Out Outcome  -- of `run` with a program and a frame
  pub read : List ℕ → Out Bool  -- of `direct_reading` with a frame

-- what the functions promise of them, equation by equation
pub record Kept (T : List ℕ) (c : Calls) : Type 0 where
  pub answers : (lent : ℕ) → c.answer lent ≡ (build T lent).answer
  pub leaves : (lent : ℕ) → c.buffer lent ≡ (build T lent).buffer
  pub runs : (P F : List ℕ) → c.ran P F ≡ run P F
  pub reads : (F : List ℕ) → c.read F ≡ direct T F

-- ---- the words

-- a build answers a count where so many bytes are lent. "An accepted tree is a file for which the build answers a count when enough buffer
-- is lent"
abbrev pub Answers : Calls → ℕ → ℕ → Type 0
Answers c lent count = c.answer lent ≡ Ok count

abbrev pub Refuses : Calls → ℕ → Refusal → Type 0
Refuses c lent r = c.answer lent ≡ Err r

-- "its program is the first 8 × count bytes then left there"
abbrev pub program_of : Calls → ℕ → ℕ → List ℕ
program_of c lent count = take (8 * count) (c.buffer lent)

-- a frame within the limit: "The limit is number 10's."
abbrev pub Frame : List ℕ → Type 0
Frame F = AreBytes F × (length F ≤ 65535)

-- "G begins with all of F when F's bytes, be they none or all of G, are G's first."
abbrev pub Begins : List ℕ → List ℕ → Type 0
Begins G F = take (length F) G ≡ F

-- the run of a program over a frame gets a verdict
abbrev pub HasVerdict : Verdict → Out Outcome → Type 0
HasVerdict v (Ok o) = o.verdict ≡ v
HasVerdict v (Err r) = ⊥

abbrev pub Gets : Calls → List ℕ → List ℕ → Verdict → Type 0
Gets c P F v = HasVerdict v (c.ran P F)

-- "A program reads past a frame's end, and a read leaves the frame, exactly when the run over it is short."
abbrev pub ReadsPast : Calls → List ℕ → List ℕ → Type 0
ReadsPast c P F = Gets c P F Short

-- the numbers of a build: document 01's 1 to 9, and 15, "cooked address" (T-03)
abbrev pub build_numbers : List ℕ
build_numbers = 1 ∷ 2 ∷ 3 ∷ 4 ∷ 5 ∷ 6 ∷ 7 ∷ 8 ∷ 9 ∷ 15 ∷ []

-- ---- demand 1, of the calls for a tree file

pub record Demand1 (c : Calls) : Type 0 where
  -- "Every tree file that document 01 accepts yields 2 to 3,946 instructions,"
  pub yields : (lent count : ℕ) → Answers c lent count → (2 ≤ count) × (count ≤ 3946)
  -- "with all jumps forward onto one of them,"
  pub jumps : (lent count : ℕ) → Answers c lent count → (i : ℕ) → i < count
      → Each (λ target. (i < target) × (target < count)) (targets i (insn_at (8 * i) (program_of c lent count)))
  -- "and a run over a frame of at most 65,535 bytes stops within as many steps as there are instructions."
  pub stops : (lent count : ℕ) → Answers c lent count → (F : List ℕ) → length F ≤ 65535
      → (o : Outcome) × (c.ran (program_of c lent count) F ≡ Ok o) × (o.steps ≤ count)
  -- "Every other tree file is turned down with the number that document 01 fixes,": `build` gives it; it is one of these,
  pub refuses : (lent : ℕ) (r : Refusal) → Refuses c lent r → Numbered build_numbers r
  -- 9 exactly where less is lent than a count needs that is answered when it is lent, so that it is last; the others whatever is lent
  pub enough : (lent count : ℕ) → Answers c lent count → (other : ℕ) → 8 * count ≤ other
      → Answers c other count × (program_of c other count ≡ program_of c lent count)
  pub short : (lent count : ℕ) → Answers c lent count → (other : ℕ) → other < 8 * count → Refuses c other ShortBuffer
  pub last : (lent : ℕ) → Refuses c lent ShortBuffer → (count : ℕ) × (lent < 8 * count) × Answers c (8 * count) count
  pub fixed : (lent : ℕ) (r : Refusal) → Refuses c lent r → ¬ (number_of r ≡ 9) → (other : ℕ) → Refuses c other r
  -- "and the lent program buffer is then all zero."
  pub zeroes : (lent : ℕ) (r : Refusal) → Refuses c lent r → c.buffer lent ≡ replicate lent 0

-- ---- demand 3, of an accepted tree T, its program P, and frames F and G within the limit of which G begins with F

-- the run over F accepts exactly when the direct reading of T on G is true, and drops exactly when it is false; it is one of the two
pub record Decided (c : Calls) (P F G : List ℕ) : Type 0 where
  pub accepted : Gets c P F Accepted ↔ (c.read G ≡ Ok true)
  pub dropped : Gets c P F Dropped ↔ (c.read G ≡ Ok false)
  pub either : Gets c P F Accepted ⊎ Gets c P F Dropped

pub record Demand3 (T : List ℕ) (c : Calls) (P F G : List ℕ) : Type 0 where
  -- "if T's program reads nothing past the end of F, F and G get the same verdict,"
  pub same : ¬ ReadsPast c P F → (v : Verdict) → Gets c P F v ↔ Gets c P G v
  -- "accepted exactly when T, read directly on G without shared tests or remembered facts, is true, and dropped exactly when it is false."
  pub decided : ¬ ReadsPast c P F → Decided c P F G
  -- "Whatever F holds, T's program accepts G if it accepts F."
  pub monotone : Gets c P F Accepted → Gets c P G Accepted
  -- "On every frame within the limit that reaches 64 bytes past the network header's start no read leaves it,": T has a link, whose start it is
  pub reaches : (link : LinkType) × (header T ≡ Ok link) × (network_start link + 64 ≤ length F → ¬ ReadsPast c P F)
  -- "so the verdict there is always that of the direct reading."
  pub there : (link : LinkType) → header T ≡ Ok link → network_start link + 64 ≤ length F → Decided c P F F

-- ---- both, of the calls for a tree file T

pub record Demands (T : List ℕ) (c : Calls) : Type 0 where
  pub first : Demand1 c
  pub third : (lent count : ℕ) → Answers c lent count → (F G : List ℕ) → Frame F → Frame G → Begins G F
      → Demand3 T c (program_of c lent count) F G
