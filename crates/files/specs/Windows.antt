-- What `pft count` knows of a capture between two reads, and at its end.
use Rattle.std.specs.Prelude.{ℕ, ◌+◌, ◌-◌, ◌≡◌, List, Bool, true, false, take, drop, Result, IfOk}
use Rattle.ast.specs.declared.LinkType.{LinkType}
use Rattle.capture.specs.declared.Stage.{Stage}
use Rattle.capture.specs.declared.Stage.TheVariants.{Header, Within, Turned}
use Rattle.capture.specs.Counting.{none, counted}
use Rattle.capture.specs.Turns.{Reading, more}
use Rattle.capture.specs.Promises.{Sound}
use Rattle.files.specs.declared.windows.Progress.{Progress}
use Rattle.capture.specs.declared.Tally.{Tally}
use Rattle.capture.specs.declared.Halt.{Halt}

-- the most bytes that a file can have
abbrev pub most : ℕ
most = 9223372036854775807

-- before the first read
abbrev pub beginning : Progress
beginning = record { stage = Header; tally = none; left = 0 }

-- nothing more is read after a refusal
abbrev pub is_turned : Stage → Bool
is_turned Header = false
is_turned (Within o) = false
is_turned (Turned r) = true

-- the bytes not yet used stand at the buffer's start
abbrev pub held : Progress → List ℕ → Reading
held p b = record { stage = p.stage; tally = p.tally; rest = take p.left b }

-- what was read into the buffer behind them, up to a place
abbrev pub behind : Progress → ℕ → List ℕ → List ℕ
behind p n b = take (n - p.left) (drop p.left b)

-- a window of n bytes, used: the reading goes on by what was read, and all of it is either used or left
pub record Used (P : List ℕ) (link : LinkType) (p : Progress) (n : ℕ) (b : List ℕ) (r : Progress) (c : List ℕ) : Type 0 where
  pub goes_on : held r c ≡ more P link (held p b) (behind p n b)
  pub sound : Sound r.tally
  pub all : r.tally.stop + r.left ≡ p.tally.stop + n

-- the answer of a file that was read is the count of one capture, whatever lengths its reads had
abbrev pub Whole : {E : Type 0} → List ℕ → LinkType → Result (Result Tally Halt) E → Type 0
Whole P link r = IfOk r (λ c. (s : List ℕ) × (c ≡ counted P link s))
