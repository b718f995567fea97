-- T-01: "run a tree's program over each frame", "and the accepted ones counted".
use Rattle.std.specs.Prelude.{Result}
use Rattle.capture.specs.declared.Halt.{Halt}
use Rattle.std.specs.Prelude.{Ok, Err}
use Rattle.vm.specs.declared.Outcome.{Outcome}
use Rattle.std.specs.Prelude.{ℕ, ◌+◌, List, [], ◌∷◌, Bool, true, false, cond, length, ltb}
use Rattle.error.specs.declared.Refusal.{Refusal}
use Rattle.error.specs.declared.Refusal.TheVariants.{CutFrame}
use Rattle.error.specs.Answer.{Out, number_of}
use Rattle.vm.specs.declared.Verdict.{Verdict}
use Rattle.vm.specs.declared.Verdict.TheVariants.{Accepted, Dropped, Short, Broken}
use Rattle.vm.specs.Machine.{run}
use Rattle.ast.specs.declared.LinkType.{LinkType}
use Rattle.capture.specs.declared.Order.{Order}
use Rattle.capture.specs.declared.Tally.{Tally}
use Rattle.capture.specs.Capture.{opened, Piece, part, Frames, frames_of}

abbrev pub is_accepted : Verdict → Bool
is_accepted Accepted = true
is_accepted Dropped = false
is_accepted Short = false
is_accepted Broken = false

abbrev pub accepted : Out Outcome → Bool
accepted (Ok o) = is_accepted o.verdict
accepted (Err r) = false

-- a frame is kept: the program's run over it is accepted
abbrev pub keeps : List ℕ → List ℕ → Bool
keeps P F = accepted (run P F)

-- how many of these pieces of a capture pass a test
unfoldable pub passing : (List ℕ → Bool) → List ℕ → List Piece → ℕ
passing q s [] = 0
passing q s (p ∷ ps) = cond (q (part s p)) 1 0 + passing q s ps

-- how many of the frames given are kept, how many are given, and where reading stopped
abbrev pub tally_of : List ℕ → List ℕ → Frames → Tally
tally_of P s fs = record { kept = passing (keeps P) s fs.pieces; given = length fs.pieces; stop = fs.stop }

abbrev pub none : Tally
none = record { kept = 0; given = 0; stop = 0 }

-- a refusal, and the frames before it
abbrev pub halt : Refusal → Tally → Halt
halt r t = record { refusal = r; tally = t }

-- "Frames before a bad one are still given, and the accepted ones counted"; "14 "cut frame"" where reading stops before the file's end
abbrev pub ended : List ℕ → List ℕ → Frames → Result Tally Halt
ended P s fs = let t = tally_of P s fs in cond (ltb fs.stop (length s)) (Err (halt CutFrame t)) (Ok t)

-- 12 and 13, then the frames
abbrev pub over : List ℕ → List ℕ → Out Order → Result Tally Halt
over P s (Err r) = Err (halt r none)
over P s (Ok o) = ended P s (frames_of o s)

-- a program of a link over a capture: 12 to 14 are "tested in that order"
unfoldable pub counted : List ℕ → LinkType → List ℕ → Result Tally Halt
counted P link s = over P s (opened link s)

-- ---- the values of the answer

-- the refusal's number; 0 for a capture that was read to its end
abbrev pub refusal_of : Result Tally Halt → ℕ
refusal_of (Ok t) = 0
refusal_of (Err h) = number_of h.refusal

-- the frames
abbrev pub frames_in : Result Tally Halt → Tally
frames_in (Ok t) = t
frames_in (Err h) = h.tally
