-- Captures larger than memory: a file is read in windows. Each is the bytes not yet used and some more.
use Rattle.std.specs.Prelude.{Result}
use Rattle.capture.specs.declared.Halt.{Halt}
use Rattle.capture.specs.Counting.{halt}
use Rattle.std.specs.Prelude.{Ok, Err}
use Rattle.std.specs.Prelude.{ℕ, ◌+◌, ◌≤◌, ◌≡◌, List, [], ◌∷◌, ◌++◌, cond, ◌⊎◌, length, drop, ltb, eqb}
use Rattle.error.specs.declared.Refusal.{Refusal}
use Rattle.error.specs.declared.Refusal.TheVariants.{NoCapture, CutFrame}
use Rattle.error.specs.Answer.{Out}
use Rattle.ast.specs.declared.LinkType.{LinkType}
use Rattle.capture.specs.declared.Order.{Order}
use Rattle.capture.specs.declared.Front.{Front}
use Rattle.capture.specs.declared.Front.TheVariants.{Whole, Past, Over}
use Rattle.capture.specs.declared.Tally.{Tally}
use Rattle.capture.specs.declared.Stage.{Stage}
use Rattle.capture.specs.declared.Stage.TheVariants.{Header, Within, Turned}
use Rattle.capture.specs.declared.Step.{Step}
use Rattle.capture.specs.Capture.{opened, front, frames}
use Rattle.capture.specs.Counting.{tally_of, none, counted}

-- ---- one window

-- no whole frame stands at the front of what is left of a window: more bytes may make it one, unless it is over 65,535 bytes
abbrev pub awaits : Order → Front → Stage
awaits o (Whole n) = Within o
awaits o Past = Within o
awaits o Over = Turned CutFrame

-- the whole frames at the front of a window
unfoldable pub window : List ℕ → Order → List ℕ → Step
window P o w = let fs = frames o 0 w in record { stage = awaits o (front o (drop fs.stop w)); tally = tally_of P w fs }

abbrev pub sum : Tally → Tally → Tally
sum t u = record { kept = t.kept + u.kept; given = t.given + u.given; stop = t.stop + u.stop }

-- a step after what was read before it
abbrev pub onto : Tally → Step → Step
onto t v = record { stage = v.stage; tally = sum t v.tally }

-- the file header: 24 bytes, no frame
abbrev pub file_header : Tally
file_header = record { kept = 0; given = 0; stop = 24 }

-- nothing of the window is used
abbrev pub stay : Stage → Step
stay g = record { stage = g; tally = none }

abbrev pub begin : List ℕ → List ℕ → Out Order → Step
begin P w (Err r) = stay (Turned r)
begin P w (Ok o) = onto file_header (window P o (drop 24 w))

-- the file header waits for its 24 bytes, then come 12 and 13, then the whole frames; after a refusal nothing more is used
unfoldable pub step : List ℕ → LinkType → Stage → List ℕ → Step
step P link Header w = cond (ltb (length w) 24) (stay Header) (begin P w (opened link w))
step P link (Within o) w = window P o w
step P link (Turned r) w = stay (Turned r)

-- ---- windows in turn

-- between two windows: how far the file is read, the frames so far, and the bytes not yet used
pub record Reading : Type 0 where
  pub stage : Stage
  pub tally : Tally
  pub rest : List ℕ

abbrev pub more : List ℕ → LinkType → Reading → List ℕ → Reading
more P link r bytes =
    let w = r.rest ++ bytes in
    let t = step P link r.stage w in
    record { stage = t.stage; tally = sum r.tally t.tally; rest = drop t.tally.stop w }

-- a file in cuts
abbrev pub reading : List ℕ → LinkType → Reading → List (List ℕ) → Reading
reading P link r [] = r
reading P link r (bytes ∷ later) = reading P link (more P link r bytes) later

-- before its first byte
abbrev pub unread : Reading
unread = record { stage = Header; tally = none; rest = [] }

-- at the end of the file, so many bytes not used: a header that did not come is 12, a rest that is no whole frame 14
abbrev pub finish : Stage → Tally → ℕ → Result Tally Halt
finish Header t left = Err (halt NoCapture t)
finish (Within o) t left = cond (eqb left 0) (Ok t) (Err (halt CutFrame t))
finish (Turned r) t left = Err (halt r t)

abbrev pub finished : Reading → Result Tally Halt
finished r = finish r.stage r.tally (length r.rest)

-- the bytes of the cuts
abbrev pub concat : List (List ℕ) → List ℕ
concat [] = []
concat (bytes ∷ later) = bytes ++ concat later

-- what windows promise of a program and its link
pub record InTurn (P : List ℕ) (link : LinkType) : Type 0 where
  -- however a capture is cut, its windows in turn count what the whole counts, refusals included
  pub same : (cuts : List (List ℕ)) → finished (reading P link unread cuts) ≡ counted P link (concat cuts)
  -- no window reads beyond its bytes
  pub within : (g : Stage) (w : List ℕ) → (step P link g w).tally.stop ≤ length w
  -- a header of 16 bytes and a frame of 65,535 always have room in 65,551 bytes: there a window uses some, or reading is turned down
  pub moves : (g : Stage) (w : List ℕ) → 65551 ≤ length w → (1 ≤ (step P link g w).tally.stop) ⊎ ((r : Refusal) × ((step P link g w).stage ≡ Turned r))
