-- T-01, in the customer's order and words, of what calls of `count` answer and leave. `proofs/Counts.antt` proves it of every tree file,
-- buffer and capture from what the functions promise.
use Rattle.std.specs.Prelude.{Result}
use Rattle.capture.specs.declared.Halt.{Halt}
use Rattle.capture.specs.Counting.{halt}
use Rattle.std.specs.Prelude.{Ok, Err}
use Rattle.error.specs.Answer.{Out}
use Rattle.std.specs.Prelude.{ℕ, ◌+◌, ◌<◌, ◌≤◌, ◌≡◌, List, [], ◌∷◌, Bool, true, false, ◌&&◌, ◌↔◌, length, take, drop, replicate, leb}
use Rattle.error.specs.declared.Refusal.{Refusal}
use Rattle.error.specs.declared.Refusal.TheVariants.{NoCapture, OtherLink, CutFrame}
use Rattle.vm.specs.declared.Verdict.TheVariants.{Accepted}
use Rattle.ast.specs.declared.LinkType.{LinkType}
use Rattle.ast.specs.File.{header}
use Rattle.direct.specs.Reading.{network_start}
use Rattle.build.specs.Demands as B
use Rattle.build.specs.Demands.{Answers, Refuses, program_of, Gets}
use Rattle.capture.specs.declared.Order.{Order}
use Rattle.capture.specs.declared.Tally.{Tally}
use Rattle.capture.specs.Capture.{number_at, field_of, Piece, part, Frames, frames_of}
use Rattle.capture.specs.Counting.{accepted, passing, none, refusal_of}
use Rattle.capture.specs.Reads.{Marked, Chain, Read, Walked}
use Rattle.capture.specs.Turns.{reading, unread, finished, concat}
use Rattle.count.specs.Count.{count}

-- ---- the calls

-- what `count` answers and leaves for one tree file, beside `build`, `run` and `direct_reading`
pub record Calls : Type 0 where
  pub base : B.Calls
  pub answer : ℕ → List ℕ → Result Tally Halt  -- of `count` with a buffer of so many bytes and a capture
  pub buffer : ℕ → List ℕ → List ℕ  -- every byte of that buffer afterwards

-- what the functions promise of them
pub record Kept (T : List ℕ) (c : Calls) : Type 0 where
  pub base : B.Kept T c.base
  pub answers : (lent : ℕ) (s : List ℕ) → c.answer lent s ≡ (count T lent s).answer
  pub leaves : (lent : ℕ) (s : List ℕ) → c.buffer lent s ≡ (count T lent s).buffer

-- ---- the words

-- the run of a program over a frame is accepted
abbrev pub keeps : Calls → List ℕ → List ℕ → Bool
keeps c P F = accepted (c.base.ran P F)

-- T, read directly on a frame, is true
abbrev pub is_true : Out Bool → Bool
is_true (Ok b) = b
is_true (Err r) = false

abbrev pub holds : Calls → List ℕ → Bool
holds c F = is_true (c.base.read F)

-- "reaches 64 bytes past the network header's start"
abbrev pub reaches : LinkType → List ℕ → Bool
reaches link F = leb (network_start link + 64) (length F)

-- each of these pieces is such
abbrev pub Every : (Piece → Type 0) → List Piece → Type 0
Every q [] = Unit {0}
Every q (p ∷ ps) = q p × Every q ps

-- how many of these frames are kept, how many are given, and where reading stopped
abbrev pub tallied : Calls → List ℕ → List ℕ → Frames → Tally
tallied c P s fs = record { kept = passing (keeps c P) s fs.pieces; given = length fs.pieces; stop = fs.stop }

-- ---- of a program P of a link, and a capture s read in an order

pub record Counted (c : Calls) (lent : ℕ) (P : List ℕ) (link : LinkType) (o : Order) (s : List ℕ) : Type 0 where
  -- "Each frame comes back as a piece of the capture itself, cut by its captured length.": one after the other, nothing skipped or read twice,
  -- and all of them where there is no 14; also one by one
  pub read : Read o s (frames_of o s)
  pub walked : (at : ℕ) → Walked o s at
  -- "Frames before a bad one are still given, and the accepted ones counted";
  pub whole : (frames_of o s).stop ≡ length s → c.answer lent s ≡ Ok (tallied c P s (frames_of o s))
  -- "14 "cut frame" at the first frame header or body that runs past the file or is over 65,535 bytes"
  pub cut : (frames_of o s).stop < length s → c.answer lent s ≡ Err (halt CutFrame (tallied c P s (frames_of o s)))
  -- the frames given are all of them exactly where there is no 14: only then do frames reach from the file header to the end
  pub all : ((ps : List Piece) × Chain o s 24 ps (length s)) ↔ (¬ (refusal_of (c.answer lent s) ≡ 14))
  -- a frame is counted exactly when the run over it gets accepted,
  pub gets : (F : List ℕ) → (keeps c P F ≡ true) ↔ Gets c.base P F Accepted
  -- and a frame that reaches 64 bytes past the network start exactly when T, read directly on it, is true: as many are kept as are true
  pub truth : Every (λ p. network_start link + 64 ≤ p.size → keeps c P (part s p) ≡ holds c (part s p)) (frames_of o s).pieces
  pub truths : passing (λ F. reaches link F && keeps c P F) s (frames_of o s).pieces ≡ passing (λ F. reaches link F && holds c F) s (frames_of o s).pieces

-- ---- of an accepted tree's program P and link, and a capture s: 12 to 14, "tested in that order"

pub record Linked (c : Calls) (lent : ℕ) (P : List ℕ) (link : LinkType) (s : List ℕ) : Type 0 where
  -- "12 "no capture" for a short header or other mark"
  pub unmarked : ((o : Order) → ¬ Marked o s) → c.answer lent s ≡ Err (halt NoCapture none)
  -- "13 "other link" when the link isn't the tree's": in all 32 bits of the field
  pub other : (o : Order) → Marked o s → ¬ (number_at o 20 s ≡ field_of link) → c.answer lent s ≡ Err (halt OtherLink none)
  -- "the other header fields aren't tested": nothing of the file header between the mark, its first four bytes, and the link, its last, matters
  pub untested : (t : List ℕ) → take 4 t ≡ take 4 s → drop 20 t ≡ drop 20 s → c.answer lent t ≡ c.answer lent s
  -- then the frames
  pub counted : (o : Order) → Marked o s → number_at o 20 s ≡ field_of link → Counted c lent P link o s
  -- however the capture is cut, its windows in turn count what the whole counts, refusals included
  pub turns : (cuts : List (List ℕ)) → concat cuts ≡ s → finished (reading P link unread cuts) ≡ c.answer lent s

-- ---- of a tree file T, a buffer of so many bytes and a capture s

pub record Counts (T : List ℕ) (c : Calls) (lent : ℕ) (s : List ℕ) : Type 0 where
  -- "after the tree's own": its number, no frame, and the buffer zero
  pub own : (r : Refusal) → Refuses c.base lent r → (c.answer lent s ≡ Err (halt r none)) × (c.buffer lent s ≡ replicate lent 0)
  -- "12 to 14 leave the built program in its buffer": it is what `build` leaves, whatever the capture
  pub leaves : c.buffer lent s ≡ c.base.buffer lent
  -- an accepted tree has a link, and its program is run
  pub linked : (n : ℕ) → Answers c.base lent n → (link : LinkType) × (header T ≡ Ok link) × Linked c lent (program_of c.base lent n) link s
