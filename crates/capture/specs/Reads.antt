-- What the frames of a capture are, said without reading them. `proofs/Whole.antt` shows that `frames` gives these and no others.
use Rattle.std.specs.Prelude.{Ok, Err}
use Rattle.std.specs.Prelude.{ℕ, ◌+◌, ◌-◌, ◌≤◌, ◌<◌, ◌≡◌, List, [], ◌∷◌, ◌++◌, ◌⊎◌, length, take, drop}
use Rattle.capture.specs.declared.Order.{Order}
use Rattle.error.specs.declared.Refusal.{Refusal}
use Rattle.error.specs.declared.Refusal.TheVariants.{CutFrame}
use Rattle.capture.specs.Capture.{number_at, Piece, piece, part, Frames, stopped, given, frames, frame_at}

-- the file header, read in an order: 24 bytes, of which the first four are one of the marks
pub record Marked (o : Order) (s : List ℕ) : Type 0 where
  pub long : 24 ≤ length s
  pub mark : (number_at o 0 s ≡ 0xa1b2c3d4) ⊎ (number_at o 0 s ≡ 0xa1b23c4d)

-- a frame whose header begins at a place
pub record Good (o : Order) (s : List ℕ) (at : ℕ) (p : Piece) : Type 0 where
  pub behind : p.place ≡ at + 16
  pub captured : p.size ≡ number_at o (at + 8) s
  pub most : p.size ≤ 65535
  pub within : p.place + p.size ≤ length s

-- frames one after the other from one place to another: the header of the next begins where the body of the last ends
abbrev pub Chain : Order → List ℕ → ℕ → List Piece → ℕ → Type 0
Chain o s at [] end = at ≡ end
Chain o s at (p ∷ ps) end = Good o s at p × Chain o s (p.place + p.size) ps end

-- a "header or body that runs past the file or is over 65,535 bytes" begins at a place, or the file ends there
abbrev pub Bad : Order → List ℕ → ℕ → Type 0
Bad o s at = (length s < at + 16) ⊎ ((length s < at + 16 + number_at o (at + 8) s) ⊎ (65535 < number_at o (at + 8) s))

-- the bytes of frames with their headers, one after the other
abbrev pub bytes_of : List ℕ → List Piece → List ℕ
bytes_of s [] = []
bytes_of s (p ∷ ps) = take 16 (drop (p.place - 16) s) ++ (part s p ++ bytes_of s ps)

-- of a capture s of 24 bytes or more, read in an order
pub record Read (o : Order) (s : List ℕ) (fs : Frames) : Type 0 where
  -- each frame given is the part of the capture at its place, as long as its header says; the places ascend, and one frame ends where the
  -- header of the next begins
  pub chain : Chain o s 24 fs.pieces fs.stop
  -- nothing of the file is skipped or read twice
  pub covers : s ≡ take 24 s ++ (bytes_of s fs.pieces ++ drop fs.stop s)
  -- reading stops at the end of the file or before it, at the first header or body that is bad
  pub stops : (fs.stop ≤ length s) × Bad o s fs.stop
  -- the frames given are the only ones: whatever frames follow each other from the file header to a bad one or the end are these
  pub only : (ps : List Piece) (end : ℕ) → Chain o s 24 ps end → Bad o s end → (ps ≡ fs.pieces) × (end ≡ fs.stop)
  -- they are all of them exactly where reading stops at the end: only then do frames reach from the file header to the end
  pub all : (ps : List Piece) → Chain o s 24 ps (length s) → (ps ≡ fs.pieces) × (fs.stop ≡ length s)

-- one frame at a time, of a capture s whose numbers are in an order: the frames from a place on are the one there and those from its end on,
-- or none
pub record Walked (o : Order) (s : List ℕ) (at : ℕ) : Type 0 where
  pub next : (n : ℕ) → frame_at s at ≡ Ok n → frames o at (drop at s) ≡ given (piece (at + 16) n) (frames o (at + 16 + n) (drop (at + 16 + n) s))
  pub last : (r : Refusal) → frame_at s at ≡ Err r → (r ≡ CutFrame) × (frames o at (drop at s) ≡ stopped at)
