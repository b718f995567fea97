-- T-01, "Reading a whole capture": classic pcap files, in the request's order. A capture is the list of its bytes.
use Rattle.std.specs.Prelude.{Ok, Err}
use Rattle.std.specs.Prelude.{ℕ, zero, suc, ◌+◌, List, [], ◌∷◌, Bool, cond, ◌||◌, length, take, drop, ltb, eqb}
use Rattle.error.specs.declared.Refusal.TheVariants.{NoCapture, OtherLink, CutFrame}
use Rattle.error.specs.Answer.{Out, ◌>>=◌}
use Rattle.bpf.specs.Bytes.{be, le_at}
use Rattle.ast.specs.declared.LinkType.{LinkType}
use Rattle.ast.specs.declared.LinkType.TheVariants.{Ethernet, RawIp, LinuxSll}
use Rattle.capture.specs.declared.Order.{Order}
use Rattle.capture.specs.declared.Order.TheVariants.{Big, Little}
use Rattle.capture.specs.declared.Front.{Front}
use Rattle.capture.specs.declared.Front.TheVariants.{Whole, Past, Over}

-- a 32-bit number at a place, in "either byte order"
abbrev pub number_at : Order → ℕ → List ℕ → ℕ
number_at Big at s = be 4 at s
number_at Little at s = le_at 4 at s

-- ---- the file header

-- "mark a1b2c3d4 or a1b23c4d"
abbrev pub is_mark : ℕ → Bool
is_mark n = eqb n 0xa1b2c3d4 || eqb n 0xa1b23c4d

-- "Read the file header (24 bytes, mark a1b2c3d4 or a1b23c4d, either byte order)"; "12 "no capture" for a short header or other mark"
unfoldable pub order_of : List ℕ → Out Order
order_of s =
    cond (ltb (length s) 24) (Err NoCapture)
    (cond (is_mark (number_at Big 0 s)) (Ok Big) (cond (is_mark (number_at Little 0 s)) (Ok Little) (Err NoCapture)))

-- "In the 32-bit link field 1, 101 and 113 are Ethernet, RawIp and LinuxSll; the other header fields aren't tested."
abbrev pub field_of : LinkType → ℕ
field_of Ethernet = 1
field_of RawIp = 101
field_of LinuxSll = 113

-- "13 "other link" when the link isn't the tree's"
unfoldable pub opened : LinkType → List ℕ → Out Order
opened link s = order_of s >>= λ o. cond (eqb (number_at o 20 s) (field_of link)) (Ok o) (Err OtherLink)

-- ---- the frames

-- what stands at the front of these bytes: one of the "16-byte frame headers", whose third number is the captured length, and that many
-- bytes; or a "header or body that runs past" them; or one that "is over 65,535 bytes"
unfoldable pub front : Order → List ℕ → Front
front o s =
    let n = number_at o 8 s in
    cond (ltb (length s) 16) Past (cond (ltb 65535 n) Over (cond (ltb (length s) (16 + n)) Past (Whole n)))

-- "Each frame comes back as a piece of the capture itself, cut by its captured length."
pub record Piece : Type 0 where
  pub place : ℕ
  pub size : ℕ

abbrev pub piece : ℕ → ℕ → Piece
piece p n = record { place = p; size = n }

abbrev pub part : List ℕ → Piece → List ℕ
part s p = take p.size (drop p.place s)

-- "Frames before a bad one are still given": the frames, and the place where reading stopped, the file's end or a bad frame's header
pub record Frames : Type 0 where
  pub pieces : List Piece
  pub stop : ℕ

abbrev pub stopped : ℕ → Frames
stopped at = record { pieces = []; stop = at }

abbrev pub given : Piece → Frames → Frames
given p fs = record { pieces = p ∷ fs.pieces; stop = fs.stop }

abbrev pub onward : ℕ → (ℕ → Frames) → Front → Frames
onward at rest (Whole n) = given (piece (at + 16) n) (rest n)
onward at rest Past = stopped at
onward at rest Over = stopped at

-- the frames of bytes of which the first stands at a place, after the next n of them; it falls with the bytes
unfoldable pub frames_after : Order → ℕ → ℕ → List ℕ → Frames
frames_after o n at [] = stopped at
frames_after o (suc n) at (b ∷ s) = frames_after o n (suc at) s
frames_after o zero at (b ∷ s) = onward at (λ n. frames_after o (15 + n) (suc at) s) (front o (b ∷ s))

unfoldable pub frames : Order → ℕ → List ℕ → Frames
frames o at s = frames_after o 0 at s

-- a capture's frames: they follow the file header
abbrev pub frames_of : Order → List ℕ → Frames
frames_of o s = frames o 24 (drop 24 s)

-- ---- one frame at a time

-- "14 "cut frame" at the first frame header or body that runs past the file or is over 65,535 bytes"
abbrev pub size_of : Front → Out ℕ
size_of (Whole n) = Ok n
size_of Past = Err CutFrame
size_of Over = Err CutFrame

-- the captured length of the frame whose header stands at a place of a capture
unfoldable pub frame_at : List ℕ → ℕ → Out ℕ
frame_at s at = order_of s >>= λ o. size_of (front o (drop at s))
