-- Numbers in bytes. A file, a program and a frame are lists of bytes.
use Rattle.std.specs.Prelude.{ℕ, zero, suc, ◌+◌, ◌*◌, ◌/◌, ◌%◌, ◌<◌, List, [], ◌∷◌, Bool, length, get_or, ltb}

-- each number of the list is a byte
abbrev pub AreBytes : List ℕ → Type 0
AreBytes s = (i : ℕ) → get_or s i 0 < 256

-- the big-endian number of n bytes at a place; "bytes past the end zero"
unfoldable pub be : ℕ → ℕ → List ℕ → ℕ
be zero at s = 0
be (suc n) at s = be n at s * 256 + get_or s (at + n) 0

-- number 10: "frame over 65,535 bytes"
abbrev pub long_frame : List ℕ → Bool
long_frame f = ltb 65535 (length f)

-- n big-endian numbers of 16 bits from a place on: an IPv6 address is eight of them
unfoldable pub segments_at : ℕ → ℕ → List ℕ → List ℕ
segments_at zero at s = []
segments_at (suc n) at s = be 2 at s ∷ segments_at n (at + 2) s

-- n bytes from a place on
unfoldable pub bytes_at : ℕ → ℕ → List ℕ → List ℕ
bytes_at zero at s = []
bytes_at (suc n) at s = be 1 at s ∷ bytes_at n (at + 1) s

-- the n little-endian bytes of a number
unfoldable pub le : ℕ → ℕ → List ℕ
le zero v = []
le (suc n) v = v % 256 ∷ le n (v / 256)

-- the little-endian number of n bytes at a place
unfoldable pub le_at : ℕ → ℕ → List ℕ → ℕ
le_at zero at s = 0
le_at (suc n) at s = get_or s at 0 + 256 * le_at n (suc at) s
