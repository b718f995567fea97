-- Bytes taken out of a file as a list: where they stand in the file, how many they are, and how large.
use Prim.Native.Nat.{ℕ, zero, suc, ◌+◌, ◌*◌, ◌^◌, ◌≤◌, ◌<◌}
use mathlib.Core.Path.{◌≡◌, refl, ap, ap₂, ◌∙◌}
use mathlib.Core.List.{List, ◌∷◌}
use native.Mathlib.Omega.{arith}
use native.Mathlib.Nat.{add-zero}
use lib.ListN.{length, get_or, take}
use Rattle.bpf.specs.Bytes.{be, AreBytes, bytes_at, segments_at}
use Rattle.bpf.proofs.Bytes.{be_small, be_first}

-- ---- a byte, a number, the segments and the first bytes of the list are the file's at that place

pub bytes_get : (m at : ℕ) (s : List ℕ) (i : ℕ) → i < m → get_or (bytes_at m at s) i 0 ≡ get_or s (at + i) 0
unfolding bytes_at
bytes_get zero at s i h = absurd (omega arith)
bytes_get (suc m) at s zero h = rw (be_first, add-zero)
bytes_get (suc m) at s (suc i) h = bytes_get m (at + 1) s i (omega arith) ∙ ap (λ (p : ℕ). get_or s p 0) (omega arith)

pub be_bytes : (n i m at : ℕ) (s : List ℕ) → i + n ≤ m → be n i (bytes_at m at s) ≡ be n (at + i) s
unfolding be
be_bytes zero i m at s h = refl
be_bytes (suc n) i m at s h =
    ap₂ (λ x y. x * 256 + y) (be_bytes n i m at s (omega arith)) (bytes_get m at s (i + n) (omega arith) ∙ ap (λ (p : ℕ). get_or s p 0) (omega arith))

pub segments_bytes : (n i m at : ℕ) (s : List ℕ) → i + 2 * n ≤ m → segments_at n i (bytes_at m at s) ≡ segments_at n (at + i) s
unfolding segments_at
segments_bytes zero i m at s h = refl
segments_bytes (suc n) i m at s h =
    ap₂ ◌∷◌ (be_bytes 2 i m at s (omega arith)) (segments_bytes n (i + 2) m at s (omega arith) ∙ ap (λ (p : ℕ). segments_at n p s) (omega arith))

pub take_bytes : (n m at : ℕ) (s : List ℕ) → n ≤ m → take n (bytes_at m at s) ≡ bytes_at n at s
unfolding bytes_at
take_bytes zero m at s h = refl
take_bytes (suc n) zero at s h = absurd (omega arith)
take_bytes (suc n) (suc m) at s h = ap (λ l. be 1 at s ∷ l) (take_bytes n m (at + 1) s (omega arith))

-- ---- how many

pub length_bytes : (n at : ℕ) (s : List ℕ) → length (bytes_at n at s) ≡ n
unfolding bytes_at
length_bytes zero at s = refl
length_bytes (suc n) at s = ap suc (length_bytes n (at + 1) s)

pub length_segments : (n at : ℕ) (s : List ℕ) → length (segments_at n at s) ≡ n
unfolding segments_at
length_segments zero at s = refl
length_segments (suc n) at s = ap suc (length_segments n (at + 2) s)

-- ---- how large

module _ (s : List ℕ) (bytes : AreBytes s) where
  pub bytes_are_lem : (n at : ℕ) → AreBytes (bytes_at n at s)
  unfolding bytes_at
  bytes_are_lem zero at i = omega arith
  bytes_are_lem (suc n) at zero = be_small 1 at s bytes
  bytes_are_lem (suc n) at (suc i) = bytes_are_lem n (at + 1) i

  pub segments_small : (n at i : ℕ) → get_or (segments_at n at s) i 0 < 2 ^ 16
  unfolding segments_at
  segments_small zero at i = omega arith
  segments_small (suc n) at zero = be_small 2 at s bytes
  segments_small (suc n) at (suc i) = segments_small n (at + 2) i
