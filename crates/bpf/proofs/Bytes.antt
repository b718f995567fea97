-- Laws of numbers in bytes, at any width.
use Prim.Native.Nat.{ℕ, zero, suc, ◌+◌, ◌*◌, ◌/◌, ◌%◌, ◌^◌, ◌≤◌, ◌<◌}
use mathlib.Core.Path.{◌≡◌, refl, ap, ap₂}
use mathlib.Core.List.{List, [], ◌∷◌, ◌++◌, append_assoc}
use native.Mathlib.Omega.{arith}
use native.Mathlib.Nat.{add-zero, zero-add, add-suc, div-add-mod', pow-suc}
use lib.ListN.{length, length-append, get_or-append, get_or, drop}
use lib.Seq.{get_or-append_seam, get_or-drop}
use Rattle.bpf.specs.Bytes.{be, AreBytes, le, le_at}

-- n bytes are a number below 256 ^ n
pub be_small : (n at : ℕ) (s : List ℕ) → AreBytes s → be n at s < 256 ^ n
unfolding be
be_small zero at s h = omega arith
be_small (suc n) at s h = omega (arith, be_small n at s h, h (at + n), pow-suc 256 n)

-- a number that lies within a list
pub be_prefix : (n at : ℕ) (f e : List ℕ) → at + n ≤ length f → be n at (f ++ e) ≡ be n at f
unfolding be
be_prefix zero at f e h = refl
be_prefix (suc n) at f e h =
    ap₂ (λ x y. x * 256 + y) (be_prefix n at f e (omega (arith, add-suc at n))) (get_or-append f e 0 (at + n) (omega (arith, add-suc at n)))

-- a number that lies behind a place
pub be_drop : (n i at : ℕ) (s : List ℕ) → be n i (drop at s) ≡ be n (at + i) s
unfolding be
be_drop zero i at s = refl
be_drop (suc n) i at s =
    let e : at + (i + n) ≡ at + i + n = omega arith in
    ap₂ (λ x y. x * 256 + y) (be_drop n i at s) (rw (get_or-drop at s (i + n) 0, e))

pub length_le : (n v : ℕ) → length (le n v) ≡ n
unfolding le
length_le zero v = refl
length_le (suc n) v = ap suc (length_le n (v / 256))

-- a number written within a list is read again
pub le_read : (n v : ℕ) (pre post : List ℕ) → v < 256 ^ n → le_at n (length pre) (pre ++ (le n v ++ post)) ≡ v
unfolding le le_at
le_read zero v pre post h = omega arith
le_read (suc n) v pre post h =
    rw (get_or-append_seam pre (v % 256) (le n (v / 256) ++ post) 0)
    (rw (← one_more, ← append_assoc pre (v % 256 ∷ []) (le n (v / 256) ++ post), le_read n (v / 256) (pre ++ (v % 256 ∷ [])) post small)
    (omega (arith, div-add-mod' v 256)))
  where
    one_more : length (pre ++ (v % 256 ∷ [])) ≡ suc (length pre)
    one_more = omega (arith, length-append pre (v % 256 ∷ []))

    small : v / 256 < 256 ^ n
    small = omega (arith, pow-suc 256 n, h)

-- ---- a number's bytes

pub be_first : (at : ℕ) (s : List ℕ) → be 1 at s ≡ get_or s at 0
unfolding be
be_first at s = rw (zero-add, add-zero)

pub be_half : (at : ℕ) (s : List ℕ) → be 2 at s ≡ get_or s at 0 * 256 + get_or s (at + 1) 0
unfolding be
be_half at s = rw (zero-add, add-zero)

pub be_word : (at : ℕ) (s : List ℕ) → be 4 at s ≡ ((get_or s at 0 * 256 + get_or s (at + 1) 0) * 256 + get_or s (at + 2) 0) * 256 + get_or s (at + 3) 0
unfolding be
be_word at s = rw (zero-add, add-zero)
