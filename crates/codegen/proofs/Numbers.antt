-- Comparisons by masks and by parts, as the code makes them, are those of the direct reading.
use Prim.Native.Nat.{ℕ, zero, suc, ◌+◌, ◌*◌, ◌-◌, ◌/◌, ◌%◌, ◌^◌, ◌<◌}
use mathlib.Core.Path.{◌≡◌, refl, ap, ◌∙◌}
use mathlib.Core.List.{List}
use mathlib.Core.Bool.{Bool, true, not, ◌&&◌, not-not}
use native.Mathlib.Omega.{arith}
use native.Mathlib.Nat.{mod-eq_of_lt, div-lt_iff_lt-mul, eq_of_mul-eq-mul_right}
use lib.Pow.{pow_pos, pow-add}
use lib.ListN.{get_or}
use lib.Dec.{eqb, ltb, leb}
use lib.Bits.{bit_and, and_mask, and_high}
use Rattle.std.proofs.lemmas.Bool.Decides.{nat_tests}
use Rattle.bpf.specs.Bytes.{be, AreBytes}

-- ---- a comparison equals another where each shows the other

pub eqb_iff : (a b c d : ℕ) → (a ≡ b → c ≡ d) → (c ≡ d → a ≡ b) → eqb a b ≡ eqb c d
eqb_iff a b c d h j = grind (arith, nat_tests, h, j)

pub not_lt : (m n : ℕ) → not (ltb m n) ≡ leb n m
not_lt m n = grind (arith, nat_tests)

-- ---- the last bits, by a mask

pub low_zero : (n k : ℕ) → not (not (eqb (bit_and n (2 ^ k - 1)) 0)) ≡ eqb (n % 2 ^ k) 0
low_zero n k = rw (not-not, and_mask n k)

pub low_one : (n : ℕ) → not (eqb (bit_and n 1) 0) ≡ eqb (n % 2) 1
low_one n = rw (and_mask n 1) (grind (arith, nat_tests))

-- ---- the first bits, by a mask: j of the j + k bits of a number

pub high : (n j k : ℕ) → n < 2 ^ (j + k) → bit_and n (2 ^ (j + k) - 2 ^ k) ≡ n / 2 ^ k * 2 ^ k
high n j k h = and_high n j k ∙ ap (λ m. m * 2 ^ k) (mod-eq_of_lt ((div-lt_iff_lt-mul (pow_pos k)).1 (rw (← pow-add 2 j k) h)))

times_eqb : (a b k : ℕ) → eqb (a * 2 ^ k) (b * 2 ^ k) ≡ eqb a b
times_eqb a b k = eqb_iff (a * 2 ^ k) (b * 2 ^ k) a b (eq_of_mul-eq-mul_right (2 ^ k) (pow_pos k) a b) (ap (λ m. m * 2 ^ k))

pub high_eqb : (n m j k : ℕ) → n < 2 ^ (j + k) → m < 2 ^ (j + k) → eqb (bit_and n (2 ^ (j + k) - 2 ^ k)) (bit_and m (2 ^ (j + k) - 2 ^ k)) ≡ eqb (n / 2 ^ k) (m / 2 ^ k)
high_eqb n m j k h i = rw (high n j k h, high m j k i) (times_eqb (n / 2 ^ k) (m / 2 ^ k) k)

-- the top bits of a destination: "1110"
pub top_bits : (n : ℕ) → n < 2 ^ 32 → eqb (bit_and n 0xf000_0000) 0xe000_0000 ≡ eqb (n / 2 ^ 28) 0b1110
top_bits n h = rw (high n 4 28 h) (times_eqb (n / 2 ^ 28) 14 28)

-- ---- bytes one by one

pair_eqb : (x y u v : ℕ) → u < 256 → v < 256 → eqb (x * 256 + u) (y * 256 + v) ≡ (eqb x y && eqb u v)
pair_eqb x y u v h i = grind (arith, nat_tests)

-- n bytes of one list are those of another
abbrev pub same_bytes : ℕ → ℕ → List ℕ → ℕ → List ℕ → Bool
same_bytes zero at s i a = true
same_bytes (suc n) at s i a = same_bytes n at s i a && eqb (get_or s (at + n) 0) (get_or a (i + n) 0)

-- numbers are compared byte by byte, at any width
pub be_eqb : (n at : ℕ) (s : List ℕ) (i : ℕ) (a : List ℕ) → AreBytes s → AreBytes a → eqb (be n at s) (be n i a) ≡ same_bytes n at s i a
unfolding be
be_eqb zero at s i a h j = refl
be_eqb (suc n) at s i a h j =
    pair_eqb (be n at s) (be n i a) (get_or s (at + n) 0) (get_or a (i + n) 0) (h (at + n)) (j (i + n))
    ∙ ap (λ b. b && eqb (get_or s (at + n) 0) (get_or a (i + n) 0)) (be_eqb n at s i a h j)
