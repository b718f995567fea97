-- A number of some bytes is two numbers of fewer, and it is zero where both are.
use Prim.Native.Nat.{ℕ, zero, suc, ◌+◌, ◌*◌, ◌^◌, ◌≤◌}
use mathlib.Core.Path.{◌≡◌, refl, sym, ap, ◌∙◌}
use mathlib.Core.List.{List, [], ◌∷◌}
use native.Mathlib.Omega.{arith}
use native.Mathlib.Nat.{add-zero, add-suc, mul-one, suc-mul, pow-suc}
use lib.ListN.{get_or}
use lib.Dec.{eqb}
use borrow.Author.Tests.{ne_eqb}
use Rattle.bpf.specs.Bytes.{be, segments_at}

pub be_join : (m n at : ℕ) (s : List ℕ) → be (m + n) at s ≡ be m at s * 256 ^ n + be n (at + m) s
unfolding be
be_join m zero at s = ap (λ k. be k at s) (add-zero m) ∙ omega (arith, mul-one (be m at s))
be_join m (suc n) at s =
    ap (λ k. be k at s) (add-suc m n) ∙ omega (arith, be_join m n at s, place, pow-suc 256 n, ap (λ w. be m at s * w) (pow-suc 256 n))
  where
    place : get_or s (at + (m + n)) 0 ≡ get_or s (at + m + n) 0
    place = ap (λ k. get_or s k 0) (omega arith)

-- of four bytes at byte o of a record
pub be_halves : (at o : ℕ) (s : List ℕ) → be 4 (at + o) s ≡ be 2 (at + o) s * 65536 + be 2 (at + (o + 2)) s
be_halves at o s = be_join 2 2 (at + o) s ∙ ap (λ p. be 2 (at + o) s * 65536 + be 2 p s) (omega arith)

positive : (n : ℕ) → 1 ≤ 256 ^ n
positive zero = omega arith
positive (suc n) = omega (arith, positive n, pow-suc 256 n)

small : (a w b v : ℕ) → v ≡ a → 1 ≤ w → a * w + b ≡ 0 → v ≡ 0
small zero w b v is h e = is
small (suc a) w b v is h e = absurd (omega (arith, suc-mul a w))

-- v is the number of m bytes before n others
module _ (m n at : ℕ) (s : List ℕ) {v : ℕ} (is : v ≡ be m at s) where
  -- where it is zero, the others tell
  pub zero_then : {next : ℕ} → next ≡ at + m → v ≡ 0 → eqb (be n next s) 0 ≡ eqb (be (m + n) at s) 0
  zero_then {next} follows e =
      let z : be m at s ≡ 0 = sym is ∙ e in
      let j : be (m + n) at s ≡ be n next s = rw (be_join m n at s, z, follows) (omega arith) in
      rw j

  pub zero_not : (v ≡ 0 → ⊥) → eqb v 0 ≡ eqb (be (m + n) at s) 0
  zero_not e =
      ne_eqb v 0 e
      ∙ sym (ne_eqb _ 0 (λ z. e (small (be m at s) (256 ^ n) (be n (at + m) s) v is (positive n) (sym (be_join m n at s) ∙ z))))

-- eight segments, each by itself
pub eight : (at : ℕ) (s : List ℕ)
    → segments_at 8 (at + 8) s
    ≡ be 2 (at + 8) s ∷ be 2 (at + 10) s ∷ be 2 (at + 12) s ∷ be 2 (at + 14) s ∷ be 2 (at + 16) s ∷ be 2 (at + 18) s ∷ be 2 (at + 20) s ∷ be 2 (at + 22) s ∷ []
unfolding segments_at
eight at s = next 7 8 (next 6 10 (next 5 12 (next 4 14 (next 3 16 (next 2 18 (next 1 20 (next 0 22 refl)))))))
  where
    next : (n a : ℕ) {l : List ℕ} → segments_at n (at + (a + 2)) s ≡ l → segments_at (suc n) (at + a) s ≡ be 2 (at + a) s ∷ l
    next n a e = ap (λ l. be 2 (at + a) s ∷ l) (ap (λ p. segments_at n p s) (omega arith) ∙ e)
