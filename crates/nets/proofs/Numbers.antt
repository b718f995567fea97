-- The sixteen numbers of a net.
use mathlib.Core.Path.{◌≡◌, refl, sym, ap, ap₂, ◌∙◌}
use mathlib.Core.List.{List, [], ◌∷◌}
use mathlib.Core.Bool.{Bool, true, false, cond}
use Prim.Native.Nat.{ℕ, zero, suc, ◌+◌, ◌*◌, ◌-◌, ◌/◌, ◌%◌, ◌^◌, ◌<◌, ◌≤◌}
use native.Mathlib.Omega.{arith}
use borrow.Author.Tests.{eqb-true, eqb-false, ltb-true, ltb-false}
use lib.Dec.{eqb, ltb}
use lib.ListN.{length, get_or}
use lib.Pow.{pow-add, pow_pos, pow_mono, shl-shr}
use Rattle.codegen.specs.Emit.{mask16}
use Rattle.codegen.specs.Nets6.{tabulate, mask_of, masks, under, expected}
use Rattle.codegen.proofs.Segment.{mask_none, mask_full}
use Rattle.nets.specs.Masks.{mask_at}

-- ---- the mask of a segment's first p bits, by a shift

pub record Shifted (p x : ℕ) : Type 0 where
  pub is : x ≡ 2 ^ (16 - p)
  pub some : 0 < x
  pub most : x ≤ 65536

pub shifted : (p : ℕ) → p < 16 → Shifted p (65536 / 2 ^ p)
shifted p h =
    let whole : 16 ≡ 16 - p + p = omega arith in
    let e : 65536 / 2 ^ p ≡ 2 ^ (16 - p) = ap (λ (n : ℕ). n / 2 ^ p) (ap (λ (n : ℕ). 2 ^ n) whole ∙ pow-add 2 (16 - p) p) ∙ shl-shr (2 ^ (16 - p)) p in
    let l : 0 < 2 ^ (16 - p) = pow_pos (16 - p) in
    let m : 2 ^ (16 - p) ≤ 2 ^ 16 = pow_mono {i = 16 - p} {j = 16} (omega arith) in
    record { is = e; some = omega arith; most = omega arith }

-- ---- the sixteen numbers of a net

tabulate_same : (n : ℕ) {f g : ℕ → ℕ} → ((i : ℕ) → f i ≡ g i) → tabulate n f ≡ tabulate n g
unfolding tabulate
tabulate_same zero e = refl
tabulate_same (suc n) e = ap₂ ◌∷◌ (e 0) (tabulate_same n (λ i. e (suc i)))

-- numbers by their places are the numbers
by_places : (ss : List ℕ) → ss ≡ tabulate (length ss) (λ i. get_or ss i 0)
unfolding tabulate
by_places [] = refl
by_places (s ∷ ss) = ap (◌∷◌ s) (by_places ss)

-- the mask of a segment by how many count whole and what is left
mask_at_lem : (p i : ℕ) → mask_at i (p / 16) (mask16 (p % 16)) ≡ mask_of p i
mask_at_lem p i = go (ltb i (p / 16)) (eqb i (p / 16)) refl refl
  where
    go : (t u : Bool) → ltb i (p / 16) ≡ t → eqb i (p / 16) ≡ u → cond t 0xffff (cond u (mask16 (p % 16)) 0) ≡ mask_of p i
    go true u e f = sym (mask_full (p - 16 * i) (omega (arith, ltb-true i (p / 16) e)))
    go false true e f = ap mask16 (omega (arith, eqb-true i (p / 16) f))
    go false false e f = sym (mask_none (p - 16 * i) (omega (arith, ltb-false i (p / 16) e, eqb-false i (p / 16) f)))

pub masks_are : (p : ℕ) → tabulate 8 (λ i. mask_at i (p / 16) (mask16 (p % 16))) ≡ masks p
masks_are p = tabulate_same 8 (mask_at_lem p)

-- the segments of an address by their places
pub expected_are : (p : ℕ) (ss : List ℕ) → length ss ≡ 8 → expected p ss ≡ under (tabulate 8 (λ i. get_or ss i 0)) (masks p)
expected_are p ss n = ap (λ (l : List ℕ). under l (masks p)) (by_places ss ∙ ap (λ (k : ℕ). tabulate k (λ i. get_or ss i 0)) n)
