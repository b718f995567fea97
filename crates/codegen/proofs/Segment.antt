-- The test of one segment of an IPv6 net, by its mask: none of the bits count, some, or all.
use Prim.Native.Nat.{ℕ, ◌+◌, ◌-◌, ◌^◌, ◌<◌, ◌≤◌}
use mathlib.Core.Path.{◌≡◌, refl, ◌∙◌}
use mathlib.Core.List.{List, [], ◌∷◌}
use mathlib.Core.Bool.{Bool, true, false}
use native.Mathlib.Omega.{arith}
use native.Mathlib.Nat.{mod-eq_of_lt}
use borrow.Author.Tests.{eqb-true, eqb-false, ne_eqb, leb-true, leb-false}
use lib.Bits.{bit_and, and_mask}
use lib.Pow.{pow_mono}
use lib.Dec.{eqb, leb}
use Rattle.ast.proofs.Proper.{Half}
use Rattle.codegen.specs.Emit.{mask16, check_net6}
use Rattle.codegen.specs.Nets6.{tests}

-- ---- the mask of a prefix: none of the bits, some, or all

pub mask_none : (p : ℕ) → p ≡ 0 → mask16 p ≡ 0
mask_none p e = rw e

pub mask_full : (p : ℕ) → 16 ≤ p → mask16 p ≡ 0xffff
mask_full p h = let e : 16 - p ≡ 0 = omega arith in rw e

record Some (p : ℕ) : Type 0 where
  pub none : mask16 p ≡ 0 → ⊥
  pub full : mask16 p ≡ 0xffff → ⊥

mask_some : (p : ℕ) → 0 < p → p < 16 → Some p
mask_some p h k =
    let low : 2 ^ 1 ≤ 2 ^ (16 - p) = pow_mono {i = 1} {j = 16 - p} (omega arith) in
    let high : 2 ^ (16 - p) ≤ 2 ^ 15 = pow_mono {i = 16 - p} {j = 15} (omega arith) in
    record { none = λ e. omega arith; full = λ e. omega arith }

-- under the full mask a segment is itself
whole : (s : ℕ) → Half s → bit_and s 0xffff ≡ s
whole s h = and_mask s 16 ∙ mod-eq_of_lt h

-- ---- the tests

-- a prefix of 0 tests nothing
pub net_none : (p at : ℕ) (ss : List ℕ) → p ≡ 0 → check_net6 p at ss ≡ []
unfolding check_net6
net_none p at [] e = refl
net_none p at (s ∷ ss) e = rw e

-- of one segment, where those of the others are known
module _ (p at s : ℕ) (ss ms es : List ℕ) (h : Half s) (others : check_net6 (p - 16) (at + 2) ss ≡ tests ms es (at + 2)) where
  pub step : (z w : Bool) → eqb p 0 ≡ z → leb 16 p ≡ w → check_net6 p at (s ∷ ss) ≡ tests (mask16 p ∷ ms) (bit_and s (mask16 p) ∷ es) at
  unfolding check_net6 tests
  step true w e f = rw (e, mask_none p (eqb-true p 0 e))
  step false true e f = rw (e, f, mask_full p (leb-true 16 p f), whole s h, others)
  step false false e f =
      let m = mask_some p (omega (arith, eqb-false p 0 e)) (leb-false 16 p f) in
      rw (e, f, ne_eqb (mask16 p) 0xffff m.full, ne_eqb (mask16 p) 0 m.none, net_none (p - 16) (at + 2) ss (omega (arith, leb-false 16 p f)))
