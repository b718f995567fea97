-- What `array::from_fn` makes, as a list.
use Prim.Native.Nat.{ℕ, zero, suc, ◌+◌}
use mathlib.Core.Path.{◌≡◌, subst, ◌∙◌}
use mathlib.Core.List.{List, [], ◌∷◌}
use native.Mathlib.Omega.{arith}
use denote.Param.Members.{Mut, Called}
use lib.ListN.{length, drop}
use Rattle.std.specs.Array.{IsFromFnResultFrom, IsFromFnResult}
use Rattle.std.proofs.lemmas.List.{drop_more, drop_all}

-- the values of a function at n numbers from i on
unfoldable pub values : {B : Type 0} → (ℕ → B) → ℕ → ℕ → List B
values h i zero = []
values h i (suc n) = h i ∷ values h (i + 1) n

-- it is the values of h, where each call gave one and left the closure as it was
module _ {F B : Type 0} (g : Mut F (ℕ × Unit {0}) B) (f : F) (h : ℕ → B) (gives : (i : ℕ) (y : B) (q : F) → Called g f (i, tt) y q → (y ≡ h i) × (q ≡ f)) (ys : List B) where
  from_place : (i n : ℕ) → length ys ≡ i + n → IsFromFnResultFrom g f ys i n → drop i ys ≡ values h i n
  unfolding values
  from_place i zero e r = drop_all i ys (omega arith)
  from_place i (suc n) e (q, y, at, call, r) =
      let k = gives i y q call in
      drop_more ys i y (omega arith) ∙ λ j. (at.0 ∙ k.0) j ∷ from_place (i + 1) n (omega arith) (subst (λ p. IsFromFnResultFrom g p ys (i + 1) n) k.1 r) j

pub from_fn_values : {F B : Type 0} {g : Mut F (ℕ × Unit {0}) B} {f : F} {ys : List B} {n : ℕ} → IsFromFnResult g f ys n → (h : ℕ → B)
    → ((i : ℕ) (y : B) (q : F) → Called g f (i, tt) y q → (y ≡ h i) × (q ≡ f)) → ys ≡ values h 0 n
from_fn_values {g = g} {f = f} {ys = ys} {n = n} r h gives = from_place g f h gives ys 0 n (omega (arith, r.long)) r.each
