-- Numbers that are among others.
use Prim.Native.Nat.{ℕ}
use mathlib.Core.Path.{◌≡◌, refl}
use mathlib.Core.List.{List, [], ◌∷◌}
use mathlib.Core.Bool.{Bool, true, false, ◌&&◌, ◌||◌}
use lib.Dec.{eqb, T}
use borrow.Author.Tests.{eqb-true}
use Rattle.error.specs.declared.Refusal.{Refusal}
use Rattle.error.specs.Answer.{number_of, among, Numbered}

abbrev pub within : List ℕ → List ℕ → Bool
within [] ns = true
within (m ∷ ms) ns = among ns m && within ms ns

both : (b c : Bool) → T (b && c) → T b × T c
both true c h = (tt, h)
both false c h = absurd h

among_within : (ms ns : List ℕ) → T (within ms ns) → (n : ℕ) → T (among ms n) → T (among ns n)
among_within [] ns h n k = absurd k
among_within (m ∷ ms) ns h n k = go (eqb n m) refl k (λ j. among_within ms ns (both (among ns m) (within ms ns) h).1 n j)
  where
    go : (b : Bool) → eqb n m ≡ b → T (b || among ms n) → (T (among ms n) → T (among ns n)) → T (among ns n)
    go true e k next = rw (eqb-true n m e) (both (among ns m) (within ms ns) h).0
    go false e k next = next k

-- a refusal with one of these numbers has one of more of them
pub numbered_more : (ms ns : List ℕ) → T (within ms ns) → (r : Refusal) → Numbered ms r → Numbered ns r
numbered_more ms ns h r k = among_within ms ns h (number_of r) k
