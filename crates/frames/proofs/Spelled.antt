-- A word that is spelled byte by byte.
use Rattle.std.proofs.Common.{ℕ, List, [], ◌∷◌, suc, length, get_or, drop, ◌≡◌, ◌+◌, ap, ◌∙◌, arith, add-one}
use Rattle.std.proofs.Math.Seq.{drop-cons}
use Rattle.std.proofs.Math.ListN.{drop_of_length-le}

-- from a place on a word has these bytes
abbrev pub Spells : List ℕ → ℕ → List ℕ → Type 0
Spells w i [] = Unit {0}
Spells w i (x ∷ xs) = (get_or w i 0 ≡ x) × Spells w (i + 1) xs

from_place : (w : List ℕ) (i : ℕ) (xs : List ℕ) → length w ≡ i + length xs → Spells w i xs → drop i w ≡ xs
from_place w i [] n s = drop_of_length-le w (omega (arith, n))
from_place w i (x ∷ xs) n s =
    drop-cons w i 0 (omega (arith, n))
    ∙ ap (λ b. b ∷ drop (suc i) w) s.0
    ∙ ap (λ l. x ∷ l) (rw (← add-one i) (from_place w (i + 1) xs (omega (arith, n)) s.1))

pub spelled : (w xs : List ℕ) → length w ≡ length xs → Spells w 0 xs → w ≡ xs
spelled w xs n s = from_place w 0 xs (omega (arith, n)) s
