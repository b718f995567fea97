-- Arguments that stand at their numbers, and one more.
use Rattle.std.proofs.Common.{ℕ, List, [], ◌∷◌, ◌++◌, length, ◌≡◌, ◌<◌, ◌+◌, Bool, true, false, refl, sym, arith}
use Rattle.std.proofs.Math.ListN.{get_or, length-append, get_or-append}
use Rattle.std.proofs.Math.Seq.{get_or-append_seam}
use borrow.Author.Tests.{ltb-true, ltb-false}
use lib.Dec.{ltb}
use Rattle.frames.specs.declared.listed.Argument.{Argument}

abbrev pub Numbered : List Argument → Type 0
Numbered xs = (k : ℕ) (d : Argument) → k < length xs → (get_or xs k d).number ≡ k

later : (xs : List Argument) (x : Argument) → x.number ≡ length xs → Numbered xs → Numbered (xs ++ x ∷ [])
later xs x e h k d b = go (ltb k (length xs)) refl
  where
    go : (t : Bool) → ltb k (length xs) ≡ t → (get_or (xs ++ x ∷ []) k d).number ≡ k
    go true t = let l = ltb-true k (length xs) t in rw (get_or-append xs (x ∷ []) d k l) (h k d l)
    go false t =
        let l : k ≡ length xs = omega (arith, ltb-false k (length xs) t, length-append xs (x ∷ []), b) in
        rw (l, get_or-append_seam xs x [] d) e

pub one_more : (xs ys : List Argument) (x : Argument) → ys ≡ xs ++ x ∷ [] → length xs ≡ x.number → Numbered xs
    → (length ys ≡ x.number + 1) × Numbered ys
one_more xs ys x e n h = rw e (omega (arith, length-append xs (x ∷ []), n), later xs x (sym n) h)
