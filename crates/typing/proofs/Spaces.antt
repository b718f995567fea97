-- How spaces part the words of a line.
use Prim.Native.Nat.{ℕ, suc, ◌+◌}
use mathlib.Core.Path.{◌≡◌, refl, ap, ap₂, ◌∙◌}
use mathlib.Core.List.{List, [], ◌∷◌, ◌++◌}
use mathlib.Core.Bool.{Bool, true, false, cond, not, ◌&&◌}
use native.Mathlib.Omega.{arith}
use lib.ListN.{length}
use lib.Dec.{eqb}
use borrow.Author.Tests.{not-true}
use Rattle.typing.specs.Words.{word_of, in_word, AllInWord, up_to, Placed, spotted, words_from}

-- what is a word's ends at the first space
up_to_space : (s t : List ℕ) → up_to 0x20 (s ++ (0x20 ∷ t)) ≡ up_to 0x20 s
up_to_space [] t = refl
up_to_space (c ∷ s) t = ap (λ r. cond (eqb c 0x20) [] (c ∷ r)) (up_to_space s t)

cond_append : (b : Bool) (p : Placed) (u v : List Placed) → cond b (p ∷ (u ++ v)) (u ++ v) ≡ cond b (p ∷ u) u ++ v
cond_append true p u v = refl
cond_append false p u v = refl

pub space_parts : (s t : List ℕ) (after : Bool) (at : ℕ)
    → words_from after at (s ++ (0x20 ∷ t)) ≡ words_from after at s ++ words_from false (at + length s + 1) t
unfolding words_from
space_parts [] t after at = let e : at + 1 ≡ at + 0 + 1 = omega arith in ap (λ (k : ℕ). words_from false k t) e
space_parts (c ∷ s) t after at =
    let e : at + 1 + length s + 1 ≡ at + suc (length s) + 1 = omega arith in
    let rest = space_parts s t (in_word c) (at + 1) ∙ ap (λ (k : ℕ). words_from (in_word c) (at + 1) s ++ words_from false k t) e in
    ap₂ (λ p r. cond (in_word c && not after) (spotted at (word_of p) ∷ r) r) (up_to_space (c ∷ s) t) rest
    ∙ cond_append (in_word c && not after) (spotted at (word_of (up_to 0x20 (c ∷ s)))) (words_from (in_word c) (at + 1) s) (words_from false (at + suc (length s) + 1) t)

-- ---- bytes without a space

up_to_end : (s : List ℕ) → AllInWord s → up_to 0x20 s ≡ s
up_to_end [] h = refl
up_to_end (c ∷ s) h = rw (not-true (eqb c 0x20) h.0) (ap (λ r. c ∷ r) (up_to_end s h.1))

-- behind a byte of a word no other word starts
none_starts : (s : List ℕ) (at : ℕ) → AllInWord s → words_from true at s ≡ []
unfolding words_from
none_starts [] at h = refl
none_starts (c ∷ s) at h = rw (h.0, none_starts s (at + 1) h.1)

pub one_word : (c : ℕ) (s : List ℕ) (at : ℕ) → AllInWord (c ∷ s) → words_from false at (c ∷ s) ≡ spotted at (word_of (c ∷ s)) ∷ []
unfolding words_from
one_word c s at h = rw (up_to_end (c ∷ s) h, h.0, none_starts s (at + 1) h.1)
