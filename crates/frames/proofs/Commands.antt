-- A word that is a command, and the link that is typed behind it.
use Rattle.std.proofs.Common.{ℕ, List, Option, None, Some, IfSome, Contains, codes, ◌≡◌, ◌<◌, subst}
use Rattle.frames.specs.declared.listed.Argument.{Argument}
use Rattle.frames.specs.Words.{word_of, commands, links}

-- what would follow if it were none
pub known : (R : Type 0) (n : ℕ) (v w : List ℕ) → w ≡ v → Contains commands w → 0 < n → ¬ Contains commands v → R
known R n v w e k _ b = absurd (b (subst (Contains commands) e k))

-- ---- of arguments in a list

-- a fact that follows from another, where the link is none
pub no_link : (R S : Type 0) → (R → S) → (o p : Option Argument)
    → IfSome o (λ a. word_of a ≡ codes "type" → IfSome p (λ b. ¬ Contains links (word_of b) → R))
    → IfSome o (λ a. word_of a ≡ codes "type" → IfSome p (λ b. ¬ Contains links (word_of b) → S))
no_link R S f None p h = h
no_link R S f (Some a) None h = h
no_link R S f (Some a) (Some b) h = λ w n. f (h w n)

-- the same where it is one, and nothing stands behind the line
pub a_link : (R S : Type 0) → (R → S) → (n : ℕ) (o p : Option Argument)
    → IfSome o (λ a. word_of a ≡ codes "type" → n ≡ 3 → IfSome p (λ b. Contains links (word_of b) → R))
    → IfSome o (λ a. word_of a ≡ codes "type" → n ≡ 3 → IfSome p (λ b. Contains links (word_of b) → S))
a_link R S f n None p h = h
a_link R S f n (Some a) None h = h
a_link R S f n (Some a) (Some b) h = λ w e k. f (h w e k)
