-- What holds of a line's word holds of the list that it stands for.
use Rattle.std.proofs.Common.{ℕ, List, Option, None, Some, IfSome, slice_get, ◌≡◌, ◌<◌, subst}
use Rattle.frames.specs.declared.listed.Argument.{Argument}
use Rattle.frames.specs.declared.argument.CommandLine.{CommandLine}
use Rattle.frames.specs.Words.{IfWord, IfWordRead, Lists, count_of, word_at, word_of}

of_option : (l : CommandLine) (k : ℕ) (P Q : List ℕ → Type 0) → ((w : List ℕ) → P w → Q w) → (o : Option Argument)
    → IfSome o (λ a. (k < count_of l.arguments) × (word_at l k ≡ word_of a)) → IfWordRead l k P → IfSome o (λ a. Q (word_of a))
of_option l k P Q f None h p = h
of_option l k P Q f (Some a) h p = f (word_of a) (subst P h.1 (p h.0))

pub given : (l : CommandLine) (xs : List Argument) (k : ℕ) (P Q : List ℕ → Type 0) → ((w : List ℕ) → P w → Q w)
    → Lists l xs k → IfWordRead l k P → IfWord xs k Q
given l xs k P Q f = of_option l k P Q f (slice_get xs k)
