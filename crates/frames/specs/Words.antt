-- Arguments by number or in a list, and as words of the command line: the commands and the links.
use Rattle.std.specs.Prelude.{◌≡◌, ◌<◌, ◌-◌, ℕ, zero, suc, List, [], ◌∷◌, codes, Option, None, Some, Vec, length, nat_le, if◌then◌else◌, slice_get, take, IfSome}
use Rattle.frames.specs.declared.listed.Argument.{Argument}
use Rattle.frames.specs.declared.argument.Arguments.{Arguments}
use Rattle.frames.specs.declared.argument.CommandWord.{CommandWord}
use Rattle.frames.specs.declared.argument.CommandLine.{CommandLine}

-- ---- arguments by number

-- how many there are from one number up to another
abbrev pub count_of : Arguments → ℕ
count_of a = a.end - a.first

-- a word that was read; it stands at the start of its room
abbrev pub bytes_of : CommandWord → List ℕ
bytes_of w = take w.size w.room

-- the command, or the word behind it
abbrev pub word_at : CommandLine → ℕ → List ℕ
word_at l zero = bytes_of l.command
word_at l (suc _) = bytes_of l.second

-- what holds of the word at a place, where there is one
abbrev pub IfWordRead : CommandLine → ℕ → (List ℕ → Type 0) → Type 0
IfWordRead l k P = k < count_of l.arguments → P (word_at l k)

-- what holds where this is the command
abbrev pub IfCommandRead : CommandLine → List ℕ → Type 0 → Type 0
IfCommandRead l command P = IfWordRead l 0 (λ w. w ≡ command → P)

-- ---- arguments in a list

-- the bytes of an argument where it has at most so many, and otherwise none
abbrev pub bytes_up_to : {A : Type 0} → ℕ → Option (Vec ℕ A) → List ℕ
bytes_up_to n None = []
bytes_up_to n (Some v) = if nat_le (length v.items) n then v.items else []

-- as a word; one that is longer than a path is an empty one
abbrev pub word_of : Argument → List ℕ
word_of a = bytes_up_to 4096 a.bytes

-- what holds of the word at a place, where there is one
abbrev pub IfWord : List Argument → ℕ → (List ℕ → Type 0) → Type 0
IfWord arguments k P = IfSome (slice_get arguments k) (λ a. P (word_of a))

-- what holds where this is the command
abbrev pub IfCommand : List Argument → List ℕ → Type 0 → Type 0
IfCommand arguments command P = IfWord arguments 0 (λ w. w ≡ command → P)

-- the argument at a place of a list, where there is one, is the word there of a line
abbrev pub Lists : CommandLine → List Argument → ℕ → Type 0
Lists l arguments k = IfSome (slice_get arguments k) (λ a. (k < count_of l.arguments) × (word_at l k ≡ word_of a))

-- ---- words

abbrev pub commands : List (List ℕ)
commands = codes "type" ∷ codes "list" ∷ codes "size" ∷ codes "run" ∷ codes "count" ∷ []

abbrev pub links : List (List ℕ)
links = codes "1" ∷ codes "ethernet" ∷ codes "2" ∷ codes "raw" ∷ codes "3" ∷ codes "cooked" ∷ []

-- the commands that take a tree and files
abbrev pub over_frames : List (List ℕ)
over_frames = codes "run" ∷ codes "count" ∷ []
