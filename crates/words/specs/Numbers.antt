-- What the functions of this crate promise one another.
use Rattle.std.specs.Prelude.{Option, None, Some}
use Rattle.std.specs.Prelude.{ℕ, ◌≤◌, ◌≡◌, List, cond, ◌&&◌, length, leb}
use Rattle.typing.specs.declared.Word.{Word}
use Rattle.typing.specs.declared.Word.TheVariants.{Address as address, Number as number}
use Rattle.typing.specs.Words.{digits, value, decimal, parts, octets, four, either, made}

-- digits after those of v that make no more than a limit
abbrev pub counted : ℕ → ℕ → List ℕ → Option ℕ
counted most v s = cond (digits s && leb (value v s) most) (Some (value v s)) None

-- an address, a port number, or none
abbrev pub numeral_of : List ℕ → Option Word
numeral_of s = either (made address (four (octets (parts s)))) (made number (decimal 65535 s))

-- parts that are no bytes at all, or so few
abbrev pub Few : ℕ → Option (List ℕ) → Type 0
Few most o = (bs : List ℕ) → o ≡ Some bs → length bs ≤ most
