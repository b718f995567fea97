-- Items that are one number each, any number: the open brackets, kind, direction and protocol from its lowest byte on, then the address or
-- the port.
use Rattle.std.specs.Prelude.{ℕ, ◌/◌, ◌%◌, List, [], ◌∷◌, Bool, cond, ◌||◌, eqb}

abbrev pub deep : ℕ → ℕ
deep x = x % 256

abbrev pub joins : ℕ → Bool
joins x = eqb (x / 256 % 256) 1 || eqb (x / 256 % 256) 2

abbrev pub bytes_of : ℕ → ℕ → ℕ → ℕ → ℕ → List ℕ
bytes_of k d p a v =
    k ∷ d ∷ p ∷ 0 ∷ a / 256 % 256 ∷ a % 256 ∷ 0 ∷ 0 ∷ v / 256 / 256 / 256 % 256 ∷ v / 256 / 256 % 256 ∷ v / 256 % 256 ∷ v % 256
    ∷ 0 ∷ 0 ∷ 0 ∷ 0 ∷ 0 ∷ 0 ∷ 0 ∷ 0 ∷ 0 ∷ 0 ∷ 0 ∷ 0 ∷ []

abbrev pub row : ℕ → List ℕ
row x =
    bytes_of (x / 256 % 256) (x / 65536 % 256) (x / 16777216 % 256)
    (cond (eqb (x / 256 % 256) 15) (x / 4294967296) 0) (cond (eqb (x / 256 % 256) 15) 0 (x / 4294967296))
