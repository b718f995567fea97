-- What the functions of this crate promise one another.
use Rattle.std.specs.Prelude.{ℕ, ◌+◌, ◌*◌, List, ◌++◌, cond, ◌&&◌, length, take, drop, leb, Result, Ok, Err}
use Rattle.error.specs.declared.Refusal.TheVariants.{TooLarge}
use Rattle.error.specs.Answer.{Out}
use Rattle.typing.specs.declared.Fault.{Fault}
use Rattle.typing.specs.Typed.{Typed, fault}
use Rattle.lines.specs.declared.Item.{Item}
use Rattle.lines.specs.declared.Size.{Size}
use Rattle.records.specs.Order.{head_bytes, file_bytes, arranged}

-- a refusal that has no place of its own
abbrev pub placeless : {A : Type 0} → Out A → Result A Fault
placeless (Ok a) = Ok a
placeless (Err r) = Err (fault r 0)

-- the bytes of the items' file
abbrev pub written : ℕ → List Item → List ℕ
written link items = head_bytes link (length items) ++ file_bytes (arranged items)

abbrev pub made : ℕ → ℕ → List Item → List ℕ → Typed
made link n items tree = record { answer = Ok (8 + 24 * n); tree = written link (take n items) ++ drop (8 + 24 * n) tree }

abbrev pub kept : List ℕ → Typed
kept tree = record { answer = Err (fault TooLarge 0); tree = tree }

-- the answer to items of that size, and the tree's bytes
abbrev pub filed : ℕ → Size → List Item → List ℕ → Typed
filed link size items tree = cond (leb size.records 128 && leb size.deepest 128) (made link size.records items tree) (kept tree)
