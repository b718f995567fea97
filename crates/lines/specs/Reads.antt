-- What the functions of this crate promise one another: the line's words as items, each a record with the brackets open at its place.
use Rattle.std.specs.Prelude.{ℕ, ◌+◌, ◌-◌, ◌%◌, ◌≤◌, max, List, [], ◌∷◌, Bool, true, false, cond, ◌&&◌, set, eqb, Option, None, Some, Result, Ok, Err}
use Rattle.error.specs.declared.Refusal.TheVariants.{UnknownWord, Unfinished}
use Rattle.typing.specs.declared.Fault.{Fault}
use Rattle.typing.specs.declared.Side.{Side}
use Rattle.typing.specs.declared.Transport.{Transport}
use Rattle.typing.specs.declared.Term.TheVariants.{Named as named, Bare as bare, Hosts as hosts, Ports as ports}
use Rattle.typing.specs.declared.Word.{Word}
use Rattle.typing.specs.declared.Word.TheVariants.{Name as name, Over as over, Side as side, Host as host, Port as port, Opening as opening, Closing as closing, Negate as negate, Join as join, Address as address, Number as number}
use Rattle.typing.specs.Words.{Placed, known, strange}
use Rattle.typing.specs.Typed.{fault}
use Rattle.lines.specs.declared.Entry.{Entry}
use Rattle.lines.specs.declared.Entry.TheVariants.{Not, Both, Leaf}
use Rattle.lines.specs.declared.Item.{Item}
use Rattle.lines.specs.declared.Size.{Size}
use Rattle.lines.specs.declared.Spot.{Spot}
use Rattle.lines.specs.declared.Spot.TheVariants.{Want, Lone, Sided, Hosted, Ported, Full}
use Rattle.lines.specs.declared.Move.{Move}
use Rattle.lines.specs.declared.Move.TheVariants.{Go, Put, Open, Close}
use Rattle.lines.specs.declared.Sum.{Sum}

-- a record, and the brackets open at its place: their number's lowest byte
abbrev pub item : ℕ → Entry → Item
item d e = record { depth = d % 256; entry = e }

abbrev pub size : ℕ → ℕ → Size
size n m = record { records = n; deepest = m }

abbrev pub sum : Spot → ℕ → ℕ → ℕ → Sum
sum s d m n = record { spot = s; depth = d; deepest = m; count = n }

-- no protocol stands before a host or its direction
abbrev pub host_of : Option Transport → Side → Option Move
host_of None s = Some (Go (Hosted (Some s)))
host_of (Some t) s = None

-- brackets close where some are open
abbrev pub close_of : ℕ → Option Move
close_of d = cond (eqb d 0) None (Some Close)

-- what a word does, by what stands before it and the brackets that are open; none where it cannot follow
abbrev pub next_of : Spot → ℕ → Word → Option Move
next_of Want d (name n) = Some (Put (Leaf (named n)))
next_of Want d (over t) = Some (Go (Lone t))
next_of Want d (side s) = Some (Go (Sided None s))
next_of Want d host = Some (Go (Hosted None))
next_of Want d port = Some (Go (Ported None None))
next_of Want d opening = Some Open
next_of Want d negate = Some (Put Not)
next_of (Lone t) d (side s) = Some (Go (Sided (Some t) s))
next_of (Lone t) d port = Some (Go (Ported (Some t) None))
next_of (Sided t s) d host = host_of t s
next_of (Sided t s) d port = Some (Go (Ported t (Some s)))
next_of (Hosted s) d (address a) = Some (Put (Leaf (hosts s a)))
next_of (Ported t s) d (number k) = Some (Put (Leaf (ports t s k)))
next_of Full d closing = close_of d
next_of Full d (join j) = Some (Put (Both j))
next_of _ _ _ = None

-- what stands behind a record's last word
abbrev pub behind : Entry → Spot
behind Not = Want
behind (Both j) = Want
behind (Leaf t) = Full

-- the sum after a move, and the items
abbrev pub moved : Sum → Move → Sum
moved s (Go x) = sum x s.depth s.deepest s.count
moved s (Put e) = sum (behind e) s.depth s.deepest (s.count + 1)
moved s Open = sum Want (s.depth + 1) (max s.deepest (s.depth + 1)) s.count
moved s Close = sum Full (s.depth - 1) s.deepest s.count

abbrev pub stored : Sum → Move → List Item → List Item
stored s (Go x) l = l
stored s (Put e) l = set l s.count (item s.depth e)
stored s Open l = l
stored s Close l = l

-- a protocol that stands alone is a record where a join, a closing bracket or the end follows
abbrev pub alone : Spot → Option Move
alone Want = None
alone (Lone t) = Some (Put (Leaf (bare t)))
alone (Sided t s) = None
alone (Hosted s) = None
alone (Ported t s) = None
alone Full = None

abbrev pub moved_by : Option Move → Sum → Sum
moved_by None s = s
moved_by (Some m) s = moved s m

abbrev pub stored_by : Option Move → Sum → List Item → List Item
stored_by None s l = l
stored_by (Some m) s l = stored s m l

abbrev pub rested : Sum → Sum
rested s = moved_by (alone s.spot) s

abbrev pub rest_items : Sum → List Item → List Item
rest_items s l = stored_by (alone s.spot) s l

abbrev pub rests : Word → Bool
rests closing = true
rests (join j) = true
rests _ = false

-- the sum and the items as a word meets them
abbrev pub ready : Word → Sum → Sum
ready w s = cond (rests w) (rested s) s

abbrev pub ready_items : Word → Sum → List Item → List Item
ready_items w s l = cond (rests w) (rest_items s l) l

-- what a word makes of them
abbrev pub move : Sum → Word → Option Move
move s w = next_of (ready w s).spot (ready w s).depth w

abbrev pub taken : Option Move → ℕ → Result (Unit {0}) Fault
taken None place = Err (fault Unfinished place)
taken (Some m) place = Ok tt

abbrev pub begin : Sum
begin = sum Want 0 0 0

abbrev pub is_full : Spot → Bool
is_full Want = false
is_full (Lone t) = false
is_full (Sided t s) = false
is_full (Hosted s) = false
is_full (Ported t s) = false
is_full Full = true

abbrev pub closed : ℕ → Sum → Result Size Fault
closed end s = cond (is_full s.spot && eqb s.depth 0) (Ok (size s.count s.deepest)) (Err (fault Unfinished end))

-- what a line is: a word that is unknown, or one that cannot follow, at a place; or a phrase, with its size; and the items so far
pub record Reading : Type 0 where
  pub answer : Result Size Fault
  pub items : List Item

abbrev pub reading : Result Size Fault → List Item → Reading
reading r l = record { answer = r; items = l }

unfoldable pub scans : ℕ → Sum → List Item → List Placed → Reading
scans end s l [] = reading (closed end (rested s)) (rest_items s l)
scans end s l (strange k ∷ ws) = reading (Err (fault UnknownWord k)) l
scans end s l (known k w ∷ ws) =
    elim (move s w) [
      | None ↦ reading (Err (fault Unfinished k)) (ready_items w s l)
      | Some m ↦ scans end (moved (ready w s) m) (stored (ready w s) m (ready_items w s l)) ws
    ]

-- the numbers of a sum grow no faster than the line
abbrev pub extra : Spot → ℕ
extra Want = 0
extra (Lone t) = 1
extra (Sided t s) = 0
extra (Hosted s) = 0
extra (Ported t s) = 0
extra Full = 0

pub record Fits (s : Sum) (n : ℕ) : Type 0 where
  pub counted : s.count + extra s.spot ≤ n
  pub opened : s.depth ≤ n
  pub deep : s.deepest ≤ n
