-- The items of a line in prefix order, and how they are put into it.
use Rattle.std.specs.Prelude.{ℕ, zero, suc, ◌+◌, ◌<◌, ◌≤◌, ◌≡◌, List, [], ◌∷◌, ◌++◌, Bool, true, false, get_or, drop}
use Rattle.typing.specs.Phrase.{Operand, term, negated, brackets, Phrase, one, two, record_bytes, term_record, join_byte, two_bytes}
use Rattle.lines.specs.declared.Entry.{Entry}
use Rattle.lines.specs.declared.Entry.TheVariants.{Not, Both, Leaf}
use Rattle.lines.specs.declared.Item.{Item}
use Rattle.lines.specs.Reads.{item}
use Rattle.records.specs.Arrange as A
use Rattle.records.specs.Arrange.{Popped, popped, pop, placed}
use Rattle.records.specs.declared.Order.{Order}
use Rattle.records.specs.declared.Slot.{Slot}

abbrev pub is_join : Entry → Bool
is_join Not = false
is_join (Both j) = true
is_join (Leaf t) = false

abbrev pub deep : Item → ℕ
deep x = x.depth

abbrev pub joins : Item → Bool
joins x = is_join x.entry

abbrev pub arranged : List Item → List Item
arranged xs = A.arranged deep joins xs

-- the items of a phrase in prefix order
abbrev mutual
  pub operand_prefix : ℕ → Operand → List Item
  operand_prefix d (term t) = item d (Leaf t) ∷ []
  operand_prefix d (negated o) = item d Not ∷ operand_prefix d o
  operand_prefix d (brackets p) = phrase_prefix (suc d) p

  pub phrase_prefix : ℕ → Phrase → List Item
  phrase_prefix d (one o) = operand_prefix d o
  phrase_prefix d (two p j o) = item d (Both j) ∷ (phrase_prefix d p ++ operand_prefix d o)

-- ---- an item's record

abbrev pub entry_bytes : Entry → List ℕ
entry_bytes Not = record_bytes 3 0 0 0 0
entry_bytes (Both j) = record_bytes (join_byte j) 0 0 0 0
entry_bytes (Leaf t) = term_record t

abbrev pub row : Item → List ℕ
row x = entry_bytes x.entry

abbrev pub file_bytes : List Item → List ℕ
file_bytes xs = A.rows row xs

abbrev pub head_bytes : ℕ → ℕ → List ℕ
head_bytes link n = 0x50 ∷ 0x46 ∷ 0x54 ∷ 0 ∷ 1 ∷ link ∷ two_bytes n

-- ---- places of items in an array: what waits is its start, what is done its end

abbrev pub slot : ℕ → Bool → ℕ → Slot
slot d j i = record { depth = d; joins = j; place = i }

abbrev pub slot_deep : Slot → ℕ
slot_deep s = s.depth

abbrev pub slot_joins : Slot → Bool
slot_joins s = s.joins

abbrev pub arranged_slots : List Slot → List Slot
arranged_slots xs = A.arranged slot_deep slot_joins xs

-- the slots of items, the first of which stands at a place
abbrev pub slots_of : {T : Type 0} → (T → ℕ) → (T → Bool) → ℕ → List T → List Slot
slots_of deep joins i [] = []
slots_of deep joins i (x ∷ xs) = slot (deep x) (joins x) i ∷ slots_of deep joins (suc i) xs

-- the first n of a list, the last one first
unfoldable pub pend : List Slot → ℕ → List Slot
pend l zero = []
pend l (suc n) = get_or l n (slot 0 false 0) ∷ pend l n

abbrev pub held : Order → Popped Slot
held o = popped (drop o.from o.slots) (pend o.slots o.top)

-- there is room for n items beside those that wait
pub record Roomy (n : ℕ) (o : Order) : Type 0 where
  pub room : n + o.top ≤ o.from
  pub inside : o.from ≤ 128

-- what the pops and places leave of that room
pub record Pops (depth : ℕ) (o p : Order) : Type 0 where
  pub pops : held p ≡ pop slot_deep depth (held o)
  pub same : p.from + o.top ≡ o.from + p.top
  pub fewer : p.top ≤ o.top

pub record Places (x : Slot) (o p : Order) : Type 0 where
  pub places : held p ≡ placed x.joins x (held o)
  pub less : p.from + o.top + 1 ≡ o.from + p.top
  pub most : p.from ≤ o.from

-- ---- the items at their places

-- each place is one of n
abbrev pub Inside : ℕ → List Slot → Type 0
Inside n [] = Unit {0}
Inside n (s ∷ ss) = (s.place < n) × Inside n ss

-- the row of the item at a place
abbrev pub row_at : {T : Type 0} → (T → List ℕ) → List T → ℕ → List ℕ
row_at row [] i = []
row_at row (x ∷ xs) zero = row x
row_at row (x ∷ xs) (suc i) = row_at row xs i

abbrev pub slot_rows : {T : Type 0} → (T → List ℕ) → List T → List Slot → List ℕ
slot_rows row items ss = A.rows (λ s. row_at row items s.place) ss
