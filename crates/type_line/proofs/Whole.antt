-- What the pieces come to: the line read in code finds what the definition finds, and the items of a phrase within the limits are its records in prefix order.
use Prim.Native.Nat.{ℕ, suc, ◌+◌, ◌≤◌}
use mathlib.Core.Path.{◌≡◌, refl, ap, ◌∙◌}
use mathlib.Core.List.{List, ◌∷◌}
use native.Mathlib.Omega.{arith}
use lib.ListN.{length, length-append, take, drop}
use lib.Seq.{sets-eq, take_at}
use Rattle.typing.specs.Words.{Placed}
use Rattle.typing.specs.Phrase.{Operand, term, negated, brackets, Phrase, one, two, operand_records, record_count, depth}
use Rattle.typing.specs.Parse.{start, scan}
use Rattle.lines.specs.declared.Entry.TheVariants.{Both}
use Rattle.lines.specs.declared.Item.{Item}
use Rattle.lines.specs.Reads.{item, begin, scans}
use Rattle.lines.specs.Items.{operand_items, phrase_items}
use Rattle.records.specs.Order.{arranged, phrase_prefix}
use Rattle.lines.proofs.Simulates.{outer_items, outer_deep, level_items, level_deep, not_items, written, Follows, simulate}
use Rattle.records.proofs.Ordered.{ordered}

-- the code's reading of a line follows the definition's
pub reads_line : (l₀ : List Item) (end : ℕ) (ws : List Placed) → Follows l₀ (scan end start ws) (scans end begin l₀ ws)
unfolding outer_items outer_deep level_items level_deep not_items written
reads_line l₀ end ws = simulate l₀ end ws start

-- a phrase has an item for each record
mutual
  operand_count : (d : ℕ) (o : Operand) → length (operand_items d o) ≡ operand_records o
  operand_count d (term t) = refl
  operand_count d (negated o) = ap suc (operand_count d o)
  operand_count d (brackets p) = phrase_count (suc d) p

  pub phrase_count : (d : ℕ) (p : Phrase) → length (phrase_items d p) ≡ record_count p
  phrase_count d (one o) = operand_count d o
  phrase_count d (two p j o) = omega (arith, length-append (phrase_items d p) (item d (Both j) ∷ operand_items d o), phrase_count d p, operand_count d o)

-- the items of a phrase that fit are the first in the row
pub first_items : (l₀ : List Item) (p : Phrase) → record_count p ≤ length l₀ → take (record_count p) (written l₀ (phrase_items 0 p)) ≡ phrase_items 0 p
unfolding written
first_items l₀ p h =
    ap (take (record_count p)) (sets-eq (phrase_items 0 p) l₀ 0 (omega (arith, phrase_count 0 p)))
    ∙ take_at (phrase_items 0 p) (drop (0 + length (phrase_items 0 p)) l₀) (record_count p) (phrase_count 0 p)

-- and put into order they are its prefix order
pub in_order : (l₀ : List Item) (p : Phrase) → record_count p ≤ length l₀ → depth p ≤ 128 → arranged (take (record_count p) (written l₀ (phrase_items 0 p))) ≡ phrase_prefix 0 p
in_order l₀ p h k = ap arranged (first_items l₀ p h) ∙ ordered p k
