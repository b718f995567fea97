-- The items of a phrase, as its words come.
use Rattle.std.specs.Prelude.{ℕ, suc, List, [], ◌∷◌, ◌++◌}
use Rattle.typing.specs.Phrase.{Operand, term, negated, brackets, Phrase, one, two}
use Rattle.lines.specs.declared.Item.{Item}
use Rattle.lines.specs.declared.Entry.TheVariants.{Not, Both, Leaf}
use Rattle.lines.specs.Reads.{item}

abbrev mutual
  pub operand_items : ℕ → Operand → List Item
  operand_items d (term t) = item d (Leaf t) ∷ []
  operand_items d (negated o) = item d Not ∷ operand_items d o
  operand_items d (brackets p) = phrase_items (suc d) p

  pub phrase_items : ℕ → Phrase → List Item
  phrase_items d (one o) = operand_items d o
  phrase_items d (two p j o) = phrase_items d p ++ (item d (Both j) ∷ operand_items d o)
