use Rattle.std.proofs.Common.{sym, ◌∙◌}
use Rattle.reader.proofs.Checks.{handed_on, records_refused, tree_refused}
use Rattle.reader.proofs.check.Goals as goal

pub returns-in_err-good_records : goal.returns-in_err-good_records
returns-in_err-good_records c = handed_on _ c.from_residual-in_err-good_records.ensures.1 (records_refused _ (sym c.header.ensures ∙ c.in_ok-link.was) (sym c.count.ensures ∙ c.in_ok-n.was) (sym c.good_records.ensures ∙ c.in_err-good_records.was))

pub returns-in_err-one_tree : goal.returns-in_err-one_tree
returns-in_err-one_tree c = handed_on _ c.from_residual-in_err-one_tree.ensures.1 (tree_refused _ (sym c.header.ensures ∙ c.in_ok-link.was) (sym c.count.ensures ∙ c.in_ok-n.was) (sym c.one_tree.ensures ∙ c.in_err-one_tree.was))
