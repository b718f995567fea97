use Rattle.std.proofs.Common.{sym, ◌∙◌}
use Rattle.reader.proofs.Checks.{handed_on}
use Rattle.reader.proofs.Found.{unknown_kind, tested}
use Rattle.reader.proofs.WholeRecord.check.Goals as goal

pub returns-in_err-kind : goal.returns-in_err-kind
returns-in_err-kind c = handed_on _ c.from_residual.ensures.1 (unknown_kind _ _ c.byte.ensures (sym c.try_from.ensures ∙ c.in_err-kind.was))

pub returns-then-good : goal.returns-then-good
returns-then-good c = tested _ _ c.byte.ensures (sym c.try_from.ensures ∙ c.in_ok-kind.was) c.if-good.ensures

pub returns-else-good : goal.returns-else-good
returns-else-good c = tested _ _ c.byte.ensures (sym c.try_from.ensures ∙ c.in_ok-kind.was) c.if-good.ensures
