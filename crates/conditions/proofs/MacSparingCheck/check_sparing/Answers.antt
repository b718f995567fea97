use Rattle.emit.proofs.Grow.{grows_then}
use Rattle.conditions.proofs.MacSparingCheck.check_sparing.Goals as goal

pub returns-clause-lines : goal.returns-clause-lines
returns-clause-lines c = grows_then c.check.ensures.lines c.check-2.ensures.lines
