use Rattle.emit.proofs.Grow.{grows_then}
use Rattle.conditions.proofs.check_load.Goals as goal

pub returns-clause-lines : goal.returns-clause-lines
returns-clause-lines c = grows_then c.push_load.ensures.lines c.need.ensures.lines
