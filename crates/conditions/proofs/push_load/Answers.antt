use Rattle.emit.proofs.Grow.{grows_then}
use Rattle.conditions.proofs.push_load.Goals as goal

pub returns-in-Some-clause-lines : goal.returns-in-Some-clause-lines
returns-in-Some-clause-lines c = rw c.in-Some.is (grows_then c.add.ensures.lines c.add-in-Some.ensures.lines)
