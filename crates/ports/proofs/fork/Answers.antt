use Rattle.emit.proofs.Grow.{grows_then}
use Rattle.ports.proofs.fork.Goals as goal

pub returns-clause-lines : goal.returns-clause-lines
returns-clause-lines c = grows_then (grows_then c.add.ensures.lines c.add-2.ensures.lines) c.need.ensures.lines
