use Rattle.emit.proofs.Grow.{grows_then}
use Rattle.emit.proofs.Emitter.check.Goals as goal

pub returns-clause-lines : goal.returns-clause-lines
returns-clause-lines c = grows_then c.add.ensures.lines c.need.ensures.lines
