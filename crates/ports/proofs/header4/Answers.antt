use Rattle.codegen.specs.Emit.{header4}
use Rattle.emit.proofs.Grow.{grows_then}
use Rattle.ports.proofs.header4.Goals as goal

pub returns-clause-lines : goal.returns-clause-lines
unfolding header4
returns-clause-lines c = rw (← c.net_offset-n.ensures.offset) (grows_then (grows_then c.add.ensures.lines c.add-2.ensures.lines) c.add-3.ensures.lines)
