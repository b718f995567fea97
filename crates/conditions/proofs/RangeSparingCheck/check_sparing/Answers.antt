use Rattle.codegen.specs.Emit.{check_range}
use Rattle.emit.proofs.Grow.{grows_then}
use Rattle.conditions.proofs.RangeSparingCheck.check_sparing.Goals as goal

pub returns-clause-lines : goal.returns-clause-lines
unfolding check_range
returns-clause-lines c = grows_then c.add.ensures.lines (grows_then c.add-2.ensures.lines c.add-3.ensures.lines)
