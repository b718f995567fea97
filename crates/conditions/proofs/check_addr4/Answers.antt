use Rattle.std.proofs.Common.{append_assoc}
use Rattle.codegen.specs.Emit.{check_loads}
use Rattle.emit.proofs.Grow.{grows_then}
use Rattle.conditions.proofs.check_addr4.Goals as goal

pub returns-in-SrcAndDst : goal.returns-in-SrcAndDst
unfolding check_loads
returns-in-SrcAndDst c = rw c.in-SrcAndDst.is (rw append_assoc at (grows_then c.check_load-in-SrcAndDst.ensures.lines c.check_load-in-SrcAndDst-2.ensures.lines))

pub returns-in-SrcOrDst : goal.returns-in-SrcOrDst
unfolding check_loads
returns-in-SrcOrDst c = rw c.in-SrcOrDst.is (grows_then c.push_load.ensures.lines (grows_then c.add.ensures.lines c.check_load-in-SrcOrDst.ensures.lines))
