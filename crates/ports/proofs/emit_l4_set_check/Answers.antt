use Rattle.codegen.specs.Emit.{l4_set_check}
use Rattle.emit.proofs.Grow.{grows_then}
use Rattle.ports.proofs.emit_l4_set_check.Goals as goal

pub returns-in-TcpOrUdp-clause-lines : goal.returns-in-TcpOrUdp-clause-lines
unfolding l4_set_check
returns-in-TcpOrUdp-clause-lines c = rw c.in-TcpOrUdp.is (grows_then c.add.ensures.lines c.need-in-TcpOrUdp.ensures.lines)
