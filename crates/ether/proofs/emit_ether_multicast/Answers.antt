use Rattle.std.proofs.Common.{rules}
use Rattle.codegen.specs.Emit.{ether, emit_primitive}
use Rattle.emit.proofs.Grow.{grows_then}
use Rattle.ether.proofs.emit_ether_multicast.Goals as goal

pub returns-in-Ethernet-clause-answer : goal.returns-in-Ethernet-clause-answer
unfolding ether emit_primitive
returns-in-Ethernet-clause-answer c = let g = grows_then c.add.ensures.lines c.add-in-Ethernet.ensures.lines in search rules
