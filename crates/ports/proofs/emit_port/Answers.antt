use Rattle.std.proofs.Common.{◌+◌, None}
use Rattle.codegen.specs.declared.Op.TheVariants.{LdhInd}
use Rattle.codegen.specs.Emit.{check_loads}
use Rattle.conditions.specs.Loads.{load}
use Rattle.ports.proofs.Hoisting.{then_at}
use Rattle.ports.proofs.emit_port.Goals as goal

pub returns : goal.returns
returns c =
    let a = c.args in
    then_at (λ n. check_loads a.dir a.port (load (LdhInd n) None) (load (LdhInd (n + 2)) None)) c.emit_port_prereqs_set.ensures.lines
    (rw c.net_offset-n.ensures.offset at c.check_addr4.ensures)
