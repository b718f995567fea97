use Rattle.std.proofs.Common.{◌+◌}
use Rattle.codegen.specs.Emit.{check_blocks, check_range}
use Rattle.ports.proofs.Hoisting.{then_at}
use Rattle.ports.proofs.emit_portrange.Goals as goal

pub returns : goal.returns
returns c =
    let a = c.args in
    then_at (λ n. check_blocks a.dir (check_range a.range.now.low a.range.now.high n) (check_range a.range.now.low a.range.now.high (n + 2))) c.emit_port_prereqs_set.ensures.lines
    (rw c.net_offset-n.ensures.offset at c.sparing_sides.ensures)
