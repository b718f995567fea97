use Rattle.codegen.specs.Emit.{l4_check}
use Rattle.emit.proofs.Grow.{grows_then}
use Rattle.ports.proofs.l4_check.Goals as goal

pub returns-clause-lines : goal.returns-clause-lines
unfolding l4_check
returns-clause-lines c =
    let off = c.net_offset.ensures.offset in
    let place = c.proto_place.ensures.place in
    rw (← off, ← place) (grows_then c.add.ensures.lines c.emit_l4_set_check.ensures.lines)
