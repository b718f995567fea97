use Rattle.std.proofs.Common.{arith}
use Rattle.conditions.specs.Loads.{header}
use Rattle.emit.proofs.Grow.{sized, space_left}
use Rattle.ports.proofs.Hoisting.{l4_short, then_at}
use Rattle.ports.proofs.path.Goals as goal

pub header-requires : goal.header-requires
header-requires c = space_left 3 (omega arith) c.requires (sized 3 (l4_short _ c.args.want) c.l4_check.ensures.lines)

pub returns-clause-lines : goal.returns-clause-lines
returns-clause-lines c = then_at (header c.args.version) c.l4_check.ensures.lines c.header.ensures.lines
