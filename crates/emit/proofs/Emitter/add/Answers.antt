use Rattle.emit.proofs.Grow.{one_line, one_apart}
use Rattle.emit.proofs.Emitter.add.Goals as goal

pub returns-clause-lines : goal.returns-clause-lines
returns-clause-lines c =
    one_line c.args.line (rw c.assemble.ensures at c.put.ensures)
    (rw (c.exit_of.ensures.exit, c.patch_of.ensures, c.from.ensures, c.sets_x.ensures) at c.wait.ensures)
    c.exit_of.ensures.near

pub returns-clause-apart : goal.returns-clause-apart
returns-clause-apart c =
    one_apart c.args.line (rw c.assemble.ensures at c.put.ensures)
    (rw (c.exit_of.ensures.exit, c.patch_of.ensures, c.from.ensures, c.sets_x.ensures) at c.wait.ensures)
