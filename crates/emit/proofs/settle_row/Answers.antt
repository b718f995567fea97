use Rattle.emit.proofs.Resolving.{between}
use Rattle.emit.proofs.settle_row.Goals as goal

pub resolve_all-requires : goal.resolve_all-requires
resolve_all-requires c = rw (between c.args.mark c.args.len c.args.row.now c.requires.mark) c.requires.below

pub returns-clause-insns : goal.returns-clause-insns
returns-clause-insns c = rw (between c.args.mark c.args.len c.args.row.now c.requires.mark) at c.resolve_all.ensures
