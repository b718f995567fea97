use Rattle.std.proofs.Common.{◌-◌, arith}
use Rattle.reader.proofs.Forests.{one_lacks}
use Rattle.reader.proofs.one_tree.Goals as goal

pub returns-then-trees-asked : goal.returns-then-trees-asked
returns-then-trees-asked c = one_lacks c.requires c.loop-i.i (c.loop-i.i - 1) (omega arith) (omega arith) c.loop-i.invariant.1 c.kind.ensures (c.parts-asked.ensures _) c.if-trees-asked.true
