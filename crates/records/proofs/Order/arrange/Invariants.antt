use Rattle.std.proofs.Common.{length}
use Rattle.records.proofs.Slices.{Arranging}
use Rattle.records.proofs.Order.arrange.Given as goal

abbrev pub invariant-loop-left : goal.invariant-loop-left
invariant-loop-left g l = Arranging g.T.Record.deep g.T.Record.joins l.items l.left l.self

abbrev pub decreases-loop-left : goal.decreases-loop-left
decreases-loop-left g l = length l.left
