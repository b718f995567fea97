use Rattle.records.proofs.Slices.{Popping}
use Rattle.records.proofs.Order.pop.Given as goal

abbrev pub invariant-loop-self : goal.invariant-loop-self
invariant-loop-self l = Popping l.depth l.initial.self l.self

abbrev pub decreases-loop-self : goal.decreases-loop-self
decreases-loop-self l = l.self.top
