use Rattle.records.specs.Order.{row_at}
use Rattle.records.proofs.Writes.{Filling}
use Rattle.records.proofs.write_items.Given as goal

abbrev pub invariant-loop-i : goal.invariant-loop-i
invariant-loop-i g l = Filling (λ s. row_at g.T.Record.written l.items s.place) l.initial.tree l.slots l.tree l.i
