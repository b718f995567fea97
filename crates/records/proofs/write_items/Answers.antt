use mathlib.Core.Path.{sym, ap, ◌∙◌}
use Rattle.std.proofs.Common.{rules, arith, length, false}
use Rattle.records.specs.Order.{slot}
use Rattle.records.proofs.Writes.{filling_next}
use Rattle.records.proofs.Stands.{inside_at, row_here}
use Rattle.records.proofs.write_items.Goals as goal

pub offset_bounds-items-slot : goal.offset_bounds-items-slot
offset_bounds-items-slot g c =
    let k = inside_at (length c.args.items.now) c.args.slots.now c.loop-i.i (slot 0 false 0) c.requires.2 c.loop-i-test.true in
    omega (arith, k)

pub bounds-items-slot : goal.bounds-items-slot
bounds-items-slot g c = inside_at (length c.args.items.now) c.args.slots.now c.loop-i.i (slot 0 false 0) c.requires.2 c.loop-i-test.true

pub loop-i-preserved : goal.loop-i-preserved
loop-i-preserved g c =
    let f = g.T.Record.written in
    let x = c.index-items-slot.result in
    let k = inside_at (length c.args.items.now) c.args.slots.now c.loop-i.i (slot 0 false 0) c.requires.2 c.loop-i-test.true in
    filling_next _ (slot 0 false 0) c.loop-i.invariant c.loop-i-test.true c.requires.1 (search rules)
    (c.bytes.ensures ∙ (ap f c.index-items-slot.is ∙ sym (row_here f c.args.items.now _ x k))) c.put.ensures
