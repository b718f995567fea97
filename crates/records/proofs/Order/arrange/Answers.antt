use mathlib.Core.Path.{refl, ap₂}
use Rattle.std.proofs.Common.{rules, ℕ, Bool, ◌-◌, length, take}
use Rattle.records.specs.Order.{slot}
use Rattle.records.proofs.Slices.{arranging_start, arranging_next, arranging_end}
use Rattle.records.proofs.Order.arrange.Goals as goal

pub loop-left-init : goal.loop-left-init
loop-left-init g c = arranging_start g.T.Record.deep g.T.Record.joins c.args.items.now c.args.self.now c.requires.0 c.requires.1 (search rules)

pub loop-left-preserved : goal.loop-left-preserved
loop-left-preserved g c =
    let l = c.loop-left.left.now in
    let same = ap₂ (λ (d : ℕ) (j : Bool). slot d j (length (take (length l - 1) l))) c.depth.ensures c.is_join.ensures in
    arranging_next g.T.Record.deep g.T.Record.joins c.item-item.result c.item-item.result _ c.loop-left.invariant c.in-len1-up.len_at_least refl c.item-item.is same c.pop.ensures c.place.ensures

pub returns : goal.returns
returns g c = arranging_end g.T.Record.deep g.T.Record.joins c.loop-left.invariant c.in_default.len_below c.pop-2.ensures
