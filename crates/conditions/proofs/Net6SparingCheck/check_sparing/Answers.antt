use Rattle.std.proofs.Common.{rules, arith, ◌≡◌, ◌∙◌, ◌+◌, ◌*◌, length}
use Rattle.emit.proofs.Grow.{sized, sized_then, none, grows_then}
use Rattle.conditions.proofs.Nets.{tests_more, tests_last, tests_end}
use Rattle.conditions.proofs.Net6SparingCheck.check_sparing.Goals as goal

pub returns-then-mask-clause-lines : goal.returns-then-mask-clause-lines
returns-then-mask-clause-lines c =
    let w = c.args.self.now in
    let l = c.loop-i in
    let q = c.well_formed in
    let n : length w.masks ≡ 8 = search rules in
    let m : length w.expected ≡ 8 = search rules in
    l.invariant.rest _
    (rw (tests_last w.masks w.expected (c.args.off + 2 * l.i) l.i (omega arith) (omega arith) c.if-mask.true, ← c.from.ensures, ← c.from-expected.ensures) c.check_last.ensures.lines)

pub loop-i-preserved : goal.loop-i-preserved
loop-i-preserved c =
    let w = c.args.self.now in
    let l = c.loop-i in
    let q = c.well_formed in
    let n : length w.masks ≡ 8 = search rules in
    let m : length w.expected ≡ 8 = search rules in
    let place : c.args.off + 2 * (l.i + 1) ≡ c.args.off + 2 * l.i + 2 = omega arith in
    record {
      most = omega arith;
      size = sized_then ((l.i + 1) * 2) (omega arith) l.invariant.size (sized 2 (omega arith) c.check.ensures.lines);
      spared = c.check.ensures.spared ∙ l.invariant.spared;
      rest = λ f g. l.invariant.rest f
          (rw (tests_more w.masks w.expected (c.args.off + 2 * l.i) l.i (omega arith) (omega arith) c.if-mask.false, ← c.from-expected.ensures)
          (grows_then c.check.ensures.lines (rw place at g)));
    }

pub returns-clause-lines : goal.returns-clause-lines
returns-clause-lines c =
    let w = c.args.self.now in
    let l = c.loop-i in
    let q = c.well_formed in
    let n : length w.masks ≡ 8 = search rules in
    l.invariant.rest _ (rw (tests_end w.masks w.expected (c.args.off + 2 * l.i) l.i (omega arith)) (none l.e))
