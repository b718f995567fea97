use Rattle.capture.specs.Counting.{keeps}
use Rattle.capture.specs.Capture.{piece, part}
use Rattle.capture.specs.declared.Front.TheVariants.{Past, Over}
use Rattle.capture.proofs.Passing.{passed_next, passed_all, whole_at}
use mathlib.Core.Path.{◌≡◌, refl, sym, ap, ◌∙◌}
use mathlib.Core.Bool.{Bool, true, false, cond}
use mir.Val.{bool_byte}
use Prim.Native.Nat.{◌+◌}
use Rattle.capture.proofs.count_window.Goals as goal

bit : (b : Bool) → bool_byte b ≡ cond b 1 0
bit true = refl
bit false = refl

pub loop-n-preserved : goal.loop-n-preserved
loop-n-preserved c =
    let e = sym c.front.ensures ∙ c.in-Whole.is in
    let f = whole_at c.args.order c.args.bytes.now c.loop-n.tally.stop c.in-Whole.n e in
    let b : c.keeps.result ≡ keeps c.args.program.now (part c.args.bytes.now (piece (c.loop-n.tally.stop + 16) c.in-Whole.n)) = c.keeps.ensures ∙ rw (c.frame.ensures, f.captured) in
    passed_next c.loop-n.invariant c.in-Whole.n _ e (ap (λ k. c.loop-n.tally.kept + k) (c.from.ensures ∙ ap bool_byte b ∙ bit _))

pub returns-in-Past : goal.returns-in-Past
returns-in-Past c = passed_all c.loop-n.invariant Past (sym c.front.ensures ∙ c.in-Past.is) tt

pub returns-in-Over : goal.returns-in-Over
returns-in-Over c = passed_all c.loop-n.invariant Over (sym c.front.ensures ∙ c.in-Over.is) tt
