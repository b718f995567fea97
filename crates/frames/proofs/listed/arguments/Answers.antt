use Rattle.frames.proofs.Numbered.{one_more}
use Rattle.frames.proofs.listed.arguments.Goals as goal

pub loop-number-preserved : goal.loop-number-preserved
loop-number-preserved g c = one_more _ _ _ c.in_ok-push.ensures.items c.loop-number.invariant.0 c.loop-number.invariant.1
