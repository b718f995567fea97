use Rattle.std.proofs.Common.{◌*◌, ◌≤◌}
use Rattle.capture.proofs.fetched.Given as goal

abbrev pub invariant-loop-at : goal.invariant-loop-at
invariant-loop-at l = (l.sum ≤ 2 * l.at) × (l.at ≤ 65663)
