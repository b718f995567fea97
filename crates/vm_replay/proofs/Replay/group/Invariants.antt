-- Each case so far is a run, and at most one difference.
use Rattle.std.proofs.Common.{◌≡◌, ◌≤◌}
use Rattle.vm_replay.proofs.Replay.group.Given as goal

abbrev pub invariant-loop-index : goal.invariant-loop-index
invariant-loop-index g l = (l.tally.runs ≡ l.index) × (l.tally.differences ≤ l.index)
