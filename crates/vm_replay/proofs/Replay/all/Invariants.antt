-- Each group so far has less than 65,536 runs and differences.
use Rattle.std.proofs.Common.{◌*◌, ◌≤◌}
use Rattle.vm_replay.proofs.Replay.all.Given as goal

abbrev pub invariant-loop-group : goal.invariant-loop-group
invariant-loop-group g l = (l.tally.runs ≤ 65536 * l.group-index) × (l.tally.differences ≤ 65536 * l.group-index)
