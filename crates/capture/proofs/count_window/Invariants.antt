use Rattle.capture.proofs.Passing.{Passed}
use Prim.Native.Nat.{◌-◌}
use lib.ListN.{length}
use Rattle.capture.proofs.count_window.Given as goal

abbrev pub invariant-loop-n : goal.invariant-loop-n
invariant-loop-n l = Passed l.program l.order l.bytes l.tally.stop l.tally.kept l.tally.given

abbrev pub decreases-loop-n : goal.decreases-loop-n
decreases-loop-n l = length l.bytes - l.tally.stop
