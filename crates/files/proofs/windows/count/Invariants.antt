-- What was read so far is held, and the room that is left to the most bytes of a file falls.
use Rattle.std.proofs.Common.{◌+◌, ◌-◌, length}
use Rattle.files.specs.Windows.{most}
use Rattle.files.proofs.Reading.{Going}
use Rattle.files.proofs.windows.count.Given as goal

abbrev pub invariant-loop-link : goal.invariant-loop-link
invariant-loop-link g l = Going l.program l.link l.initial.buffer l.buffer l.p

abbrev pub decreases-loop-link : goal.decreases-loop-link
decreases-loop-link g l = most + length l.buffer - (l.p.tally.stop + l.p.left)
