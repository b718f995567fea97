-- The arguments so far stand at their numbers.
use Rattle.std.proofs.Common.{◌≡◌, length}
use Rattle.frames.proofs.Numbered.{Numbered}
use Rattle.frames.proofs.listed.arguments.Given as goal

abbrev pub invariant-loop-number : goal.invariant-loop-number
invariant-loop-number g l = (length l.all.items ≡ l.number) × Numbered l.all.items
