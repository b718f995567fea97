use Rattle.std.proofs.Common.{◌≡◌, length}
use Rattle.guards.specs.Notes.{Noted}
use Rattle.guards.proofs.required_guards.Given as goal

abbrev pub invariant-loop-i : goal.invariant-loop-i
invariant-loop-i l = (length l.notes ≡ length l.initial.notes) × Noted l.tree l.notes l.i l.n
