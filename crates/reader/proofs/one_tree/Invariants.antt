use Rattle.std.specs.Prelude.{Ok}
use Rattle.std.proofs.Common.{◌≡◌, ◌+◌, ◌≤◌}
use Rattle.reader.specs.Reader.{forest}
use Rattle.reader.proofs.Forests.{sizes}
use Rattle.reader.proofs.one_tree.Given as goal

abbrev pub invariant-loop-i : goal.invariant-loop-i
invariant-loop-i l = (l.trees + l.i ≤ l.n) × (sizes (forest l.tree l.i) ≡ Ok l.trees)
