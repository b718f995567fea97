use Rattle.std.proofs.Common.{◌≡◌, ◌-◌}
use Rattle.ast.specs.File.{nodes_at}
use Rattle.reader.specs.Reader.{place}
use Rattle.reader.specs.Checking.{passed}
use Rattle.reader.proofs.good_records.Given as goal

abbrev pub invariant-loop-i : goal.invariant-loop-i
invariant-loop-i l = passed (nodes_at (l.n - l.i) (place l.i) l.tree) ≡ passed (nodes_at l.n 8 l.tree)
