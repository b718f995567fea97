use Rattle.std.proofs.Common.{◌+◌, ◌-◌, ◌*◌}
use Rattle.ast.specs.File.{count_of}
use Rattle.compile.proofs.Noted.+emission.Given as goal

-- What is left of the records, twice, and how far a record's own functions are from reading its parts.
abbrev pub decreases-emit_and : goal.decreases-emit_and
decreases-emit_and l = (count_of l.self.tree.now - l.i) * 3 + 1

abbrev pub decreases-emit_arms : goal.decreases-emit_arms
decreases-emit_arms l = (count_of l.self.tree.now - l.i) * 3

abbrev pub decreases-emit_expr : goal.decreases-emit_expr
decreases-emit_expr l = (count_of l.self.tree.now - l.i) * 3 + 2

abbrev pub decreases-emit_not : goal.decreases-emit_not
decreases-emit_not l = (count_of l.self.tree.now - l.i) * 3 + 1

abbrev pub decreases-emit_or : goal.decreases-emit_or
decreases-emit_or l = (count_of l.self.tree.now - l.i) * 3 + 1
