use Rattle.std.proofs.Common.{◌+◌, ◌-◌, ◌*◌}
use Rattle.ast.specs.File.{count_of}
use Rattle.evaluate.proofs.Packet.+nodes.Given as goal

-- A record of a join is read by the function of its kind, and its parts at fewer records left.
abbrev pub decreases-eval_and : goal.decreases-eval_and
decreases-eval_and l = (count_of l.tree.now - l.i) * 2

abbrev pub decreases-eval_or : goal.decreases-eval_or
decreases-eval_or l = (count_of l.tree.now - l.i) * 2

abbrev pub decreases-eval_not : goal.decreases-eval_not
decreases-eval_not l = (count_of l.tree.now - l.i) * 2

abbrev pub decreases-eval_node : goal.decreases-eval_node
decreases-eval_node l = (count_of l.tree.now - l.i) * 2 + 1
