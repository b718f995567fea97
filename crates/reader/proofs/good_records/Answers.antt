use Rattle.std.proofs.Common.{sym, ◌∙◌, arith}
use Rattle.reader.proofs.Checks.{handed_on}
use Rattle.reader.proofs.Forests.{turn_bad, turn_good, nodes_end}
use Rattle.reader.proofs.good_records.Goals as goal

pub returns-in_err-check : goal.returns-in_err-check
returns-in_err-check c = handed_on _ c.from_residual.ensures.1 (sym (turn_bad c.args.tree.now c.args.n c.loop-i.i (omega arith) (sym c.check.ensures ∙ c.in_err-check.was)) ∙ c.loop-i.invariant)

pub loop-i-preserved : goal.loop-i-preserved
loop-i-preserved c = sym (turn_good c.args.tree.now c.args.n c.loop-i.i (omega arith) (sym c.check.ensures ∙ c.in_ok-check.was)) ∙ c.loop-i.invariant

pub returns : goal.returns
returns c = nodes_end c.args.tree.now c.args.n c.loop-i.i (omega arith) ∙ c.loop-i.invariant
