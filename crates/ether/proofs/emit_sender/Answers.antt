use Rattle.emit.proofs.Grow.{grows_then}
use Rattle.emit.proofs.Outcome.{answer}
use Rattle.ether.proofs.emit_sender.Goals as goal

pub returns-in-Src-clause-answer : goal.returns-in-Src-clause-answer
returns-in-Src-clause-answer c = rw c.in-Src.is (answer (grows_then c.check.ensures.lines c.check_sparing.ensures.lines))
