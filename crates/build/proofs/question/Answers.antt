use Rattle.std.proofs.lemmas.Result.{err_from_is_err_and}
use Rattle.build.proofs.Building.{question_turned, question_made}
use Rattle.build.proofs.question.Goals as goal

pub returns-in_err-count : goal.returns-in_err-count
returns-in_err-count c =
    let p = err_from_is_err_and c.from_residual.result c.from_residual.ensures.1 in
    rw (p.1, p.2) (question_turned c.args.tree.now c.generated.ensures.counts c.in_err-count.was)

pub returns : goal.returns
returns c = question_made c.args.tree.now c.generated.ensures.counts c.in_ok-count.was
