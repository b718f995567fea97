use Rattle.std.proofs.Common.{arith, length}
use Rattle.std.proofs.lemmas.Result.{err_from_is_err_and}
use Rattle.build.proofs.Building.{build_turned, build_made}
use Rattle.build.proofs.build.Goals as goal

pub returns-in_err-count : goal.returns-in_err-count
returns-in_err-count c =
    let p = err_from_is_err_and c.from_residual.result c.from_residual.ensures.1 in
    rw (p.1, p.2) (build_turned c.args.tree.now (length c.args.program.now) (c.fill.ensures.after (λ y e. e)) c.generated.ensures c.in_err-count.was)

pub returns : goal.returns
returns c =
    build_made c.args.tree.now (length c.args.program.now) (c.fill.ensures.after (λ y e. e)) c.generated.ensures c.in_ok-count.was (omega (arith, c.generated.auto, c.fill.ensures.len)) c.within.ensures
