use Rattle.std.proofs.Common.{arith, length}
use Rattle.std.specs.Prelude.{◌≡◌}
use Rattle.std.proofs.lemmas.Result.{err_from_is_err_and}
use Rattle.build.proofs.Building.{load_turned, load_made, load_moved}
use Rattle.build.proofs.load.Goals as goal

pub returns-in_err-now : goal.returns-in_err-now
returns-in_err-now c =
    let p = err_from_is_err_and c.from_residual.result c.from_residual.ensures.1 in
    rw (p.1, p.2) (load_turned c.args.tree.now (length c.args.program.now) (c.fill.ensures.after (λ y e. e)) c.generated.ensures c.args.count c.in_err-now.was)

pub returns-then-now-count : goal.returns-then-now-count
returns-then-now-count c =
    let e : length c.generated.new.part ≡ length c.args.program.now = omega (arith, c.generated.auto, c.fill.ensures.len) in
    load_moved c.args.tree.now (length c.args.program.now) (c.fill.ensures.after (λ y e. e)) c.generated.ensures c.args.count c.in_ok-now.was c.if-now-count.true (rw e at (c.fill-then-now-count.ensures.after (λ y e. e)))

pub returns : goal.returns
returns c =
    load_made c.args.tree.now (length c.args.program.now) (c.fill.ensures.after (λ y e. e)) c.generated.ensures c.args.count c.in_ok-now.was c.if-now-count.false (omega (arith, c.generated.auto, c.fill.ensures.len)) c.within.ensures
