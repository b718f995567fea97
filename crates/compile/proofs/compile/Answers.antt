use Rattle.std.proofs.Common.{arith}
use Rattle.std.proofs.lemmas.Result.{err_from_is_err_and}
use Rattle.reader.specs.Reader.{tree_of}
use Rattle.emit.proofs.Outcome.{reply_done, reply_refused}
use Rattle.compile.proofs.Walked.{tree_sized}
use Rattle.compile.proofs.Endings.{begun_room, compiled, compiled_down, compiled_done, ended}
use Rattle.compile.proofs.compile.Goals as goal

pub emit_expr-requires-clause-room : goal.emit_expr-requires-clause-room
emit_expr-requires-clause-room c = begun_room c.args.e.now c.requires c.begin.ensures.empty c.begin.ensures.lent

pub returns-in_err-emit_expr : goal.returns-in_err-emit_expr
returns-in_err-emit_expr c =
    let p = err_from_is_err_and c.from_residual.result c.from_residual.ensures.1 in
    rw (p.1, p.2) (compiled (tree_of c.args.tree.now 0) c.begin.ensures.lent (compiled_down (tree_of c.args.tree.now 0) c.begin.ensures.facts (reply_refused c.emit_expr.ensures c.in_err-emit_expr.was) c.emit_expr.ensures.kept))

pub finish-requires : goal.finish-requires
finish-requires c =
    let b = c.begin.new.e in
    let w = reply_done c.emit_expr.ensures c.in_ok-emit_expr.was in
    let z = ended c.args.e.now c.requires c.begin.ensures.empty c.begin.ensures.lent w.grew (tree_sized b.link (tree_of c.args.tree.now 0) b.facts c.requires.proper w) in
    record { insns = omega (arith, z.insns); successes = omega (arith, z.successes); failures = omega (arith, z.failures); won = z.won; lost = z.lost }

pub returns : goal.returns
returns c =
    let w = reply_done c.emit_expr.ensures c.in_ok-emit_expr.was in
    let b = c.begin.ensures in
    compiled (tree_of c.args.tree.now 0) b.lent (compiled_done (tree_of c.args.tree.now 0) b.facts w.eq (c.finish.ensures.program w.code c.begin.new.e b.empty w.grew))
