use Rattle.std.proofs.lemmas.Result.{err_from_is_err_and}
use Rattle.compile.proofs.Endings.{second_open, first_refused, second_refused, program}
use Rattle.compile.proofs.finish.Goals as goal

pub returns-in_err-settle : goal.returns-in_err-settle
returns-in_err-settle c =
    let p = err_from_is_err_and c.from_residual.result c.from_residual.ensures.1 in
    rw (p.1, p.2) (record { program = λ k d s g. first_refused c.settle.ensures k d s g c.in_err-settle.was })

pub settle-requires-2 : goal.settle-requires-2
settle-requires-2 c = second_open c.requires c.settle.ensures c.in_ok-settle.was

pub returns-in_err-settle-2 : goal.returns-in_err-settle-2
returns-in_err-settle-2 c =
    let p = err_from_is_err_and c.from_residual-in_err-settle-2.result c.from_residual-in_err-settle-2.ensures.1 in
    rw (p.1, p.2) (record { program = λ k d s g. second_refused c.settle.ensures k d s g c.in_ok-settle.was c.settle-2.ensures c.in_err-settle-2.was })

pub returns : goal.returns
returns c = record { program = λ k d s g. program c.settle.ensures k d s g c.in_ok-settle.was c.settle-2.ensures c.in_ok-settle-2.was c.put.ensures c.put-2.ensures }
