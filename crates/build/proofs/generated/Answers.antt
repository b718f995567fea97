use Rattle.std.proofs.Common.{arith, sym, ◌∙◌}
use Rattle.std.proofs.lemmas.Result.{err_from_is_err_and}
use Rattle.generate.proofs.Generating.{part_refused}
use Rattle.build.proofs.Building.{stands, program_of_lem, program_refused}
use Rattle.build.proofs.generated.Goals as goal

pub returns-in_err-link : goal.returns-in_err-link
returns-in_err-link c =
    let p = err_from_is_err_and c.from_residual.result c.from_residual.ensures.1 in
    rw (p.1, p.2) (part_refused (program_refused c.args.tree.now _ (sym c.check.ensures ∙ c.in_err-link.was)))

pub generate-requires : goal.generate-requires
generate-requires c = stands c.args.tree.now c.in_ok-link.link (λ i. omega (arith, c.type_inv.tree i)) (sym c.check.ensures ∙ c.in_ok-link.was)

pub returns : goal.returns
returns c = rw (program_of_lem c.args.tree.now c.in_ok-link.link (sym c.check.ensures ∙ c.in_ok-link.was)) c.generate.ensures
