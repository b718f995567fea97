use Rattle.std.proofs.Common.{ap, ◌∙◌, cond, None}
use Rattle.codegen.specs.Emit.{emit_ethertype}
use Rattle.ports.proofs.Hoisting.{raw, known_follows}
use Rattle.ports.proofs.hoist_ethertype.Goals as goal

pub returns-in-Some-clause-step : goal.returns-in-Some-clause-step
returns-in-Some-clause-step c =
    let a = c.args in
    let L = a.e.now.link in
    known_follows L (emit_ethertype L) (ap (λ b. cond b None a.ethertype) (raw L c.if-ne.ensures) ∙ c.in-Some.is) c.emit_ethertype.ensures.answer
