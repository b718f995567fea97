use Rattle.conditions.specs.Loads.{emit_version}
use Rattle.ports.proofs.Hoisting.{known_follows}
use Rattle.ports.proofs.hoist_l4.Goals as goal

pub returns-in-Some-clause-step : goal.returns-in-Some-clause-step
returns-in-Some-clause-step c = let L = c.args.e.now.link in known_follows L (emit_version L c.args.version) c.in-Some.is c.emit_l4.ensures.answer
