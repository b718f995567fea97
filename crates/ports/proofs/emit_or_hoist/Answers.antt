use Rattle.std.proofs.Common.{arith}
use Rattle.emit.proofs.Grow.{space_left, sized_then}
use Rattle.emit.proofs.Outcome.{handed_on}
use Rattle.conditions.specs.declared.Version.TheVariants.{V4, V6}
use Rattle.ports.proofs.Hoisting.{ethertype_size, l4_size, first_refused, second_refused, third_refused, hoisted}
use Rattle.ports.proofs.emit_or_hoist.Goals as goal

pub returns-in_err-hoist_ethertype-clause-answer : goal.returns-in_err-hoist_ethertype-clause-answer
returns-in_err-hoist_ethertype-clause-answer c =
    handed_on c.from_residual.ensures.1
    (first_refused c.args.guards c.hoist_ethertype.ensures.step c.in_err-hoist_ethertype.was)

pub hoist_l4-requires : goal.hoist_l4-requires
hoist_l4-requires c = space_left 2 (omega arith) c.requires (ethertype_size c.args.guards.ethertype c.hoist_ethertype.ensures.step c.in_ok-hoist_ethertype.was)

pub returns-in_err-hoist_l4-clause-answer : goal.returns-in_err-hoist_l4-clause-answer
returns-in_err-hoist_l4-clause-answer c =
    handed_on c.from_residual-in_err-hoist_l4.ensures.1
    (second_refused c.args.guards c.hoist_ethertype.ensures.step c.in_ok-hoist_ethertype.was c.hoist_l4.ensures.step c.in_err-hoist_l4.was)

pub hoist_l4-requires-2 : goal.hoist_l4-requires-2
hoist_l4-requires-2 c =
    let g = c.args.guards in
    let y = ethertype_size g.ethertype c.hoist_ethertype.ensures.step c.in_ok-hoist_ethertype.was in
    space_left 6 (omega arith) c.requires (sized_then 6 (omega arith) y (l4_size V4 g.ip4_proto c.hoist_l4.ensures.step c.in_ok-hoist_l4.was))

pub returns-in_err-hoist_l4-2-clause-answer : goal.returns-in_err-hoist_l4-2-clause-answer
returns-in_err-hoist_l4-2-clause-answer c =
    handed_on c.from_residual-in_err-hoist_l4-2.ensures.1
    (third_refused c.args.guards c.hoist_ethertype.ensures.step c.in_ok-hoist_ethertype.was c.hoist_l4.ensures.step c.in_ok-hoist_l4.was c.hoist_l4-2.ensures.step c.in_err-hoist_l4-2.was)

pub hoist_ports-requires : goal.hoist_ports-requires
hoist_ports-requires c =
    let g = c.args.guards in
    let y = ethertype_size g.ethertype c.hoist_ethertype.ensures.step c.in_ok-hoist_ethertype.was in
    let z = sized_then 6 (omega arith) y (l4_size V4 g.ip4_proto c.hoist_l4.ensures.step c.in_ok-hoist_l4.was) in
    space_left 10 (omega arith) c.requires (sized_then 10 (omega arith) z (l4_size V6 g.ip6_nh c.hoist_l4-2.ensures.step c.in_ok-hoist_l4-2.was))

pub returns-clause-answer : goal.returns-clause-answer
returns-clause-answer c =
    hoisted c.args.guards c.hoist_ethertype.ensures.step c.in_ok-hoist_ethertype.was c.hoist_l4.ensures.step c.in_ok-hoist_l4.was c.hoist_l4-2.ensures.step
    c.in_ok-hoist_l4-2.was c.hoist_ports.ensures.step
