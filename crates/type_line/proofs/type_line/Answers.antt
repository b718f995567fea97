use Rattle.std.proofs.Common.{sym, ◌∙◌, refl, rules}
use Rattle.type_line.proofs.Top.{leaves, typed_strange, link_known, typed_fault, typed_whole}
use Rattle.type_line.proofs.type_line.Goals as goal

pub returns-in_err-link_type : goal.returns-in_err-link_type
returns-in_err-link_type c =
    let k = leaves (typed_strange c.args.link c.args.line.now c.in_err-link_type.field-0.0 (sym c.link_type.ensures ∙ c.in_err-link_type.was)) in
    (search (rules, k.0), k.1)

pub returns-in_err-size : goal.returns-in_err-size
returns-in_err-size c =
    let good = link_known c.args.link c.in_ok-link_type.field-0 (sym c.link_type.ensures ∙ c.in_ok-link_type.was) in
    let k = leaves (typed_fault c.args.link c.args.line.now _ _ good _ c.read_line.ensures c.in_err-size.field-0.0 c.in_err-size.was) in
    (search (rules, k.0), k.1)

pub returns : goal.returns
returns c =
    let good = link_known c.args.link c.in_ok-link_type.field-0 (sym c.link_type.ensures ∙ c.in_ok-link_type.was) in
    let k = leaves (typed_whole c.args.link c.args.line.now _ _ good _ c.read_line.ensures c.in_ok-size.size c.in_ok-size.was refl) in
    (c.place_file.ensures.0 ∙ k.0, c.place_file.ensures.1 ∙ k.1)
