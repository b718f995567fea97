use Rattle.std.proofs.Common.{sym, ◌∙◌}
use Rattle.words.proofs.Addresses.{Three, four_bytes, no_fourth}
use Rattle.words.proofs.address.Goals as goal

pub returns-in_err-d : goal.returns-in_err-d
returns-in_err-d c =
    let h : Three c.args.text.now c.in_ok-c.rest.now c.in_ok-a.a c.in_ok-b.b c.in_ok-c.c = record { t = c.in_ok-a.rest.now; u = c.in_ok-b.rest.now; first = c.in_ok-a.ensures.some; second = c.in_ok-b.ensures.some; third = c.in_ok-c.ensures.some } in
    c.from_residual-in_err-d.ensures ∙ sym (no_fourth h (sym c.decimal.ensures ∙ c.in_err-d.was))

pub returns : goal.returns
returns c =
    let h : Three c.args.text.now c.in_ok-c.rest.now c.in_ok-a.a c.in_ok-b.b c.in_ok-c.c = record { t = c.in_ok-a.rest.now; u = c.in_ok-b.rest.now; first = c.in_ok-a.ensures.some; second = c.in_ok-b.ensures.some; third = c.in_ok-c.ensures.some } in
    sym (four_bytes h c.in_ok-d.d c.from_be_bytes.result (sym c.decimal.ensures ∙ c.in_ok-d.was) c.from_be_bytes.ensures)
