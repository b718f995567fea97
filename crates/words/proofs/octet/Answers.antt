use Rattle.std.proofs.Common.{sym, ◌∙◌}
use Rattle.words.proofs.Scans.{no_stop, stop_found}
use Rattle.words.proofs.Addresses.{no_dot, no_byte, byte_more}
use Rattle.words.proofs.octet.Goals as goal

pub returns-in_err-dot-clause-none : goal.returns-in_err-dot-clause-none
returns-in_err-dot-clause-none c = rw c.from_residual.ensures (no_dot c.args.text.now (no_stop 46 c.args.text.now (sym c.find.ensures ∙ c.in_err-dot.was)))

pub returns-in_err-byte-clause-none : goal.returns-in_err-byte-clause-none
returns-in_err-byte-clause-none c =
    let d = stop_found 46 c.args.text.now c.in_ok-dot.dot (sym c.find.ensures ∙ c.in_ok-dot.was) in
    rw c.from_residual-in_err-byte.ensures (no_byte c.args.text.now c.in_ok-dot.dot d.0 d.1 (sym c.decimal.ensures ∙ c.in_err-byte.was))

pub returns-clause-some : goal.returns-clause-some
returns-clause-some c =
    let d = stop_found 46 c.args.text.now c.in_ok-dot.dot (sym c.find.ensures ∙ c.in_ok-dot.was) in
    byte_more c.args.text.now c.in_ok-dot.dot d.0 d.1 c.in_ok-byte.byte (sym c.decimal.ensures ∙ c.in_ok-byte.was)
