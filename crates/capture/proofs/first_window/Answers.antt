use Rattle.capture.proofs.Passing.{rest_is}
use Rattle.capture.specs.Turns.{window}
use Prim.Native.Nat.{◌+◌}
use lib.ListN.{drop}
use mathlib.Core.Path.{◌≡◌, ap, ◌∙◌}
use Rattle.std.proofs.Math.Nat.{add_comm, zero-add}
use Rattle.capture.proofs.first_window.Goals as goal

pub returns : goal.returns
returns c =
    let w = window c.args.program.now c.args.order (drop 24 c.args.bytes.now) in
    let v : c.count_window-step.result ≡ w = c.count_window-step.ensures ∙ ap (window c.args.program.now c.args.order) (rest_is c.args.bytes.now 24) in
    rw (zero-add w.tally.kept, zero-add w.tally.given) (ap (λ s. record { stage = s.stage; tally = record s.tally { stop = s.tally.stop + 24 } }) v ∙ rw (add_comm w.tally.stop 24))
