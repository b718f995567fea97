use Rattle.count.proofs.Answers.{count_small}
use Rattle.capture.specs.Counting.{frames_in}
use lib.ListN.{length}
use mathlib.Core.Path.{ap, sym, ◌∙◌}
use native.Mathlib.Omega.{arith}
use Rattle.pft.proofs.pft_count.Goals as goal

pub beside-requires : goal.beside-requires
beside-requires c =
    let k = count_small c.args.tree.now (length c.args.program.now) c.args.capture.now in
    let e = ap (λ x. (frames_in x).kept) (sym c.count.ensures.0 ∙ c.in-Err.is) in
    omega arith
