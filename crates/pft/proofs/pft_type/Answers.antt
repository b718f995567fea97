use native.Mathlib.Omega.{arith}
use mathlib.Core.Path.{sym, ◌∙◌}
use Rattle.typing.proofs.Places.{place_inside}
use Rattle.pft.proofs.pft_type.Goals as goal

pub beside-requires : goal.beside-requires
beside-requires c =
    let q = c.well_formed in
    let k = place_inside c.args.link c.args.text.now _ _ (sym c.type_line.ensures.0 ∙ c.in-Err.is) in
    omega arith
