use borrow.Author.Rules.{rules}
use mathlib.Core.Path.{◌∙◌}
use Prim.Native.Nat.{◌/◌, ◌%◌}
use Rattle.bpf.proofs.Arrays.{values, from_fn_values}
use Rattle.codegen.specs.Emit.{mask16}
use Rattle.codegen.specs.Nets6.{tabulate}
use Rattle.nets.specs.Masks.{mask_at}
use Rattle.nets.proofs.Numbers.{masks_are}
use Rattle.nets.proofs.masks_of.Goals as goal

pub returns : goal.returns
unfolding tabulate values
returns c = let p = c.args.prefix in
    from_fn_values c.from_fn.ensures.items (λ i. mask_at i (p / 16) (mask16 (p % 16))) (λ i y q k. search rules) ∙ masks_are p
