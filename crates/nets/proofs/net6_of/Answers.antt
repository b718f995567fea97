use borrow.Author.Rules.{rules}
use mathlib.Core.Path.{◌≡◌, sym, ◌∙◌}
use lib.ListN.{length, get_or}
use Rattle.std.specs.Int.Bits.{bit_and}
use Rattle.bpf.proofs.Arrays.{values, from_fn_values}
use Rattle.codegen.specs.Nets6.{tabulate, under}
use Rattle.nets.proofs.Numbers.{expected_are}
use Rattle.nets.proofs.net6_of.Goals as goal

pub returns : goal.returns
unfolding tabulate under values
returns c = let a = c.args in
    let q = c.well_formed in
    let n : length a.segments ≡ 8 = search rules in
    let m = c.masks_of-masks.ensures in (
      m,
      from_fn_values c.from_fn-expected.ensures.items (λ i. bit_and (get_or a.segments i 0) (get_or c.masks_of-masks.result i 0)) (λ i y q k. search rules)
          ∙ rw m (sym (expected_are a.prefix a.segments n)),
    )
