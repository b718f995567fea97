use borrow.Author.Rules.{rules}
use mathlib.Core.Path.{sym, ◌∙◌}
use Prim.Native.Nat.{◌+◌, ◌*◌}
use Rattle.bpf.specs.Bytes.{be}
use Rattle.bpf.proofs.Arrays.{values, from_fn_values}
use Rattle.reader.specs.Reader.{place}
use Rattle.reader.proofs.Zeros.{eight}
use Rattle.reader.proofs.RecordReader.segments.Goals as goal

pub returns : goal.returns
unfolding values
returns c = let s = c.args.self.tree.now in
    let at = place c.args.self.index in
    from_fn_values c.from_fn.ensures.items (λ i. be 2 (at + (8 + 2 * i)) s) (λ i y q k. search rules) ∙ sym (eight at s)
