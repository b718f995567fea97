use borrow.Author.Rules.{rules}
use mathlib.Core.Path.{sym, ◌∙◌}
use Prim.Native.Nat.{◌+◌}
use Rattle.bpf.specs.Bytes.{be}
use Rattle.bpf.proofs.Arrays.{values, from_fn_values}
use Rattle.reader.specs.Reader.{place}
use Rattle.reader.proofs.Fields.{address_bytes}
use Rattle.reader.proofs.WholeRecord.station.Goals as goal

pub returns : goal.returns
unfolding values
returns c = let r = c.args.self.reader in
    let s = r.tree.now in
    let at = place r.index in
    from_fn_values c.from_fn.ensures.items (λ i. be 1 (at + (8 + i)) s) (λ i y q k. search rules) ∙ sym (address_bytes at s)
