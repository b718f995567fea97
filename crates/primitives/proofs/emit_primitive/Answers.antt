use Rattle.std.proofs.Common.{◌+◌, ◌*◌, ◌≤◌, length, rules}
use Rattle.codegen.proofs.Nets6.{whole_prefix}
use Rattle.codegen.specs.Emit.{net_offset, emit_primitive}
use Rattle.primitives.proofs.emit_primitive.Goals as goal

-- a host is a net whose prefix reaches over all segments
pub returns-in-Host6 : goal.returns-in-Host6
unfolding emit_primitive
returns-in-Host6 c =
    let n = net_offset c.args.e.now.link in
    let s = c.in-Host6.address in
    let l : 16 * length s ≤ 128 = search rules in
    rw (c.in-Host6.is, ← whole_prefix 128 (n + 8) s l, ← whole_prefix 128 (n + 24) s l) c.emit_net6.ensures
