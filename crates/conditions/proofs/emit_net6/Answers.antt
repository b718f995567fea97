use Rattle.std.proofs.Common.{rules, arith, ◌≡◌, ◌+◌, length}
use Rattle.bpf.specs.Program.{Each}
use Rattle.ast.proofs.Proper.{Half}
use Rattle.codegen.proofs.Nets6.{follow}
use Rattle.conditions.proofs.Nets.{halves}
use Rattle.conditions.proofs.Starts.{guarding}
use Rattle.conditions.proofs.emit_net6.Goals as goal

pub returns : goal.returns
returns c =
    let a = c.args in
    let k = c.net_offset-n.result in
    let n : length a.segments ≡ 8 = search rules in
    let h : Each Half a.segments = halves a.segments _ c.well_formed.1.1.1.0.1.1 in
    grind (arith, guarding, follow a.prefix (k + 8) a.segments (n, h), follow a.prefix (k + 24) a.segments (n, h))
