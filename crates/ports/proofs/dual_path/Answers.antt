use Rattle.std.proofs.Common.{ℕ, ◌+◌, ◌≤◌, length, arith}
use Rattle.codegen.specs.declared.L4Set.{L4Set}
use Rattle.codegen.specs.Block.{Block}
use Rattle.codegen.specs.Emit.{l4_check, net_offset}
use Rattle.conditions.specs.declared.Version.TheVariants.{V4}
use Rattle.conditions.specs.Loads.{path}
use Rattle.emit.specs.declared.Emitter.{Emitter}
use Rattle.emit.specs.Grown.{Space, Grows}
use Rattle.emit.proofs.Grow.{grows_then, sized, space_left}
use Rattle.ports.proofs.Hoisting.{l4_short, path_short, then_at, dual_parts}
use Rattle.ports.proofs.dual_path.Goals as goal

-- the room after the fork and the path of IPv4
left : (n : ℕ) (want : L4Set) {A : Block} {e f k : Emitter} → length A ≤ 3 → Space 14 e → Grows A e f → Grows (path V4 n want) f k → Space 5 k
left n want {f = f} h s p q =
    let t : Space 11 f = space_left 3 (omega arith) s (sized 3 h p) in
    space_left 6 (omega arith) t (sized 6 (path_short (n + 9) n want V4) q)

pub add-requires : goal.add-requires
add-requires c =
    let s = left _ c.args.want (omega arith) c.requires c.fork.ensures.lines c.path.ensures.lines in
    record { insns = omega (arith, s.insns); writings = omega (arith, s.writings); free = tt }

pub l4_check-requires : goal.l4_check-requires
l4_check-requires c =
    let s = left _ c.args.want (omega arith) c.requires c.fork.ensures.lines c.path.ensures.lines in
    space_left 1 (omega arith) s (sized 1 (omega arith) c.add.ensures.lines)

pub header6-requires : goal.header6-requires
header6-requires c =
    let s = left _ c.args.want (omega arith) c.requires c.fork.ensures.lines c.path.ensures.lines in
    let over = sized 1 (omega arith) c.add.ensures.lines in
    let check = sized 3 (l4_short _ c.args.want) c.l4_check.ensures.lines in
    record { insns = omega (arith, s.insns, over.insns, check.insns); writings = omega (arith, s.writings, over.writings, check.writings) }

pub returns-clause-lines : goal.returns-clause-lines
returns-clause-lines c =
    let a = c.args in
    let want = a.want in
    let fork4 = then_at (λ n. path V4 n want) c.fork.ensures.lines c.path.ensures.lines in
    let over = grows_then fork4 c.add.ensures.lines in
    let both = then_at (λ n. l4_check (n + 6) want) over c.l4_check.ensures.lines in
    rw (← dual_parts a.off (net_offset a.e.now.link) c.l4_len-len.result want c.l4_len-len.ensures.length) (grows_then both c.header6.ensures.lines)
