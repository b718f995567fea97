use Rattle.std.proofs.Common.{◌+◌, refl, arith}
use Rattle.codegen.specs.declared.Side.TheVariants.{Failure}
use Rattle.codegen.specs.Emit.{check_blocks}
use Rattle.emit.proofs.Grow.{sized, grows_then, room_left, room_out}
use Rattle.emit.proofs.Settling.{opened, otherwise_size, tried_ok, tried_grew}
use Rattle.conditions.proofs.sparing_sides.Goals as goal

pub check_sparing-requires-in-SrcAndDst-2-clause-room : goal.check_sparing-requires-in-SrcAndDst-2-clause-room
check_sparing-requires-in-SrcAndDst-2-clause-room g c =
    let h = c.check_sparing-in-SrcAndDst.ensures in
    let z = room_left g.C.SparingCheck.most {k = g.C.SparingCheck.most} (omega arith) c.requires.room (sized _ h.short h.lines) in
    record { insns = z.insns; writings = z.writings; failures = z.failures }

pub otherwise-requires-clause-room : goal.otherwise-requires-clause-room
otherwise-requires-clause-room g c =
    let h = c.check_sparing-in-SrcOrDst.ensures in
    room_out (room_left g.C.SparingCheck.most (omega arith) c.requires.room (sized _ h.short h.lines))

pub otherwise-requires-clause-open : goal.otherwise-requires-clause-open
otherwise-requires-clause-open g c =
    let h = c.check_sparing-in-SrcOrDst.ensures in
    let z = room_left g.C.SparingCheck.most {k = 1} (omega arith) c.requires.room (sized _ h.short h.lines) in
    opened Failure 0 h.lines (omega (arith, c.requires.room)) (omega (arith, z.failures)) (omega (arith, z.insns))

pub unwrap-requires : goal.unwrap-requires
unwrap-requires g c =
    let h = c.check_sparing-in-SrcOrDst.ensures in
    let k = g.met.C.SparingCheck.few in
    rw (tried_ok h.lines (omega (arith, h.short, k)) c.otherwise.ensures (omega (arith, c.requires.room))) refl

pub check_sparing-requires-in-SrcOrDst-2-clause-room : goal.check_sparing-requires-in-SrcOrDst-2-clause-room
check_sparing-requires-in-SrcOrDst-2-clause-room g c =
    let h = c.check_sparing-in-SrcOrDst.ensures in
    let k = g.met.C.SparingCheck.few in
    let m = g.C.SparingCheck.most in
    let z = tried_grew h.lines (omega (arith, h.short, k)) c.otherwise.ensures (omega (arith, c.requires.room)) in
    let y = room_left (m + 1) {k = m} (omega arith) c.requires.room (sized (m + 1) (otherwise_size m _ h.short) z) in
    record { insns = y.insns; writings = y.writings; failures = y.failures }

pub returns-in-SrcAndDst : goal.returns-in-SrcAndDst
unfolding check_blocks
returns-in-SrcAndDst g c = rw c.in-SrcAndDst.is (grows_then c.check_sparing-in-SrcAndDst.ensures.lines c.check_sparing-in-SrcAndDst-2.ensures.lines)

pub returns-in-SrcOrDst : goal.returns-in-SrcOrDst
unfolding check_blocks
returns-in-SrcOrDst g c =
    let h = c.check_sparing-in-SrcOrDst.ensures in
    let k = g.met.C.SparingCheck.few in
    let z = tried_grew h.lines (omega (arith, h.short, k)) c.otherwise.ensures (omega (arith, c.requires.room)) in
    rw c.in-SrcOrDst.is (grows_then (rw h.lines.facts at z) c.check_sparing-in-SrcOrDst-2.ensures.lines)
