use Rattle.std.proofs.Common.{◌+◌, refl, arith}
use Rattle.codegen.specs.declared.Side.TheVariants.{Failure}
use Rattle.codegen.specs.Emit.{check_blocks}
use Rattle.emit.proofs.Grow.{room_left, room_out}
use Rattle.conditions.proofs.Adding.{grew, added, adds_then, added_sized}
use Rattle.emit.proofs.Settling.{opened, otherwise_size, tried_ok, tried_grew}
use Rattle.conditions.proofs.check_sides.Goals as goal

pub check-requires-in-SrcAndDst-2-clause-room : goal.check-requires-in-SrcAndDst-2-clause-room
check-requires-in-SrcAndDst-2-clause-room g c =
    let h = c.check-in-SrcAndDst.ensures in
    let z = room_left g.C.Check.most {k = g.C.Check.most} (omega arith) c.requires.room (added_sized _ h.short h.lines) in
    record { insns = z.insns; writings = z.writings; failures = z.failures }

pub otherwise-requires-clause-room : goal.otherwise-requires-clause-room
otherwise-requires-clause-room g c =
    let h = c.check-in-SrcOrDst.ensures in
    room_out (room_left g.C.Check.most (omega arith) c.requires.room (added_sized _ h.short h.lines))

pub otherwise-requires-clause-open : goal.otherwise-requires-clause-open
otherwise-requires-clause-open g c =
    let h = c.check-in-SrcOrDst.ensures in
    let z = room_left g.C.Check.most {k = 1} (omega arith) c.requires.room (added_sized _ h.short h.lines) in
    opened Failure 0 (grew h.lines) (omega (arith, c.requires.room)) (omega (arith, z.failures)) (omega (arith, z.insns))

pub unwrap-requires : goal.unwrap-requires
unwrap-requires g c =
    let h = c.check-in-SrcOrDst.ensures in
    let k = g.met.C.Check.few in
    rw (tried_ok (grew h.lines) (omega (arith, h.short, k)) c.otherwise.ensures (omega (arith, c.requires.room))) refl

pub check-requires-in-SrcOrDst-2-clause-room : goal.check-requires-in-SrcOrDst-2-clause-room
check-requires-in-SrcOrDst-2-clause-room g c =
    let h = c.check-in-SrcOrDst.ensures in
    let k = g.met.C.Check.few in
    let m = g.C.Check.most in
    let z = tried_grew (grew h.lines) (omega (arith, h.short, k)) c.otherwise.ensures (omega (arith, c.requires.room)) in
    let y = room_left (m + 1) {k = m} (omega arith) c.requires.room (added_sized (m + 1) (otherwise_size m _ h.short) (added c.check-in-SrcOrDst.new.e z)) in
    record { insns = y.insns; writings = y.writings; failures = y.failures }

pub returns-in-SrcAndDst : goal.returns-in-SrcAndDst
unfolding check_blocks
returns-in-SrcAndDst g c = rw c.in-SrcAndDst.is (adds_then c.check-in-SrcAndDst.ensures.lines c.check-in-SrcAndDst-2.ensures.lines)

pub returns-in-SrcOrDst : goal.returns-in-SrcOrDst
unfolding check_blocks
returns-in-SrcOrDst g c =
    let h = c.check-in-SrcOrDst.ensures in
    let k = g.met.C.Check.few in
    let z = tried_grew (grew h.lines) (omega (arith, h.short, k)) c.otherwise.ensures (omega (arith, c.requires.room)) in
    rw c.in-SrcOrDst.is (adds_then (added c.check-in-SrcOrDst.new.e (rw h.lines.facts at z)) c.check-in-SrcOrDst-2.ensures.lines)
