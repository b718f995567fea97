use Rattle.std.proofs.Common.{◌∙◌, refl, arith}
use Rattle.emit.specs.declared.Patch.TheVariants.{Jt}
use Rattle.emit.proofs.Resolving.{below_step, resolve_far, resolve_step, resolve_end}
use Rattle.emit.proofs.resolve_all.Goals as goal

pub returns-in_default : goal.returns-in_default
returns-in_default c =
    let a = c.args in
    let l = c.loop-patch in
    rw (← l.invariant.same, resolve_far a.patches.now l.patch-index (Jt 0) c.loop-patch-test.true a.target l.insns (omega (arith, c.in_default.ensures, c.place.ensures)))
    (record { is = refl })

pub loop-patch-preserved : goal.loop-patch-preserved
loop-patch-preserved c =
    let a = c.args in
    let l = c.loop-patch in
    record {
      below = below_step a.patches.now l.patch-index (Jt 0) c.loop-patch-test.true a.target l.invariant.below;
      same = rw (c.resolve.ensures, c.in-Ok.ensures.1, c.place.ensures)
          (resolve_step a.patches.now l.patch-index (Jt 0) c.loop-patch-test.true a.target l.insns (omega (arith, c.in-Ok.ensures, c.place.ensures)) ∙ l.invariant.same);
    }

pub returns : goal.returns
returns c =
    let a = c.args in
    let l = c.loop-patch in
    rw (← l.invariant.same, resolve_end a.patches.now l.patch-index a.target l.insns c.loop-patch-test.false) (record { is = refl })
