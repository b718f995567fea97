use Rattle.std.proofs.Common.{◌+◌, ◌*◌, ◌≤◌, drop}
use Rattle.codegen.specs.declared.Side.TheVariants.{Success}
use Rattle.codegen.specs.Nets6.{tests}
use Rattle.emit.specs.declared.Emitter.{Emitter}
use Rattle.emit.specs.Grown.{Spared, Grows}
use Rattle.emit.proofs.Grow.{Sized}
use Rattle.conditions.proofs.Net6SparingCheck.check_sparing.Given as goal

abbrev pub invariant-loop-i : goal.invariant-loop-i
invariant-loop-i l = record {
  most : l.i ≤ 8;
  size : Sized (l.i * 2) l.initial.e l.e;
  spared : Spared Success l.initial.e l.e;
  rest : (f : Emitter) → Grows (tests (drop l.i l.self.masks) (drop l.i l.self.expected) (l.off + 2 * l.i)) l.e f
      → Grows (tests l.self.masks l.self.expected l.off) l.initial.e f;
}
