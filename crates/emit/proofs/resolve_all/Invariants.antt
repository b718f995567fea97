use Rattle.std.proofs.Common.{◌≡◌, drop}
use Rattle.emit.specs.Lines.{Below, resolve}
use Rattle.emit.proofs.resolve_all.Given as goal

abbrev pub invariant-loop-patch : goal.invariant-loop-patch
invariant-loop-patch l = record {
  below : Below l.target (drop l.patch-index l.patches);
  same : resolve (drop l.patch-index l.patches) l.target l.insns ≡ resolve l.patches l.target l.initial.insns;
}
