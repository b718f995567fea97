use Rattle.std.proofs.Common.{arith}
use Rattle.bpf.specs.Program.{insn}
use Rattle.output.proofs.Parts.{next}
use Rattle.output.proofs.write_program.Goals as goal

pub loop-i-preserved : goal.loop-i-preserved
loop-i-preserved c = rw (c.copy_from_slice.ensures.after, c.bytes_of.ensures, c.loop-i.invariant) (next c.args.insns.now c.args.program.now c.loop-i.i (insn 0 0 0 0) c.loop-i-test.true _ (omega arith))
