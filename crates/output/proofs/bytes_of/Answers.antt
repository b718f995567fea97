use Rattle.std.proofs.Math.Nat.{div-div-eq-div-mul}
use Rattle.bpf.specs.Program.{insn_bytes}
use Rattle.bpf.specs.Bytes.{le}
use Rattle.output.proofs.bytes_of.Goals as goal

pub returns : goal.returns
unfolding insn_bytes le
returns c = rw (c.to_le_bytes.ensures, c.to_le_bytes-2.ensures) (simp div-div-eq-div-mul)
