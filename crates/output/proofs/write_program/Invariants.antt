use Rattle.std.proofs.Common.{◌≡◌, ◌++◌, ◌*◌, take, drop}
use Rattle.bpf.specs.Program.{program_bytes}
use Rattle.output.proofs.write_program.Given as goal

-- the first i instructions are written
abbrev pub invariant-loop-i : goal.invariant-loop-i
invariant-loop-i l = l.program ≡ program_bytes (take l.i l.insns) ++ drop (8 * l.i) l.fn.program
