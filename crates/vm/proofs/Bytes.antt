-- The run of a program's bytes is the program's run.
use Rattle.std.specs.Prelude.{Ok}
use Prim.Native.Nat.{ℕ, ◌/◌, ◌%◌, ◌≤◌}
use mathlib.Core.Path.{◌≡◌, ap}
use mathlib.Core.List.{List}
use native.Mathlib.Omega.{arith}
use lib.ListN.{length}
use borrow.Author.Tests.{ne_eqb, eq-eqb, le-ltb}
use Rattle.bpf.specs.declared.Insn.{Insn}
use Rattle.bpf.specs.Program.{program_bytes}
use Rattle.bpf.proofs.Programs.{AllFit, length_program, program_read}
use Rattle.vm.specs.Machine.{inner, run}

pub run_program : (p : List Insn) → AllFit p → 1 ≤ length p → length p ≤ 4096 → (f : List ℕ) → length f ≤ 65535 → run (program_bytes p) f ≡ Ok (inner p f)
unfolding run
run_program p h a b f l =
    rw (
      ne_eqb (length (program_bytes p)) 0 (λ e. omega (arith, length_program p)),
      le-ltb 32768 (length (program_bytes p)) (omega (arith, length_program p)),
      eq-eqb (length (program_bytes p) % 8) 0 (omega (arith, length_program p)),
      le-ltb 65535 (length f) l,
    )
    (ap (λ q. Ok (inner q f)) (rw count (program_read p h)))
  where
    count : length (program_bytes p) / 8 ≡ length p
    count = omega (arith, length_program p)
