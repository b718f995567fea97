-- Answers as numbers: a refusal beyond 256, and no more steps than 16 bits hold.
use Rattle.std.specs.Prelude.{Ok, Err}
use Prim.Native.Nat.{ℕ, ◌/◌, ◌≤◌}
use mathlib.Core.Bool.{Bool, true, false, cond}
use mathlib.Core.Path.{◌≡◌, refl}
use mathlib.Core.List.{List}
use native.Mathlib.Omega.{arith}
use lib.ListN.{length}
use Rattle.error.specs.declared.Refusal.TheVariants.{LongFrame, OddProgram}
use Rattle.bpf.specs.Program.{insns_at}
use Rattle.bpf.specs.Bytes.{long_frame}
use Rattle.bpf.proofs.Programs.{length_insns}
use Rattle.vm.specs.Machine.{inner, odd_program, run, steps_of}
use Rattle.vm.proofs.Steps.{inner_steps}
use Rattle.machine.proofs.Entry.{odd_long}

-- a program of at most 32,768 bytes has at most 4,096 instructions, and a run no more steps
pub run_steps : (p f : List ℕ) → steps_of (run p f) ≤ 4096
unfolding run
run_steps p f = go (odd_program p) (long_frame f) refl
  where
    go : (odd long : Bool) → odd_program p ≡ odd
        → steps_of (cond odd (Err OddProgram) (cond long (Err LongFrame) (Ok (inner (insns_at (length p / 8) 0 p) f)))) ≤ 4096
    go true long h = omega arith
    go false true h = omega arith
    go false false h = omega (arith, odd_long (length p) h, inner_steps (insns_at (length p / 8) 0 p) f, length_insns (length p / 8) 0 p)
