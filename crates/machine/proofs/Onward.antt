-- One turn of a loop over a program's bytes: the instruction at the counter, and the run that it leaves.
use Rattle.std.proofs.Common.{◌≡◌, ℕ, suc, ◌+◌, ◌*◌, ◌/◌, ◌<◌, ◌≤◌, List, length, get_or, ap, ◌∙◌, add-zero, add-one, arith}
use Rattle.bpf.specs.Program.{insn_at}
use Rattle.bpf.proofs.Programs.{length_insns, insns_get}
use Rattle.vm.specs.declared.Verdict.TheVariants.{Broken}
use Rattle.vm.specs.declared.Effect.{Effect}
use Rattle.vm.specs.declared.Effect.TheVariants.{SetA, SetX, Store, Skip, Stop}
use Rattle.vm.specs.Machine.{effect, after, ended}
use Rattle.machine.specs.Runs.{insns_of, from, goes}
use Rattle.machine.proofs.Counter.{exec_past, exec_at}

module _ (s f : List ℕ) (pc t a x : ℕ) (m : List ℕ) where
  onward : (e : Effect) → after (λ n a' x' m'. from s f (suc pc + n) (suc t) a' x' m') e (suc t) a x m ≡ goes s f e pc t a x m
  onward (SetA v) = rw (add-one pc, add-one t, add-zero (suc pc))
  onward (SetX v) = rw (add-one pc, add-one t, add-zero (suc pc))
  onward (Store k v) = rw (add-one pc, add-one t, add-zero (suc pc))
  onward (Skip n) = rw (add-one pc, add-one t)
  onward (Stop v) = rw (add-one t)

  -- past the last instruction
  pub run_past : length s / 8 ≤ pc → from s f pc t a x m ≡ ended Broken t
  run_past h = exec_past f (insns_of s) pc t a x m (rw (length_insns (length s / 8) 0 s) h)

  -- the instruction at the counter does what its effect says
  pub run_on : pc < length s / 8 → from s f pc t a x m ≡ goes s f (effect f m (insn_at (8 * pc) s) a x) pc t a x m
  run_on h =
      exec_at f (insns_of s) pc t a x m (insn_at 0 s) (rw (length_insns (length s / 8) 0 s) h)
      ∙ ap (λ i. after (λ n a' x' m'. from s f (suc pc + n) (suc t) a' x' m') (effect f m i a x) (suc t) a x m) here
      ∙ onward (effect f m (insn_at (8 * pc) s) a x)
    where
      here : get_or (insns_of s) pc (insn_at 0 s) ≡ insn_at (8 * pc) s
      here = insns_get (length s / 8) 0 pc s (insn_at 0 s) h ∙ ap (λ a. insn_at a s) (omega arith)
