-- No run fetches more instructions than the program has: jumps go forward.
use Prim.Native.Nat.{ℕ, zero, suc, ◌+◌, ◌≤◌}
use mathlib.Core.List.{List, [], ◌∷◌}
use native.Mathlib.Omega.{arith}
use lib.ListN.{length, set, replicate}
use lib.Dec.{ltb}
use Rattle.error.proofs.All.{either}
use Rattle.bpf.specs.declared.Insn.{Insn}
use Rattle.vm.specs.declared.Outcome.{Outcome}
use Rattle.vm.specs.declared.Effect.{Effect}
use Rattle.vm.specs.declared.Effect.TheVariants.{SetA, SetX, Store, Skip, Stop}
use Rattle.vm.specs.Machine.{effect, after, exec, inner}

-- a bound of the steps so far and of every way on is one of the run after an effect
after_steps : (on : ℕ → ℕ → ℕ → List ℕ → Outcome) (e : Effect) (t a x : ℕ) (m : List ℕ) (b : ℕ) → t ≤ b
    → ((n a' x' : ℕ) (m' : List ℕ) → (on n a' x' m').steps ≤ b) → (after on e t a x m).steps ≤ b
after_steps on (SetA v) t a x m b h k = k 0 v x m
after_steps on (SetX v) t a x m b h k = k 0 a v m
after_steps on (Store n v) t a x m b h k = either (λ (o : Outcome). o.steps ≤ b) (ltb n 16) (k 0 a x (set m n v)) h
after_steps on (Skip n) t a x m b h k = k n a x m
after_steps on (Stop v) t a x m b h k = h

pub exec_steps : (f : List ℕ) (p : List Insn) (n t a x : ℕ) (m : List ℕ) → (exec f p n t a x m).steps ≤ t + length p
unfolding exec
exec_steps f [] n t a x m = omega arith
exec_steps f (i ∷ p) (suc n) t a x m = omega (arith, exec_steps f p n t a x m)
exec_steps f (i ∷ p) zero t a x m =
    after_steps (λ n a' x' m'. exec f p n (suc t) a' x' m') (effect f m i a x) (suc t) a x m (t + length (i ∷ p)) (omega arith)
    (λ n a' x' m'. omega (arith, exec_steps f p n (suc t) a' x' m'))

pub inner_steps : (p : List Insn) (f : List ℕ) → (inner p f).steps ≤ length p
unfolding inner
inner_steps p f = omega (arith, exec_steps f p 0 0 0 0 (replicate 16 0))
