-- The machine by its program counter, as a loop runs it: what is left to run at counter pc is `drop pc p`.
use Rattle.std.proofs.Common.{◌≡◌, ℕ, zero, suc, ◌+◌, ◌<◌, ◌≤◌, List, [], ◌∷◌, length, get_or, drop, refl, ap, ◌∙◌, drop_of_length-le, drop-cons, drop-drop}
use mathlib.Core.Path.{fun_ext}
use Rattle.bpf.specs.declared.Insn.{Insn}
use Rattle.vm.specs.declared.Verdict.TheVariants.{Broken}
use Rattle.vm.specs.Machine.{effect, ended, after, exec}

-- to skip n instructions is to start n later
pub exec_skip : (f : List ℕ) (p : List Insn) (n t a x : ℕ) (m : List ℕ) → exec f p n t a x m ≡ exec f (drop n p) 0 t a x m
unfolding exec
exec_skip f [] zero t a x m = refl
exec_skip f [] (suc n) t a x m = refl
exec_skip f (i ∷ p) zero t a x m = refl
exec_skip f (i ∷ p) (suc n) t a x m = exec_skip f p n t a x m

-- the counter is past the program: nothing is fetched
pub exec_past : (f : List ℕ) (p : List Insn) (pc t a x : ℕ) (m : List ℕ) → length p ≤ pc → exec f (drop pc p) 0 t a x m ≡ ended Broken t
unfolding exec
exec_past f p pc t a x m h = rw (drop_of_length-le p {i = pc} h) refl

-- the counter is at an instruction: one fetch, its effect, and on from the counter that it leaves
pub exec_at : (f : List ℕ) (p : List Insn) (pc t a x : ℕ) (m : List ℕ) (d : Insn) → pc < length p
    → exec f (drop pc p) 0 t a x m
    ≡ after (λ n a' x' m'. exec f (drop (suc pc + n) p) 0 (suc t) a' x' m') (effect f m (get_or p pc d) a x) (suc t) a x m
unfolding exec
exec_at f p pc t a x m d h =
    rw (drop-cons p pc d h)
    (ap (λ on. after on (effect f m (get_or p pc d) a x) (suc t) a x m)
    (fun_ext (λ n. fun_ext (λ a'. fun_ext (λ x'. fun_ext (λ m'.
    exec_skip f (drop (suc pc) p) n (suc t) a' x' m' ∙ ap (λ q. exec f q 0 (suc t) a' x' m') (drop-drop n (suc pc) p)))))))
