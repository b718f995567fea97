-- No instruction but a jump skips.
use Prim.Native.Nat.{ℕ, zero, suc, ◌+◌, ◌%◌}
use mathlib.Core.Path.{◌≡◌, refl}
use mathlib.Core.List.{List, [], ◌∷◌}
use mathlib.Core.Bool.{Bool, true, cond}
use native.Mathlib.Omega.{arith}
use Rattle.error.specs.Answer.{among}
use Rattle.error.proofs.All.{either}
use Rattle.bpf.specs.Program.{Each}
use Rattle.bpf.specs.declared.Insn.{Insn}
use Rattle.vm.specs.declared.Effect.{Effect}
use Rattle.vm.specs.declared.Effect.TheVariants.{SetA, SetX, Store, Skip, Stop}
use Rattle.vm.specs.Machine.{pick, load, sized_load, scratch, ld, ldx, alu, effect}

-- if an instruction at place i with this effect skips, then to one of these places
abbrev pub within : ℕ → List ℕ → Effect → Bool
within i l (SetA v) = true
within i l (SetX v) = true
within i l (Store k v) = true
within i l (Skip n) = among l (i + 1 + n)
within i l (Stop v) = true

module _ (i : ℕ) (l : List ℕ) where
  -- it skips to no other place
  abbrev Still : Effect → Type 0
  Still e = within i l e ≡ true

  both : (b : Bool) (x y : Effect) → Still x → Still y → Still (cond b x y)
  both b x y h k = either Still b h k

  -- all entries of a table
  picked : (n : ℕ) (es : List Effect) → Each Still es → Still (pick n es)
  picked n [] h = refl
  picked zero (e ∷ es) h = h.0
  picked (suc n) (e ∷ es) h = picked n es h.1

  sized_still : (size at : ℕ) (f : List ℕ) → Still (sized_load size at f)
  unfolding sized_load load
  sized_still size at f = search (picked, both)

  ld_still : (f m : List ℕ) (mode size k x : ℕ) → Still (ld f m mode size k x)
  unfolding ld scratch
  ld_still f m mode size k x = search (picked, sized_still, both) depth 16

  ldx_still : (f m : List ℕ) (mode size k : ℕ) → Still (ldx f m mode size k)
  unfolding ldx scratch load
  ldx_still f m mode size k = search (picked, both) depth 16

  alu_still : (op a v : ℕ) → Still (alu op a v)
  unfolding alu
  alu_still op a v = search (picked, both) depth 16

  -- an instruction of a class other than JMP does not skip
  pub still : (f m : List ℕ) (x : Insn) (a b c : ℕ) → x.code % 8 ≡ c → (c ≡ 5 → ⊥) → Still (effect f m x a b)
  unfolding effect
  still f m x a b zero e h = rw e (ld_still f m _ _ _ b)
  still f m x a b (suc zero) e h = rw e (ldx_still f m _ _ _)
  still f m x a b (suc (suc (suc (suc zero)))) e h = rw e (alu_still _ a _)
  still f m x a b (suc (suc (suc (suc (suc zero))))) e h = absurd (h refl)
  still f m x a b (suc (suc (suc (suc (suc (suc (suc zero))))))) e h = rw e (search both)
  still f m x a b (suc (suc (suc (suc (suc (suc (suc (suc c)))))))) e h = absurd (omega arith)
  still f m x a b c e h = rw e
