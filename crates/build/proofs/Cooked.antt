-- T-03's page of files: what a build makes of its tree's program.
use Rattle.std.specs.Prelude.{None}
use Rattle.std.specs.Prelude.{Ok, Err}
use Prim.Native.Nat.{ℕ}
use mathlib.Core.Path.{◌≡◌, sym, ap, ◌∙◌}
use mathlib.Core.List.{List}
use mathlib.Core.Bool.{Bool, true, false, cond}
use mathlib.Core.Logic.{◌⊎◌, inl, inr}
use native.Mathlib.Omega.{arith}
use lib.ListN.{replicate}
use Rattle.error.specs.declared.Refusal.{Refusal}
use Rattle.error.specs.declared.Refusal.TheVariants.{FarJump, ShortBuffer}
use Rattle.error.specs.Answer.{Out}
use Rattle.bpf.specs.declared.Insn.{Insn}
use Rattle.ast.specs.declared.LinkType.{LinkType}
use Rattle.ast.specs.declared.LinkType.TheVariants.{LinuxSll}
use Rattle.ast.specs.Tree.{Expr}
use Rattle.codegen.specs.Compile.{compile}
use Rattle.codegen.specs.Cooked.{first_down}
use Rattle.codegen.proofs.Cooked.{cooked}
use Rattle.build.specs.Build.{rejected, placed, too_short, into, program, build}
use Rattle.build.specs.Demands.{Calls, Kept, Refuses}
use Rattle.build.specs.Cooked.{Reads, CookedFile}

-- the build of a file with this tree
built : (T : List ℕ) (L : LinkType) (t : Expr) → Reads T L t → (lent : ℕ) → build T lent ≡ into lent (compile L t)
unfolding build program
built T L t e lent = rw e

-- a program's refusal, or 9
own : (o : Out (List Insn)) (lent : ℕ) (r : Refusal) → (into lent o).answer ≡ Err r → (o ≡ Err r) ⊎ (r ≡ ShortBuffer)
own (Err s) lent r e = inl cc
own (Ok p) lent r e = go (too_short lent p) e
  where
    go : (b : Bool) → (cond b (rejected lent ShortBuffer) (placed lent p)).answer ≡ Err r → (◌≡◌ {A = Out (List Insn)} (Ok p) (Err r)) ⊎ (r ≡ ShortBuffer)
    go true e = inr cc
    go false e = let z : ◌≡◌ {A = ℕ} 0 1 = cc in absurd (omega arith)

module _ (T : List ℕ) (c : Calls) (k : Kept T c) where
  answers : (L : LinkType) (t : Expr) → Reads T L t → (lent : ℕ) → c.answer lent ≡ (into lent (compile L t)).answer
  answers L t e lent = k.answers lent ∙ ap (λ b. b.answer) (built T L t e lent)

  leaves : (L : LinkType) (t : Expr) → Reads T L t → (lent : ℕ) → c.buffer lent ≡ (into lent (compile L t)).buffer
  leaves L t e lent = k.leaves lent ∙ ap (λ b. b.buffer) (built T L t e lent)

  -- a refused program: its number, and the buffer zero
  down : (L : LinkType) (t : Expr) (r : Refusal) → Reads T L t → compile L t ≡ Err r → (lent : ℕ) → Refuses c lent r × (c.buffer lent ≡ replicate lent 0)
  down L t r e h lent = (answers L t e lent ∙ ap (λ o. (into lent o).answer) h, leaves L t e lent ∙ ap (λ o. (into lent o).buffer) h)

  first_down_lem : (t : Expr) (r : Refusal) → Reads T LinuxSll t → (lent : ℕ) → (compile LinuxSll t ≡ Err r) ⊎ (compile LinuxSll t ≡ Err FarJump)
      → (Refuses c lent r ⊎ Refuses c lent FarJump) × (c.buffer lent ≡ replicate lent 0)
  first_down_lem t r e lent (inl h) = let d = down LinuxSll t r e h lent in (inl d.0, d.1)
  first_down_lem t r e lent (inr h) = let d = down LinuxSll t FarJump e h lent in (inr d.0, d.1)

  free_of : (t : Expr) (r : Refusal) → first_down t ≡ None → (compile LinuxSll t ≡ Err r) ⊎ (r ≡ ShortBuffer) → (r ≡ FarJump) ⊎ (r ≡ ShortBuffer)
  free_of t r n (inl h) = inl (cooked.free t r n h)
  free_of t r n (inr h) = inr h

  pub cooked_file : CookedFile T c
  cooked_file = record {
    turned = λ t r e h lent. first_down_lem t r e lent (cooked.first t r h);
    free = λ t r e n lent h. free_of t r n (own (compile LinuxSll t) lent r (sym (answers LinuxSll t e lent) ∙ h));
    kept = λ L t e o lent. (answers L t e lent ∙ ap (λ p. (into lent p).answer) (cooked.before L t o), leaves L t e lent ∙ ap (λ p. (into lent p).buffer) (cooked.before L t o));
  }
