-- A run of a finished block that is not short on a frame is the same on every longer frame that begins with it.
use Prim.Native.Nat.{ℕ, zero, suc, ◌+◌, ◌*◌, ◌%◌}
use mathlib.Core.Path.{◌≡◌, refl, sym, ap, ◌∙◌}
use mathlib.Core.List.{List, [], ◌∷◌, ◌++◌, map}
use mathlib.Core.Bool.{Bool, true, false, cond}
use native.Mathlib.Omega.{arith}
use lib.ListN.{length, length-append}
use lib.Bits.{bit_and}
use borrow.Author.Tests.{leb-true, le-leb}
use Rattle.bpf.specs.declared.Insn.{Insn}
use Rattle.bpf.specs.Bytes.{be}
use Rattle.bpf.proofs.Bytes.{be_prefix}
use Rattle.vm.specs.declared.Verdict.TheVariants.{Short}
use Rattle.vm.specs.declared.Outcome.{Outcome}
use Rattle.vm.specs.Machine.{effect, exec, inner}
use Rattle.codegen.specs.declared.Op.TheVariants.{LdAbs, LdhInd, LdxMsh, LdxImm, AndK}
use Rattle.codegen.specs.declared.Side.TheVariants.{Success, Failure}
use Rattle.codegen.specs.declared.Exit.{Exit}
use Rattle.codegen.specs.declared.Exit.TheVariants.{Skip, Leave}
use Rattle.codegen.specs.declared.Line.{Line}
use Rattle.codegen.specs.declared.Line.TheVariants.{Plain, Branch, Jump}
use Rattle.codegen.specs.Block.{bytes}
use Rattle.codegen.specs.Block.{Block, assemble}
use Rattle.codegen.specs.Compile.{returns, finished}
use Rattle.codegen.proofs.Semantics.{Ending, fell, left, cut, Went, to, loaded, inside, compare, taken, indexed, line, pursue, run, redirect}
use Rattle.codegen.proofs.Agree.{Agrees, memory, finished_agrees}

-- an ending that is not cut is the other
abbrev Same : Ending → Ending → Type 0
Same (fell n c a x) o = o ≡ fell n c a x
Same (left p c a x) o = o ≡ left p c a x
Same (cut c) o = Unit {0}

module _ (f e : List ℕ) where
  module _ (c : ℕ) (r s : ℕ → ℕ → ℕ → ℕ → Ending) (h : (n c a x : ℕ) → Same (r n c a x) (s n c a x)) where
    same_exit : (p : Exit) (a x : ℕ) → Same (pursue (to p a x) r c) (pursue (to p a x) s c)
    same_exit (Skip n) a x = h n c a x
    same_exit (Leave p) a x = refl

    same_load : (n at : ℕ) (w : ℕ → Went) → ((v : ℕ) → Same (pursue (w v) r c) (pursue (w v) s c))
        → Same (pursue (loaded (inside n at f) (w (be n at f))) r c) (pursue (loaded (inside n at (f ++ e)) (w (be n at (f ++ e)))) s c)
    same_load n at w k = go (inside n at f) refl
      where
        go : (b : Bool) → inside n at f ≡ b → Same (pursue (loaded b (w (be n at f))) r c) (pursue (loaded (inside n at (f ++ e)) (w (be n at (f ++ e)))) s c)
        go true q =
            rw (be_prefix n at f e (leb-true (at + n) (length f) q), le-leb (at + n) (length (f ++ e)) (omega (arith, leb-true (at + n) (length f) q, length-append f e)))
            (k (be n at f))
        go false q = tt

    same_line : (l : Line) (a x : ℕ) → Same (pursue (line f l a x) r c) (pursue (line (f ++ e) l a x) s c)
    same_line (Plain (LdAbs w k)) a x = same_load (bytes w) k (λ v. to (Skip 0) v x) (λ v. h 0 c v x)
    same_line (Plain (LdhInd k)) a x = same_load 2 (indexed x k) (λ v. to (Skip 0) v x) (λ v. h 0 c v x)
    same_line (Plain (LdxMsh k)) a x = same_load 1 k (λ v. to (Skip 0) a (4 * (v % 16))) (λ v. h 0 c a (4 * (v % 16)))
    same_line (Plain (LdxImm k)) a x = h 0 c a k
    same_line (Plain (AndK k)) a x = h 0 c (bit_and a k) x
    same_line (Branch t k z p) a x = same_exit (cond (taken z (compare t a k)) p (Skip 0)) a x
    same_line (Jump p) a x = same_exit p a x

  run_prefix : (b : Block) (n c a x : ℕ) → Same (run f b n c a x) (run (f ++ e) b n c a x)
  unfolding run
  run_prefix [] n c a x = refl
  run_prefix (l ∷ b) (suc n) c a x = run_prefix b n c a x
  run_prefix (l ∷ b) zero c a x = same_line (suc c) (run f b) (run (f ++ e) b) (run_prefix b) l a x

  -- the two returns read nothing
  returns_same : (n t a x : ℕ) (m : List ℕ) → exec (f ++ e) returns n t a x m ≡ exec f returns n t a x m
  unfolding exec effect
  returns_same (suc (suc n)) t a x m = refl
  returns_same n t a x m = refl

  finish_same : (o o' : Ending) (r r' : Outcome) → Same o o' → Agrees memory (exec f returns) (redirect Failure 1 (redirect Success 0 o)) r
      → Agrees memory (exec (f ++ e) returns) (redirect Failure 1 (redirect Success 0 o')) r' → (r.verdict ≡ Short → ⊥) → r' ≡ r
  finish_same (fell n c a x) o' r r' s p q k = (rw s at q) ∙ returns_same n c a x memory ∙ sym p
  finish_same (left Success c a x) o' r r' s p q k = (rw s at q) ∙ returns_same 0 c a x memory ∙ sym p
  finish_same (left Failure c a x) o' r r' s p q k = (rw s at q) ∙ returns_same 1 c a x memory ∙ sym p
  finish_same (cut c) o' r r' s p q k = absurd (k (ap (λ r. r.verdict) p))

abbrev pub program_of : Block → List Insn
program_of b = map assemble (finished b) ++ returns

-- verdict and steps
pub finished_prefix : (b : Block) (f e : List ℕ) → ((inner (program_of b) f).verdict ≡ Short → ⊥) → inner (program_of b) (f ++ e) ≡ inner (program_of b) f
finished_prefix b f e k =
    finish_same f e (run f b 0 0 0 0) (run (f ++ e) b 0 0 0 0) (inner (program_of b) f) (inner (program_of b) (f ++ e)) (run_prefix f e b 0 0 0 0)
    (finished_agrees f b) (finished_agrees (f ++ e) b) k
