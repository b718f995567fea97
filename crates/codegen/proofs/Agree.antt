-- The machine does with an assembled block what `Semantics.run` says.
use Prim.Native.Nat.{ℕ, zero, suc, ◌*◌, ◌%◌}
use mathlib.Core.Path.{◌≡◌, refl}
use mathlib.Core.List.{List, [], ◌∷◌, ◌++◌, map}
use mathlib.Core.Bool.{Bool, true, false, cond}
use lib.ListN.{replicate}
use lib.Bits.{bit_and}
use Rattle.bpf.specs.declared.Insn.{Insn}
use Rattle.bpf.specs.Bytes.{be}
use Rattle.vm.specs.declared.Verdict.TheVariants.{Short}
use Rattle.vm.specs.declared.Outcome.{Outcome}
use Rattle.vm.specs.declared.Effect.{Effect}
use Rattle.vm.specs.declared.Effect.TheVariants.{SetA, SetX, Stop}
use Rattle.vm.specs.Machine as M
use Rattle.vm.specs.Machine.{after, effect, exec, ended, inner}
use Rattle.codegen.specs.declared.Width.TheVariants.{Byte, Half, Word}
use Rattle.codegen.specs.declared.Op.TheVariants.{LdAbs, LdhInd, LdxMsh, LdxImm, AndK}
use Rattle.codegen.specs.declared.Test.TheVariants.{Jeq, Jgt, Jge, Jset}
use Rattle.codegen.specs.declared.Side.TheVariants.{Success, Failure}
use Rattle.codegen.specs.declared.Exit.{Exit}
use Rattle.codegen.specs.declared.Exit.TheVariants.{Skip, Leave}
use Rattle.codegen.specs.declared.Slot.{Slot}
use Rattle.codegen.specs.declared.Slot.TheVariants.{Jt, Jf}
use Rattle.codegen.specs.declared.Line.{Line}
use Rattle.codegen.specs.declared.Line.TheVariants.{Plain, Branch, Jump}
use Rattle.codegen.specs.Block.{Block, settle, assemble, distance, test_code, slot_insn}
use Rattle.codegen.specs.Compile.{returns, finished}
use Rattle.codegen.proofs.Semantics.{Ending, fell, left, cut, to, loaded, inside, compare, taken, indexed, line, pursue, run, redirect, run_settle}

module _ (m : List ℕ) (k : ℕ → ℕ → ℕ → ℕ → List ℕ → Outcome) where
  -- a run agrees with a block's ending: where the block fell off its end, the run goes on as `k`; of an open exit nothing is said
  abbrev pub Agrees : Ending → Outcome → Type 0
  Agrees (fell n t a x) r = r ≡ k n t a x m
  Agrees (left e t a x) r = Unit {0}
  Agrees (cut t) r = r ≡ ended Short t

  module _ (t : ℕ) (r : ℕ → ℕ → ℕ → ℕ → Ending) (j : ℕ → ℕ → ℕ → ℕ → List ℕ → Outcome) (h : (n t a x : ℕ) → Agrees (r n t a x) (j n t a x m)) where
    exit_agrees : (p : Exit) (a x : ℕ) → Agrees (pursue (to p a x) r t) (j (distance p) t a x m)
    exit_agrees (Skip n) a x = h n t a x
    exit_agrees (Leave e) a x = tt

    branch_agrees : (b : Bool) (p : Exit) (a x : ℕ) → Agrees (pursue (to (cond b p (Skip 0)) a x) r t) (j (cond b (distance p) 0) t a x m)
    branch_agrees true p a x = exit_agrees p a x
    branch_agrees false p a x = h 0 t a x

    load_agrees : (b : Bool) (e : Effect) (a x v y : ℕ) → after (λ n. j n t) e t a x m ≡ j 0 t v y m
        → Agrees (pursue (loaded b (to (Skip 0) v y)) r t) (after (λ n. j n t) (cond b e (Stop Short)) t a x m)
    load_agrees true e a x v y w = rw w (h 0 t v y)
    load_agrees false e a x v y w = refl

    slot_agrees : (s : Slot) (b : Bool) (p : Exit) (c k a x : ℕ)
        → Agrees (pursue (to (cond (taken s b) p (Skip 0)) a x) r t) (j (cond b (slot_insn c k s (distance p)).jt (slot_insn c k s (distance p)).jf) t a x m)
    slot_agrees Jt b p c k a x = branch_agrees b p a x
    slot_agrees Jf true p c k a x = h 0 t a x
    slot_agrees Jf false p c k a x = exit_agrees p a x

    line_agrees : (f : List ℕ) (l : Line) (a x : ℕ) → Agrees (pursue (line f l a x) r t) (after (λ n. j n t) (effect f m (assemble l) a x) t a x m)
    unfolding effect assemble M.ld M.ldx M.sized_load M.load M.alu M.jmp
    line_agrees f (Plain (LdAbs Byte k)) a x = load_agrees (inside 1 k f) (SetA (be 1 k f)) a x (be 1 k f) x refl
    line_agrees f (Plain (LdAbs Half k)) a x = load_agrees (inside 2 k f) (SetA (be 2 k f)) a x (be 2 k f) x refl
    line_agrees f (Plain (LdAbs Word k)) a x = load_agrees (inside 4 k f) (SetA (be 4 k f)) a x (be 4 k f) x refl
    line_agrees f (Plain (LdhInd k)) a x = load_agrees (inside 2 (indexed x k) f) (SetA (be 2 (indexed x k) f)) a x (be 2 (indexed x k) f) x refl
    line_agrees f (Plain (LdxMsh k)) a x = load_agrees (inside 1 k f) (SetX (4 * (be 1 k f % 16))) a x a (4 * (be 1 k f % 16)) refl
    line_agrees f (Plain (LdxImm k)) a x = h 0 t a k
    line_agrees f (Plain (AndK k)) a x = h 0 t (bit_and a k) x
    line_agrees f (Branch Jeq k Jf p) a x = slot_agrees Jf (compare Jeq a k) p (test_code Jeq) k a x
    line_agrees f (Branch Jgt k Jf p) a x = slot_agrees Jf (compare Jgt a k) p (test_code Jgt) k a x
    line_agrees f (Branch Jge k Jf p) a x = slot_agrees Jf (compare Jge a k) p (test_code Jge) k a x
    line_agrees f (Branch Jset k Jf p) a x = slot_agrees Jf (compare Jset a k) p (test_code Jset) k a x
    line_agrees f (Branch t k s p) a x = slot_agrees s (compare t a k) p (test_code t) k a x
    line_agrees f (Jump p) a x = exit_agrees p a x

pub exec_agrees : (f m : List ℕ) (q : List Insn) (b : Block) (n t a x : ℕ) → Agrees m (exec f q) (run f b n t a x) (exec f (map assemble b ++ q) n t a x m)
unfolding run exec
exec_agrees f m q [] n t a x = refl
exec_agrees f m q (l ∷ b) (suc n) t a x = exec_agrees f m q b n t a x
exec_agrees f m q (l ∷ b) zero t a x = line_agrees m (exec f q) (suc t) (run f b) (exec f (map assemble b ++ q)) (exec_agrees f m q b) f l a x

-- ---- finished blocks

abbrev pub memory : List ℕ
memory = replicate 16 0

-- the run of a finished block agrees with the block's ending: success goes on with the first return, failure with the second
pub finished_agrees : (f : List ℕ) (b : Block)
    → Agrees memory (exec f returns) (redirect Failure 1 (redirect Success 0 (run f b 0 0 0 0))) (inner (map assemble (finished b) ++ returns) f)
unfolding finished inner
finished_agrees f b =
    rw (← run_settle f Success 0 b 0 0 0 0, ← run_settle f Failure 1 (settle Success 0 b) 0 0 0 0)
    (exec_agrees f memory returns (settle Failure 1 (settle Success 0 b)) 0 0 0 0)
