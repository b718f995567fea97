-- The theorem on trees: a program's run over a frame is short, or its verdict is the direct reading.
use Prim.Native.Nat.{ℕ, zero, suc}
use mathlib.Core.Path.{◌≡◌, refl}
use mathlib.Core.List.{List}
use mathlib.Core.Bool.{Bool, cond}
use mathlib.Core.Logic.{◌⊎◌, inl, inr}
use Rattle.error.proofs.All.{All, all_bind}
use Rattle.bpf.specs.Bytes.{AreBytes}
use Rattle.vm.specs.declared.Verdict.{Verdict}
use Rattle.vm.specs.declared.Verdict.TheVariants.{Accepted, Dropped, Short}
use Rattle.vm.specs.declared.Outcome.{Outcome}
use Rattle.vm.specs.Machine.{effect, exec, inner}
use Rattle.ast.specs.declared.LinkType.{LinkType}
use Rattle.ast.specs.declared.LinkType.TheVariants.{RawIp}
use Rattle.ast.specs.Tree.{Expr}
use Rattle.ast.proofs.Proper.{Proper}
use Rattle.direct.specs.Reading.{kind, reads}
use Rattle.codegen.specs.declared.Side.TheVariants.{Success, Failure}
use Rattle.codegen.specs.Block.{Block}
use Rattle.codegen.specs.Emit.{emit}
use Rattle.codegen.specs.Compile.{entry_facts, returns, finished, compile}
use Rattle.codegen.proofs.Semantics.{Ending, fell, left, cut, redirect, run}
use Rattle.codegen.proofs.Agree.{Agrees, memory, finished_agrees}
use Rattle.codegen.proofs.Prefix.{program_of}
use Rattle.codegen.proofs.Laws.{Known, Right, Maybe, Decides}
use Rattle.codegen.proofs.FactsHold.{Raw, Holds}
use Rattle.codegen.proofs.Conditions.{Emits}
use Rattle.codegen.proofs.Joins.{resolved_then, tree_emits}

-- a verdict is short, or tells P
abbrev pub Tells : Bool → Verdict → Type 0
Tells P v = (v ≡ Short) ⊎ (v ≡ cond P Accepted Dropped)

ending_tells : (f : List ℕ) (S : Type 0) (D : Known) (P : Bool) (o : Ending) (r : Outcome) → Right S P D o
    → Agrees memory (exec f returns) (redirect Failure 1 (redirect Success 0 o)) r → Tells P r.verdict
unfolding exec effect
ending_tells f S D P (fell zero t a x) r h e = inr (rw (e, h.0))
ending_tells f S D P (fell (suc n) t a x) r h e = absurd h
ending_tells f S D P (left Success t a x) r h e = inr (rw (e, h.1))
ending_tells f S D P (left Failure t a x) r h e = inr (rw (e, h))
ending_tells f S D P (cut t) r h e = inl (rw e)

block_tells : (f : List ℕ) (S : Type 0) (G D : Known) (b : Block) (P : Bool) → Decides f S G b P D → G 0 0 → Tells P (inner (program_of b) f).verdict
block_tells f S G D b P h g = ending_tells f S D P (run f b 0 0 0 0) (inner (program_of b) f) (h.right 0 0 0 g) (finished_agrees f b)

entry_holds : (L : LinkType) (f : List ℕ) (x : ℕ) → Holds L f (entry_facts L) x
unfolding kind
entry_holds RawIp f x = record { ethertype = refl; ip4 = tt; ip6 = tt; ports = tt }
entry_holds L f x = record { ethertype = tt; ip4 = tt; ip6 = tt; ports = tt }

entry_raw : (L : LinkType) → Raw L (entry_facts L).ethertype
entry_raw RawIp = refl
entry_raw L = tt

-- the program of a tree, run over a frame, is short or gives the direct reading
pub compile_tells : (L : LinkType) (t : Expr) → Proper t → (f : List ℕ) → AreBytes f → All (λ p. Tells (reads L f t) (inner p f).verdict) (compile L t)
unfolding compile
compile_tells L t w f z =
    all_bind (Emits L f Maybe (entry_facts L) (reads L f t)) _ (emit L t (entry_facts L)) _ (tree_emits L f z t w (entry_facts L) (entry_raw L))
    (λ c h. resolved_then _ (finished c.block) _ (λ e. block_tells f Maybe _ _ c.block (reads L f t) h.decides (entry_holds L f 0)))
