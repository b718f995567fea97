-- What holds of every program that a proper tree compiles to: its size, its jumps, its fields, and how far it reads.
use Prim.Native.Nat.{ℕ, zero, suc, ◌+◌, ◌*◌, ◌-◌, ◌/◌, ◌^◌, ◌≤◌, ◌<◌}
use mathlib.Core.Path.{◌≡◌}
use mathlib.Core.List.{List, [], ◌∷◌, ◌++◌, map}
use mathlib.Core.Bool.{false}
use native.Mathlib.Omega.{arith}
use lib.ListN.{length, get_or, length-append, length-map}
use lib.Dec.{ltb}
use borrow.Author.Tests.{ltb-false}
use Rattle.std.proofs.lemmas.Bool.{or_parts}
use Rattle.error.proofs.All.{All, all_bind}
use Rattle.bpf.specs.declared.Insn.{Insn}
use Rattle.bpf.specs.Program.{targets, Each}
use Rattle.bpf.proofs.Programs.{FitsBytes, AllFit}
use Rattle.vm.specs.declared.Verdict.TheVariants.{Short}
use Rattle.vm.specs.declared.Outcome.{Outcome}
use Rattle.vm.specs.Machine.{effect, exec, inner}
use Rattle.ast.specs.declared.LinkType.{LinkType}
use Rattle.ast.specs.Tree.{Expr, Leaf, And, Or, Not, records}
use Rattle.ast.proofs.Proper.{Proper}
use Rattle.codegen.specs.declared.Width.TheVariants.{Word}
use Rattle.codegen.specs.declared.Op.TheVariants.{LdAbs}
use Rattle.codegen.specs.declared.Test.TheVariants.{Jeq, Jgt, Jge, Jset}
use Rattle.codegen.specs.declared.Side.TheVariants.{Success, Failure}
use Rattle.codegen.specs.declared.Exit.{Exit}
use Rattle.codegen.specs.declared.Exit.TheVariants.{Skip, Leave}
use Rattle.codegen.specs.declared.Slot.TheVariants.{Jf}
use Rattle.codegen.specs.declared.Line.{Line}
use Rattle.codegen.specs.declared.Line.TheVariants.{Plain, Branch, Jump}
use Rattle.codegen.specs.Block.{Block, settle, distance, far_line, far, assemble}
use Rattle.codegen.specs.Emit.{net_offset, emit}
use Rattle.codegen.specs.Compile.{entry_facts, returns, finished, compile}
use Rattle.codegen.proofs.Semantics.{Ending, fell, left, cut, redirect, run, length_settle}
use Rattle.codegen.proofs.Agree.{Agrees, memory, finished_agrees}
use Rattle.codegen.proofs.Prefix.{program_of, finished_prefix}
use Rattle.codegen.proofs.Near.{Lands, MadeLine, Made, made_settle, Uncut, run_uncut}
use Rattle.codegen.proofs.Shape.{Shaped, Fits, weight, tree_shape}
use Rattle.codegen.proofs.Conditions.{start_small}
use Rattle.codegen.proofs.Joins.{resolved_then}

-- what holds of a program p on the link L
pub record Sound (L : LinkType) (p : List Insn) : Type 0 where
  pub least : 2 ≤ length p
  pub most : length p ≤ 3946
  -- each jump goes forward onto one of the instructions
  pub jumps : (i : ℕ) → i < length p → (d : Insn) → Each (λ t. (i < t) × (t < length p)) (targets i (get_or p i d))
  -- and no distance, which is target − place − 1, exceeds 255
  pub near : (i : ℕ) → i < length p → (d : Insn) → Each (λ t. t - i - 1 ≤ 255) (targets i (get_or p i d))
  pub fields : AllFit p
  -- a run that is not short is the same, in verdict and steps, over each frame that begins with this one
  pub grows : (f e : List ℕ) → ((inner p f).verdict ≡ Short → ⊥) → inner p (f ++ e) ≡ inner p f
  -- a frame that reaches 64 bytes past the network header's start is long enough
  pub long : (f : List ℕ) → net_offset L + 64 ≤ length f → (inner p f).verdict ≡ Short → ⊥

-- ---- size

pub weight_records : (t : Expr) → weight t + 25 ≤ 60 * (suc (records t) / 2) + suc (records t)
weight_records (Leaf p) = omega arith
weight_records (And l r) = omega (arith, weight_records l, weight_records r)
weight_records (Or l r) = omega (arith, weight_records l, weight_records r)
weight_records (Not t) = omega (arith, weight_records t)

pub weight_most : (t : Expr) → records t ≤ 128 → weight t ≤ 3944
weight_most t h = omega (arith, weight_records t)

length_program : (b : Block) → length (program_of b) ≡ length b + 2
unfolding finished
length_program b = rw (length-append, length-map, length_settle, length_settle)

-- ---- instructions

-- an instruction with m after it: each jump is over at most 255 onto one of those, and its fields fit
abbrev Stands : ℕ → Insn → Type 0
Stands m x = ((i : ℕ) → Each (λ t. (i < t) × (t ≤ i + m) × (t ≤ i + 256)) (targets i x)) × FitsBytes x

abbrev AllStand : List Insn → Type 0
AllStand [] = Unit {0}
AllStand (x ∷ p) = Stands (length p) x × AllStand p

near_exit : (m : ℕ) (p : Exit) → Lands m p → ltb 255 (distance p) ≡ false → (distance p ≤ m) × (distance p ≤ 255)
near_exit m (Skip n) h e = (h, ltb-false 255 n e)
near_exit m (Leave s) h e = omega arith

line_stands : (N m : ℕ) → N < 2 ^ 32 → (l : Line) → MadeLine N (m + 1) l → far_line l ≡ false → Stands (m + 2) (assemble l)
unfolding assemble
line_stands N m n (Branch Jeq k Jf p) h e = omega (arith, near_exit (m + 1) p h.1 e)
line_stands N m n (Branch Jgt k Jf p) h e = omega (arith, near_exit (m + 1) p h.1 e)
line_stands N m n (Branch Jge k Jf p) h e = omega (arith, near_exit (m + 1) p h.1 e)
line_stands N m n (Branch Jset k Jf p) h e = omega (arith, near_exit (m + 1) p h.1 e)
line_stands N m n (Branch t k s p) h e = omega (arith, near_exit (m + 1) p h.1 e)
line_stands N m n (Jump p) h e = omega (arith, near_exit (m + 1) p h e)
line_stands N m n (Plain (LdAbs Word k)) h e = omega arith
line_stands N m n (Plain o) h e = omega arith

block_stands : (N : ℕ) → N < 2 ^ 32 → (b : Block) → Made N 1 b → far b ≡ false → AllStand (map assemble b ++ returns)
unfolding far
block_stands N n [] h e = omega arith
block_stands N n (l ∷ b) h e =
    let k = or_parts (far_line l) (far b) e in
    (rw (length-append (map assemble b) returns, length-map b assemble) (line_stands N (length b) n l h.0 k.0), block_stands N n b h.1 k.1)

stands_at : (p : List Insn) → AllStand p → (i m : ℕ) → i + suc m ≡ length p → (d : Insn) → Stands m (get_or p i d)
stands_at [] s i m e d = absurd (omega arith)
stands_at (x ∷ p) s zero m e d = let e : m ≡ length p = omega arith in rw e s.0
stands_at (x ∷ p) s (suc i) m e d = stands_at p s.1 i m (omega arith) d

all_fit : (p : List Insn) → AllStand p → AllFit p
all_fit [] s = tt
all_fit (x ∷ p) s = (s.0.1, all_fit p s.1)

each_map : (q r : ℕ → Type 0) → ((n : ℕ) → q n → r n) → (l : List ℕ) → Each q l → Each r l
each_map q r h [] k = tt
each_map q r h (n ∷ l) k = (h n k.0, each_map q r h l k.1)

-- ---- runs

-- the two returns are never short
returns_verdict : (f m : List ℕ) (n t a x : ℕ) → (exec f returns n t a x m).verdict ≡ Short → ⊥
unfolding exec effect
returns_verdict f m (suc (suc n)) t a x e = cc
returns_verdict f m n t a x e = cc

finish_long : (f : List ℕ) (o : Ending) (r : Outcome) → Uncut o → Agrees memory (exec f returns) (redirect Failure 1 (redirect Success 0 o)) r → r.verdict ≡ Short → ⊥
finish_long f (fell n c a x) r u e k = returns_verdict f memory n c a x (rw e at k)
finish_long f (left Success c a x) r u e k = returns_verdict f memory 0 c a x (rw e at k)
finish_long f (left Failure c a x) r u e k = returns_verdict f memory 1 c a x (rw e at k)
finish_long f (cut c) r u e k = u

-- ---- programs

program_stands : (N : ℕ) → N < 2 ^ 32 → (b : Block) → Made N 0 b → far (finished b) ≡ false → AllStand (program_of b)
unfolding finished
program_stands N n b h e =
    block_stands N n (settle Failure 1 (settle Success 0 b)) (made_settle N 0 1 Failure (settle Success 0 b) (omega arith) (made_settle N 0 0 Success b (omega arith) h)) e

shaped_sound : (L : LinkType) {n : ℕ} (b : Block) → n ≤ 3944 → Shaped (net_offset L + 64) n b → far (finished b) ≡ false → Sound L (program_of b)
shaped_sound L b h s e =
    let p = program_of b in
    let a = program_stands (net_offset L + 64) (omega (arith, start_small L)) b s.made e in
    record {
      least = omega (arith, length_program b);
      most = omega (arith, length_program b);
      jumps = λ i l d. each_map _ _ (λ t k. omega arith) (targets i (get_or p i d)) ((stands_at p a i (length p - i - 1) (omega arith) d).0 i);
      near = λ i l d. each_map _ _ (λ t k. omega arith) (targets i (get_or p i d)) ((stands_at p a i (length p - i - 1) (omega arith) d).0 i);
      fields = all_fit p a;
      grows = finished_prefix b;
      long = λ f l. finish_long f (run f b 0 0 0 0) (inner p f) (run_uncut f (net_offset L + 64) 0 l b s.made 0 0 0 0 (omega arith)) (finished_agrees f b);
    }

pub compile_sound : (L : LinkType) (t : Expr) → Proper t → records t ≤ 128 → All (Sound L) (compile L t)
unfolding compile
compile_sound L t w h =
    all_bind (Fits L (weight t)) _ (emit L t (entry_facts L)) _ (tree_shape L t (entry_facts L) w)
    (λ c s. resolved_then _ (finished c.block) _ (shaped_sound L c.block (weight_most t h) s))
