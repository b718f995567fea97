-- What every emitted block keeps to: its loads stay below a place, X stays at most 60, its numbers have 32 bits, and its jumps land in
-- it or at its end.
use Prim.Native.Nat.{ℕ, zero, suc, ◌+◌, ◌*◌, ◌%◌, ◌^◌, ◌≤◌, ◌<◌}
use mathlib.Core.Path.{◌≡◌, refl, ap}
use mathlib.Core.List.{List, [], ◌∷◌, ◌++◌}
use mathlib.Core.Bool.{cond}
use native.Mathlib.Omega.{arith}
use native.Mathlib.Nat.{le_refl, le_trans, mod-lt, mod-le}
use lib.ListN.{length, length-append}
use lib.Dec.{lit<}
use lib.Bits.{bit_and}
use borrow.Author.Tests.{le-leb}
use Rattle.error.proofs.All.{either}
use Rattle.bpf.specs.Bytes.{be}
use Rattle.codegen.specs.declared.Op.{Op}
use Rattle.codegen.specs.declared.Op.TheVariants.{LdAbs, LdhInd, LdxMsh, LdxImm, AndK}
use Rattle.codegen.specs.declared.Side.{Side}
use Rattle.codegen.specs.declared.Side.TheVariants.{Success, Failure}
use Rattle.codegen.specs.declared.Exit.{Exit}
use Rattle.codegen.specs.declared.Exit.TheVariants.{Skip, Leave}
use Rattle.codegen.specs.declared.Line.{Line}
use Rattle.codegen.specs.declared.Line.TheVariants.{Plain, Branch, Jump}
use Rattle.codegen.specs.Block.{bytes}
use Rattle.codegen.specs.Block.{Block, settle, turn, same, swap, swap_line}
use Rattle.codegen.proofs.Semantics.{Ending, fell, left, cut, to, loaded, inside, compare, taken, indexed, line, pursue, run, length_settle}

-- ---- the rule

abbrev pub NearOp : ℕ → Op → Type 0
NearOp N (LdAbs w k) = k + bytes w ≤ N
NearOp N (LdhInd k) = k + 62 ≤ N
NearOp N (LdxMsh k) = k + 1 ≤ N
NearOp N (LdxImm k) = k ≤ 60
NearOp N (AndK k) = k < 2 ^ 32

abbrev pub Lands : ℕ → Exit → Type 0
Lands m (Skip n) = n ≤ m
Lands m (Leave e) = Unit {0}

-- a line with m lines to go
abbrev pub MadeLine : ℕ → ℕ → Line → Type 0
MadeLine N m (Plain o) = NearOp N o
MadeLine N m (Branch t k s p) = (k < 2 ^ 32) × Lands m p
MadeLine N m (Jump p) = Lands m p

-- the loads stay below N, the numbers have 32 bits, and the jumps go at most d lines past the end
abbrev pub Made : ℕ → ℕ → Block → Type 0
Made N d [] = Unit {0}
Made N d (l ∷ b) = MadeLine N (length b + d) l × Made N d b

-- ---- blocks put together

lands_more : (m m' : ℕ) → m ≤ m' → (p : Exit) → Lands m p → Lands m' p
lands_more m m' h (Skip n) k = le_trans k h
lands_more m m' h (Leave e) k = tt

line_more : (N m m' : ℕ) → m ≤ m' → (l : Line) → MadeLine N m l → MadeLine N m' l
line_more N m m' h (Plain o) k = k
line_more N m m' h (Branch t n s p) k = (k.0, lands_more m m' h p k.1)
line_more N m m' h (Jump p) k = lands_more m m' h p k

pub made_append : (N d : ℕ) (b k : Block) → Made N 0 b → Made N d k → Made N d (b ++ k)
made_append N d [] k h j = j
made_append N d (l ∷ b) k h j =
    (line_more N (length b + 0) (length (b ++ k) + d) (omega (arith, length-append b k)) l h.0, made_append N d b k h.1 j)

lands_swap : (m : ℕ) (e : Side) (e' p : Exit) → Lands m e' → Lands m p → Lands m (swap e e' p)
lands_swap m e e' (Skip n) h k = k
lands_swap m e e' (Leave p) h k = either (Lands m) (same e p) h tt

line_swap : (N m : ℕ) (e : Side) (e' : Exit) (l : Line) → Lands m e' → MadeLine N m l → MadeLine N m (swap_line e e' l)
line_swap N m e e' (Plain o) h k = k
line_swap N m e e' (Branch t n s p) h k = (k.0, lands_swap m e e' p h k.1)
line_swap N m e e' (Jump p) h k = lands_swap m e e' p h k

pub made_settle : (N d d' : ℕ) (e : Side) (b : Block) → d ≤ d' → Made N d b → Made N d' (settle e d' b)
unfolding settle
made_settle N d d' e [] h k = tt
made_settle N d d' e (l ∷ b) h k = (
  rw (length_settle e d' b)
      (line_swap N (length b + d') e (Skip (length b + d')) l (le_refl _) (line_more N (length b + d) (length b + d') (omega arith) l k.0)),
  made_settle N d d' e b h k.1,
)

pub length_turn : (b : Block) → length (turn b) ≡ length b
unfolding turn
length_turn [] = refl
length_turn (l ∷ b) = ap suc (length_turn b)

pub made_turn : (N d : ℕ) (b : Block) → Made N d b → Made N d (turn b)
unfolding turn
made_turn N d [] k = tt
made_turn N d (l ∷ b) k = (rw (length_turn b) (line_swap N (length b + d) Success (Leave Failure) l tt k.0), made_turn N d b k.1)

-- ---- such a block is never cut on a frame of N bytes

abbrev pub Uncut : Ending → Type 0
Uncut (fell n c a x) = x ≤ 60
Uncut (left e c a x) = Unit {0}
Uncut (cut c) = ⊥

module _ (f : List ℕ) (N d : ℕ) (long : N ≤ length f) where
  module _ (c : ℕ) (r : ℕ → ℕ → ℕ → ℕ → Ending) (h : (n c a x : ℕ) → x ≤ 60 → Uncut (r n c a x)) where
    uncut_exit : (p : Exit) (a x : ℕ) → x ≤ 60 → Uncut (pursue (to p a x) r c)
    uncut_exit (Skip n) a x s = h n c a x s
    uncut_exit (Leave e) a x s = tt

    uncut_load : (n at a x : ℕ) → x ≤ 60 → at + n ≤ N → Uncut (pursue (loaded (inside n at f) (to (Skip 0) a x)) r c)
    uncut_load n at a x s k = rw (le-leb (at + n) (length f) (le_trans k long)) (h 0 c a x s)

    uncut_line : (m : ℕ) (l : Line) (a x : ℕ) → x ≤ 60 → MadeLine N m l → Uncut (pursue (line f l a x) r c)
    uncut_line m (Plain (LdAbs w k)) a x s i = uncut_load (bytes w) k (be (bytes w) k f) x s i
    uncut_line m (Plain (LdhInd k)) a x s i = uncut_load 2 (indexed x k) (be 2 (indexed x k) f) x s (omega (arith, mod-le (x + k) (2 ^ 32)))
    uncut_line m (Plain (LdxMsh k)) a x s i = uncut_load 1 k a (4 * (be 1 k f % 16)) (omega (arith, mod-lt (be 1 k f) (lit< {m = 0} {n = 16} tt))) i
    uncut_line m (Plain (LdxImm k)) a x s i = h 0 c a k i
    uncut_line m (Plain (AndK k)) a x s i = h 0 c (bit_and a k) x s
    uncut_line m (Branch t k z p) a x s i = uncut_exit (cond (taken z (compare t a k)) p (Skip 0)) a x s
    uncut_line m (Jump p) a x s i = uncut_exit p a x s

  pub run_uncut : (b : Block) → Made N d b → (n c a x : ℕ) → x ≤ 60 → Uncut (run f b n c a x)
  unfolding run
  run_uncut [] k n c a x s = s
  run_uncut (l ∷ b) k (suc n) c a x s = run_uncut b k.1 n c a x s
  run_uncut (l ∷ b) k zero c a x s = uncut_line (suc c) (run f b) (run_uncut b k.1) (length b + d) l a x s k.0
