-- What running a block does, with its open jumps as outcomes.
use Prim.Native.Nat.{ℕ, zero, suc, ◌+◌, ◌*◌, ◌%◌, ◌^◌}
use mathlib.Core.Path.{◌≡◌, refl, ap}
use mathlib.Core.List.{List, [], ◌∷◌, ◌++◌}
use mathlib.Core.Bool.{Bool, true, false, cond, not}
use native.Mathlib.Nat.{zero-add, suc-add}
use lib.ListN.{length}
use lib.Dec.{eqb, ltb, leb}
use lib.Bits.{bit_and}
use Rattle.bpf.specs.Bytes.{be}
use Rattle.codegen.specs.declared.Op.{Op}
use Rattle.codegen.specs.declared.Op.TheVariants.{LdAbs, LdhInd, LdxMsh, LdxImm, AndK}
use Rattle.codegen.specs.declared.Test.{Test}
use Rattle.codegen.specs.declared.Test.TheVariants.{Jeq, Jgt, Jge, Jset}
use Rattle.codegen.specs.declared.Side.{Side}
use Rattle.codegen.specs.declared.Side.TheVariants.{Success, Failure}
use Rattle.codegen.specs.declared.Exit.{Exit}
use Rattle.codegen.specs.declared.Exit.TheVariants.{Skip, Leave}
use Rattle.codegen.specs.declared.Slot.{Slot}
use Rattle.codegen.specs.declared.Slot.TheVariants.{Jt, Jf}
use Rattle.codegen.specs.declared.Line.{Line}
use Rattle.codegen.specs.declared.Line.TheVariants.{Plain, Branch, Jump}
use Rattle.codegen.specs.Block.{bytes}
use Rattle.codegen.specs.Block.{Block, settle, turn, swap, swap_line, same}

-- how a block ends: it fell off its end with n lines still to skip, it took an open exit, or a load left the frame.
-- Each with the instructions fetched, and with A and X
pub data Ending : Type 0 where
  fell : ℕ → ℕ → ℕ → ℕ → Ending
  left : Side → ℕ → ℕ → ℕ → Ending
  cut : ℕ → Ending

-- where a line goes, with A and X; or out of the frame
pub data Went : Type 0 where
  to : Exit → ℕ → ℕ → Went
  out : Went

abbrev pub loaded : Bool → Went → Went
loaded true w = w
loaded false w = out

abbrev pub inside : ℕ → ℕ → List ℕ → Bool
inside n at f = leb (at + n) (length f)

abbrev pub compare : Test → ℕ → ℕ → Bool
compare Jeq a k = eqb a k
compare Jgt a k = ltb k a
compare Jge a k = leb k a
compare Jset a k = not (eqb (bit_and a k) 0)

-- whether a test jumps by its slot
abbrev pub taken : Slot → Bool → Bool
taken Jt b = b
taken Jf b = not b

abbrev pub indexed : ℕ → ℕ → ℕ
indexed x k = (x + k) % 2 ^ 32

-- a line's way, and then the rest of its block
abbrev pub pursue : Went → (ℕ → ℕ → ℕ → ℕ → Ending) → ℕ → Ending
pursue (to (Skip n) a x) r c = r n c a x
pursue (to (Leave e) a x) r c = left e c a x
pursue out r c = cut c

-- a block's outcome, and then the next block
abbrev pub and_then : Ending → (ℕ → ℕ → ℕ → ℕ → Ending) → Ending
and_then (fell n c a x) k = k n c a x
and_then (left e c a x) k = left e c a x
and_then (cut c) k = cut c

-- where the side e is settled, it falls off the end with d lines to skip
abbrev pub redirect : Side → ℕ → Ending → Ending
redirect e d (fell n c a x) = fell n c a x
redirect e d (left p c a x) = cond (same e p) (fell d c a x) (left p c a x)
redirect e d (cut c) = cut c

-- success becomes failure
abbrev pub turned : Ending → Ending
turned (fell n c a x) = fell n c a x
turned (left p c a x) = left Failure c a x
turned (cut c) = cut c

pursue_append : (w : Went) (r s k : ℕ → ℕ → ℕ → ℕ → Ending) (c : ℕ) → ((n c a x : ℕ) → r n c a x ≡ and_then (s n c a x) k)
    → pursue w r c ≡ and_then (pursue w s c) k
pursue_append (to (Skip n) a x) r s k c h = h n c a x
pursue_append (to (Leave e) a x) r s k c h = refl
pursue_append out r s k c h = refl

pub length_settle : (e : Side) (d : ℕ) (b : Block) → length (settle e d b) ≡ length b
unfolding settle
length_settle e d [] = refl
length_settle e d (l ∷ b) = ap suc (length_settle e d b)

module _ (f : List ℕ) where
  abbrev pub operate : Op → ℕ → ℕ → Went
  operate (LdAbs w k) a x = loaded (inside (bytes w) k f) (to (Skip 0) (be (bytes w) k f) x)
  operate (LdhInd k) a x = loaded (inside 2 (indexed x k) f) (to (Skip 0) (be 2 (indexed x k) f) x)
  operate (LdxMsh k) a x = loaded (inside 1 k f) (to (Skip 0) a (4 * (be 1 k f % 16)))
  operate (LdxImm k) a x = to (Skip 0) a k
  operate (AndK k) a x = to (Skip 0) (bit_and a k) x

  abbrev pub line : Line → ℕ → ℕ → Went
  line (Plain o) a x = operate o a x
  line (Branch t k s p) a x = to (cond (taken s (compare t a k)) p (Skip 0)) a x
  line (Jump p) a x = to p a x

  -- the block's run, with n lines to skip first
  unfoldable pub run : Block → ℕ → ℕ → ℕ → ℕ → Ending
  run [] n c a x = fell n c a x
  run (l ∷ b) (suc n) c a x = run b n c a x
  run (l ∷ b) zero c a x = pursue (line l a x) (run b) (suc c)

  -- ---- one block after another

  pub run_append : (b d : Block) (n c a x : ℕ) → run (b ++ d) n c a x ≡ and_then (run b n c a x) (run d)
  unfolding run
  run_append [] d n c a x = refl
  run_append (l ∷ b) d (suc n) c a x = run_append b d n c a x
  run_append (l ∷ b) d zero c a x = pursue_append (line l a x) (run (b ++ d)) (run b) (run d) (suc c) (run_append b d)

  -- to skip a whole block and d lines more
  pub run_past : (b : Block) (d c a x : ℕ) → run b (length b + d) c a x ≡ fell d c a x
  unfolding run
  run_past [] d c a x = rw zero-add
  run_past (l ∷ b) d c a x = rw suc-add (run_past b d c a x)

  pub run_over : (b : Block) (c a x : ℕ) → run b (length b) c a x ≡ fell 0 c a x
  unfolding run
  run_over [] c a x = refl
  run_over (l ∷ b) c a x = run_over b c a x

  -- ---- other exits: where the exits do as `h` says, so do the lines

  module _ (e : Side) (e' : Exit) (h : Ending → Ending) (r s : ℕ → ℕ → ℕ → ℕ → Ending)
      (exits : (p : Exit) (a x c : ℕ) → pursue (to (swap e e' p) a x) r c ≡ h (pursue (to p a x) s c))
      (cuts : (c : ℕ) → cut c ≡ h (cut c)) where
    branch_swap : (b : Bool) (p : Exit) (a x c : ℕ) → pursue (to (cond b (swap e e' p) (Skip 0)) a x) r c ≡ h (pursue (to (cond b p (Skip 0)) a x) s c)
    branch_swap true p a x c = exits p a x c
    branch_swap false p a x c = exits (Skip 0) a x c

    load_swap : (b : Bool) (a x c : ℕ) → pursue (loaded b (to (Skip 0) a x)) r c ≡ h (pursue (loaded b (to (Skip 0) a x)) s c)
    load_swap true a x c = exits (Skip 0) a x c
    load_swap false a x c = cuts c

    line_swap : (l : Line) (a x c : ℕ) → pursue (line (swap_line e e' l) a x) r c ≡ h (pursue (line l a x) s c)
    line_swap (Plain (LdAbs w k)) a x c = load_swap (inside (bytes w) k f) (be (bytes w) k f) x c
    line_swap (Plain (LdhInd k)) a x c = load_swap (inside 2 (indexed x k) f) (be 2 (indexed x k) f) x c
    line_swap (Plain (LdxMsh k)) a x c = load_swap (inside 1 k f) a (4 * (be 1 k f % 16)) c
    line_swap (Plain (LdxImm k)) a x c = exits (Skip 0) a k c
    line_swap (Plain (AndK k)) a x c = exits (Skip 0) (bit_and a k) x c
    line_swap (Branch t k z p) a x c = branch_swap (taken z (compare t a k)) p a x c
    line_swap (Jump p) a x c = exits p a x c

  -- ---- settling: the side e falls off the end, with d lines to skip

  module _ (e : Side) (d m : ℕ) (r s : ℕ → ℕ → ℕ → ℕ → Ending)
      (past : (c a x : ℕ) → r m c a x ≡ fell d c a x)
      (again : (n c a x : ℕ) → r n c a x ≡ redirect e d (s n c a x)) where
    side_settle : (b : Bool) (p : Side) (a x c : ℕ) → pursue (to (cond b (Skip m) (Leave p)) a x) r c ≡ cond b (fell d c a x) (left p c a x)
    side_settle true p a x c = past c a x
    side_settle false p a x c = refl

    exit_settle : (p : Exit) (a x c : ℕ) → pursue (to (swap e (Skip m) p) a x) r c ≡ redirect e d (pursue (to p a x) s c)
    exit_settle (Skip n) a x c = again n c a x
    exit_settle (Leave p) a x c = side_settle (same e p) p a x c

  pub run_settle : (e : Side) (d : ℕ) (b : Block) (n c a x : ℕ) → run (settle e d b) n c a x ≡ redirect e d (run b n c a x)
  unfolding run settle
  run_settle e d [] n c a x = refl
  run_settle e d (l ∷ b) (suc n) c a x = run_settle e d b n c a x
  run_settle e d (l ∷ b) zero c a x =
      line_swap e (Skip (length b + d)) (redirect e d) (run (settle e d b)) (run b)
      (exit_settle e d (length b + d) (run (settle e d b)) (run b)
      (λ c a x. rw (← length_settle e d b) (run_past (settle e d b) d c a x))
      (run_settle e d b))
      (λ c. refl) l a x (suc c)

  -- ---- turning: success becomes failure

  exit_turn : (r s : ℕ → ℕ → ℕ → ℕ → Ending) → ((n c a x : ℕ) → r n c a x ≡ turned (s n c a x)) → (p : Exit) (a x c : ℕ)
      → pursue (to (swap Success (Leave Failure) p) a x) r c ≡ turned (pursue (to p a x) s c)
  exit_turn r s again (Skip n) a x c = again n c a x
  exit_turn r s again (Leave Success) a x c = refl
  exit_turn r s again (Leave Failure) a x c = refl

  pub run_turn : (b : Block) (n c a x : ℕ) → run (turn b) n c a x ≡ turned (run b n c a x)
  unfolding run turn
  run_turn [] n c a x = refl
  run_turn (l ∷ b) (suc n) c a x = run_turn b n c a x
  run_turn (l ∷ b) zero c a x =
      line_swap Success (Leave Failure) turned (run (turn b)) (run b) (exit_turn (run (turn b)) (run b) (run_turn b)) (λ c. refl) l a x (suc c)
