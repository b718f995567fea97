-- The file header, and one frame at a time.
use Rattle.std.specs.Prelude.{Ok, Err}
use Prim.Native.Nat.{ℕ, ◌+◌}
use mathlib.Core.Path.{◌≡◌, refl}
use mathlib.Core.List.{List}
use mathlib.Core.Bool.{Bool, true, false, cond, ◌||◌}
use mathlib.Core.Logic.{◌⊎◌, inl, inr}
use native.Mathlib.Omega.{arith}
use borrow.Author.Tests.{ltb-false, le-ltb, eq-eqb, ne_eqb, eqb-true}
use lib.ListN.{length, drop}
use lib.Seq.{drop-drop}
use lib.Dec.{ltb, eqb}
use Rattle.error.specs.declared.Refusal.{Refusal}
use Rattle.error.specs.declared.Refusal.TheVariants.{NoCapture, OtherLink, CutFrame}
use Rattle.bpf.specs.Bytes.{AreBytes, be, le_at}
use Rattle.ast.specs.declared.LinkType.{LinkType}
use Rattle.capture.specs.declared.Order.{Order}
use Rattle.capture.specs.declared.Order.TheVariants.{Big, Little}
use Rattle.capture.specs.declared.Front.{Front}
use Rattle.capture.specs.declared.Front.TheVariants.{Whole, Past, Over}
use Rattle.capture.specs.Capture.{number_at, is_mark, order_of, field_of, opened, front, piece, stopped, given, frames, size_of, frame_at}
use Rattle.capture.specs.Reads.{Marked, Walked}
use Rattle.capture.proofs.Laws.{frames_stop, frames_whole}

-- ---- the mark

abbrev Mark : ℕ → Type 0
Mark n = (n ≡ 0xa1b2c3d4) ⊎ (n ≡ 0xa1b23c4d)

mark_is : (n : ℕ) → Mark n → is_mark n ≡ true
mark_is n (inl e) = rw (eq-eqb n 0xa1b2c3d4 e)
mark_is n (inr e) = rw (eq-eqb n 0xa1b23c4d e, ne_eqb n 0xa1b2c3d4 (λ z. omega arith))

is_mark_lem : (n : ℕ) → is_mark n ≡ true → Mark n
is_mark_lem n e = go (eqb n 0xa1b2c3d4) refl (eqb n 0xa1b23c4d) refl e
  where
    go : (a : Bool) → eqb n 0xa1b2c3d4 ≡ a → (b : Bool) → eqb n 0xa1b23c4d ≡ b → (a || b) ≡ true → Mark n
    go true p b q e = inl (eqb-true n 0xa1b2c3d4 p)
    go false p true q e = inr (eqb-true n 0xa1b23c4d q)
    go false p false q e = absurd cc

-- no four bytes are a mark in both orders
one_order : (s : List ℕ) → AreBytes s → Mark (number_at Little 0 s) → is_mark (number_at Big 0 s) ≡ false
unfolding be le_at
one_order s z m = rw (ne_eqb (number_at Big 0 s) 0xa1b2c3d4 (λ h. no (inl h) m), ne_eqb (number_at Big 0 s) 0xa1b23c4d (λ h. no (inr h) m))
  where
    no : Mark (number_at Big 0 s) → Mark (number_at Little 0 s) → ⊥
    no (inl h) (inl e) = omega (arith, z 0, z 1, z 2, z 3)
    no (inl h) (inr e) = omega (arith, z 0, z 1, z 2, z 3)
    no (inr h) (inl e) = omega (arith, z 0, z 1, z 2, z 3)
    no (inr h) (inr e) = omega (arith, z 0, z 1, z 2, z 3)

pub marked_order : (o : Order) (s : List ℕ) → AreBytes s → Marked o s → order_of s ≡ Ok o
unfolding order_of
marked_order Big s z m = rw (le-ltb (length s) 24 m.long, mark_is (number_at Big 0 s) m.mark)
marked_order Little s z m = rw (le-ltb (length s) 24 m.long, one_order s z m.mark, mark_is (number_at Little 0 s) m.mark)

pub unmarked : (s : List ℕ) → ((o : Order) → ¬ Marked o s) → order_of s ≡ Err NoCapture
unfolding order_of
unmarked s h = go (ltb (length s) 24) refl (is_mark (number_at Big 0 s)) refl (is_mark (number_at Little 0 s)) refl
  where
    marked : (o : Order) → ltb (length s) 24 ≡ false → is_mark (number_at o 0 s) ≡ true → Marked o s
    marked o p q = record { long = ltb-false (length s) 24 p; mark = is_mark_lem (number_at o 0 s) q }

    go : (a : Bool) → ltb (length s) 24 ≡ a → (b : Bool) → is_mark (number_at Big 0 s) ≡ b → (c : Bool) → is_mark (number_at Little 0 s) ≡ c
        → cond a (Err NoCapture) (cond b (Ok Big) (cond c (Ok Little) (Err NoCapture))) ≡ Err NoCapture
    go true p b q c r = refl
    go false p true q c r = absurd (h Big (marked Big p q))
    go false p false q true r = absurd (h Little (marked Little p r))
    go false p false q false r = refl

-- ---- the link

module _ (s : List ℕ) (link : LinkType) where
  pub opened_unmarked : order_of s ≡ Err NoCapture → opened link s ≡ Err NoCapture
  unfolding opened
  opened_unmarked e = rw e

  module _ (o : Order) (e : order_of s ≡ Ok o) where
    pub opened_other : ¬ (number_at o 20 s ≡ field_of link) → opened link s ≡ Err OtherLink
    unfolding opened
    opened_other h = rw (e, ne_eqb (number_at o 20 s) (field_of link) h)

    pub opened_same : number_at o 20 s ≡ field_of link → opened link s ≡ Ok o
    unfolding opened
    opened_same h = rw (e, eq-eqb (number_at o 20 s) (field_of link) h)

-- ---- one frame at a time

pub walked : (o : Order) (s : List ℕ) (at : ℕ) → order_of s ≡ Ok o → Walked o s at
unfolding frame_at
walked o s at e =
    record { next = λ n h. next n (front o (drop at s)) refl (rw e at h); last = λ r h. last r (front o (drop at s)) refl (rw e at h) }
  where
    next : (n : ℕ) (f : Front) → front o (drop at s) ≡ f → size_of f ≡ Ok n
        → frames o at (drop at s) ≡ given (piece (at + 16) n) (frames o (at + 16 + n) (drop (at + 16 + n) s))
    next n (Whole m) p h =
        let k : m ≡ n = cc in
        let a : at + (16 + n) ≡ at + 16 + n = omega arith in
        rw (frames_whole o at n (drop at s) (rw k at p), drop-drop (16 + n) at s, a)
    next n Past p h = absurd cc
    next n Over p h = absurd cc

    last : (r : Refusal) (f : Front) → front o (drop at s) ≡ f → size_of f ≡ Err r → (r ≡ CutFrame) × (frames o at (drop at s) ≡ stopped at)
    last r (Whole m) p h = absurd cc
    last r Past p h = (cc, frames_stop o at (drop at s) (rw p tt))
    last r Over p h = (cc, frames_stop o at (drop at s) (rw p tt))
