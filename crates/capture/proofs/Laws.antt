-- The frames of some bytes, frame by frame.
use Prim.Native.Nat.{ℕ, zero, suc, ◌+◌, ◌≤◌, ◌<◌}
use mathlib.Core.Path.{◌≡◌, refl, sym, ap, ◌∙◌}
use mathlib.Core.List.{List, [], ◌∷◌, ◌++◌}
use mathlib.Core.Bool.{Bool, true, false, cond, true≢false}
use native.Mathlib.Omega.{arith}
use borrow.Author.Tests.{ltb-true, ltb-false, lt-ltb, le-ltb}
use lib.ListN.{length, drop, length-drop, length-append}
use lib.Dec.{ltb}
use Rattle.capture.specs.declared.Order.{Order}
use Rattle.capture.specs.declared.Front.{Front}
use Rattle.capture.specs.declared.Front.TheVariants.{Whole, Past, Over}
use Rattle.capture.specs.Capture.{number_at, front, piece, Frames, stopped, given, onward, frames_after, frames}
use Rattle.capture.proofs.Numbers.{number_prefix}

-- ---- the front

-- no whole frame stands there
abbrev pub Stops : Front → Type 0
Stops (Whole n) = ⊥
Stops Past = Unit {0}
Stops Over = Unit {0}

abbrev is_over : Front → Bool
is_over (Whole n) = false
is_over Past = false
is_over Over = true

pub record Fits (o : Order) (s : List ℕ) (n : ℕ) : Type 0 where
  pub captured : n ≡ number_at o 8 s
  pub most : n ≤ 65535
  pub within : 16 + n ≤ length s

pub not_whole : {A : Type 0} {n : ℕ} {f : Front} → Stops f → f ≡ Whole n → A
not_whole {f = Whole m} h e = absurd h
not_whole {f = Past} h e = absurd cc
not_whole {f = Over} h e = absurd cc

pub front_fits : (o : Order) (s : List ℕ) (n : ℕ) → front o s ≡ Whole n → Fits o s n
unfolding front
front_fits o s n e = go (ltb (length s) 16) refl (ltb 65535 (number_at o 8 s)) refl (ltb (length s) (16 + number_at o 8 s)) refl e
  where
    go : (a : Bool) → ltb (length s) 16 ≡ a → (b : Bool) → ltb 65535 (number_at o 8 s) ≡ b → (c : Bool) → ltb (length s) (16 + number_at o 8 s) ≡ c
        → cond a Past (cond b Over (cond c Past (Whole (number_at o 8 s)))) ≡ Whole n → Fits o s n
    go true p b q c r e = not_whole tt e
    go false p true q c r e = not_whole tt e
    go false p false q true r e = not_whole tt e
    go false p false q false r e =
        let k : n ≡ number_at o 8 s = cc in
        record { captured = k; most = omega (arith, ltb-false 65535 (number_at o 8 s) q); within = omega (arith, ltb-false (length s) (16 + number_at o 8 s) r) }

pub fits_front : (o : Order) (s : List ℕ) (n : ℕ) → Fits o s n → front o s ≡ Whole n
unfolding front
fits_front o s n h =
    let k = h.captured in
    rw (
      ← k,
      le-ltb (length s) 16 (omega (arith, h.within)),
      le-ltb 65535 n h.most,
      le-ltb (length s) (16 + n) h.within,
    )

-- a whole frame stays whatever follows
pub front_prefix : (o : Order) (s more : List ℕ) (n : ℕ) → front o s ≡ Whole n → front o (s ++ more) ≡ Whole n
front_prefix o s more n e =
    let h = front_fits o s n e in
    fits_front o (s ++ more) n
    (record {
      captured = h.captured ∙ sym (number_prefix o 8 s more (omega (arith, h.within)));
      most = h.most;
      within = omega (arith, h.within, length-append s more);
    })

-- and so does one over 65,535 bytes
pub not_over : {A : Type 0} {f : Front} → is_over f ≡ false → f ≡ Over → A
not_over {f = f} h e = absurd (true≢false (sym (ap is_over e) ∙ h))

pub over_number : (o : Order) (s : List ℕ) → front o s ≡ Over → (16 ≤ length s) × (65535 < number_at o 8 s)
unfolding front
over_number o s e = go (ltb (length s) 16) refl (ltb 65535 (number_at o 8 s)) refl (ltb (length s) (16 + number_at o 8 s)) e
  where
    go : (a : Bool) → ltb (length s) 16 ≡ a → (b : Bool) → ltb 65535 (number_at o 8 s) ≡ b → (c : Bool)
        → cond a Past (cond b Over (cond c Past (Whole (number_at o 8 s)))) ≡ Over → (16 ≤ length s) × (65535 < number_at o 8 s)
    go true p b q c e = not_over refl e
    go false p true q c e = (ltb-false (length s) 16 p, ltb-true 65535 (number_at o 8 s) q)
    go false p false q true e = not_over refl e
    go false p false q false e = not_over refl e

pub over_prefix : (o : Order) (s more : List ℕ) → front o s ≡ Over → front o (s ++ more) ≡ Over
unfolding front
over_prefix o s more e =
    let h = over_number o s e in
    rw (
      number_prefix o 8 s more (omega arith),
      le-ltb (length (s ++ more)) 16 (omega (arith, length-append s more)),
      lt-ltb 65535 (number_at o 8 s) h.1,
    )

-- a header of 16 bytes and a frame of 65,535 run past less than 65,551 bytes only
pub past_few : (o : Order) (s : List ℕ) → front o s ≡ Past → length s < 65551
unfolding front
past_few o s e = go (ltb (length s) 16) refl (ltb 65535 (number_at o 8 s)) refl (ltb (length s) (16 + number_at o 8 s)) refl e
  where
    go : (a : Bool) → ltb (length s) 16 ≡ a → (b : Bool) → ltb 65535 (number_at o 8 s) ≡ b → (c : Bool) → ltb (length s) (16 + number_at o 8 s) ≡ c
        → cond a Past (cond b Over (cond c Past (Whole (number_at o 8 s)))) ≡ Past → length s < 65551
    go true p b q c r e = omega (arith, ltb-true (length s) 16 p)
    go false p true q c r e = not_over refl (sym e)
    go false p false q true r e = omega (arith, ltb-true (length s) (16 + number_at o 8 s) r, ltb-false 65535 (number_at o 8 s) q)
    go false p false q false r e = not_whole tt (sym e)

-- ---- the frames

after_drop : (o : Order) (n at : ℕ) (s : List ℕ) → n ≤ length s → frames_after o n at s ≡ frames_after o 0 (at + n) (drop n s)
unfolding frames_after
after_drop o zero at s h = let e : at + 0 ≡ at = omega arith in rw e
after_drop o (suc n) at [] h = absurd (omega arith)
after_drop o (suc n) at (b ∷ s) h = let e : at + suc n ≡ suc at + n = omega arith in rw e (after_drop o n (suc at) s (omega arith))

module _ (o : Order) (at : ℕ) where
  pub frames_stop : (s : List ℕ) → Stops (front o s) → frames o at s ≡ stopped at
  unfolding frames frames_after
  frames_stop [] h = refl
  frames_stop (b ∷ s) h = go (front o (b ∷ s)) h
    where
      go : (f : Front) → Stops f → onward at (λ n. frames_after o (15 + n) (suc at) s) f ≡ stopped at
      go (Whole n) h = absurd h
      go Past h = refl
      go Over h = refl

  pub frames_whole : (n : ℕ) (s : List ℕ) → front o s ≡ Whole n → frames o at s ≡ given (piece (at + 16) n) (frames o (at + 16 + n) (drop (16 + n) s))
  unfolding frames frames_after
  frames_whole n [] e = absurd (omega (arith, (front_fits o [] n e).within))
  frames_whole n (b ∷ s) e =
      let k : 16 + n ≡ suc (15 + n) = omega arith in
      let m : at + 16 + n ≡ suc at + (15 + n) = omega arith in
      rw (e, k, m) (ap (given (piece (at + 16) n)) (after_drop o (15 + n) (suc at) s (omega (arith, (front_fits o (b ∷ s) n e).within))))

-- what holds where no whole frame stands, and of a frame and those that follow it, holds of all frames
module _ (o : Order) (Q : ℕ → List ℕ → Frames → Type 0) (ends : (at : ℕ) (s : List ℕ) → Stops (front o s) → Q at s (stopped at))
    (goes : (at n : ℕ) (s : List ℕ) → front o s ≡ Whole n → Fits o s n → Q (at + 16 + n) (drop (16 + n) s) (frames o (at + 16 + n) (drop (16 + n) s))
    → Q at s (given (piece (at + 16) n) (frames o (at + 16 + n) (drop (16 + n) s)))) where
  stop_case : (at : ℕ) (s : List ℕ) → Stops (front o s) → Q at s (frames o at s)
  stop_case at s h = rw (frames_stop o at s h) (ends at s h)

  by_front : (at : ℕ) (s : List ℕ) (f : Front) → front o s ≡ f
      → ((n : ℕ) → Fits o s n → Q (at + 16 + n) (drop (16 + n) s) (frames o (at + 16 + n) (drop (16 + n) s))) → Q at s (frames o at s)
  by_front at s Past e later = stop_case at s (rw e tt)
  by_front at s Over e later = stop_case at s (rw e tt)
  by_front at s (Whole n) e later = let h = front_fits o s n e in rw (frames_whole o at n s e) (goes at n s e h (later n h))

  under : (m at : ℕ) (s : List ℕ) → length s ≤ m → Q at s (frames o at s)
  under zero at s h = by_front at s (front o s) refl (λ n w. absurd (omega (arith, w.within)))
  under (suc m) at s h = by_front at s (front o s) refl (λ n w. under m (at + 16 + n) (drop (16 + n) s) (omega (arith, length-drop (16 + n) s, w.within)))

  pub by_frames : (at : ℕ) (s : List ℕ) → Q at s (frames o at s)
  by_frames at s = under (length s) at s (omega arith)
