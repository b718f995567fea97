-- A window, some of its frames passed.
use Prim.Native.Nat.{ℕ, ◌+◌, ◌-◌, ◌*◌, ◌≤◌}
use mathlib.Core.Path.{◌≡◌, sym, ap, ◌∙◌}
use mathlib.Core.List.{List}
use mathlib.Core.Bool.{cond}
use native.Mathlib.Omega.{arith}
use lib.ListN.{length, take, drop, length-drop, length-take}
use lib.Seq.{drop-drop, take_all}
use Rattle.capture.specs.declared.Order.{Order}
use Rattle.capture.specs.declared.Front.{Front}
use Rattle.capture.specs.declared.Front.TheVariants.{Whole}
use Rattle.capture.specs.Capture.{number_at, front, piece, part, frames}
use Rattle.capture.specs.Counting.{keeps, passing, tally_of}
use Rattle.capture.specs.Turns.{awaits, window}
use Rattle.capture.specs.Reads.{Good}
use Rattle.capture.proofs.Whole.{good}
use Rattle.capture.proofs.Joins.{bit_few}
use Rattle.capture.proofs.Laws.{Stops, front_fits, frames_stop, frames_whole}

-- the frames before a place are counted: with those from there on they are all
pub record Passed (P : List ℕ) (o : Order) (w : List ℕ) (at kept given : ℕ) : Type 0 where
  pub within : at ≤ length w
  pub few : kept ≤ given
  pub headers : 16 * given ≤ at
  pub keeping : kept + passing (keeps P) w (frames o at (drop at w)).pieces ≡ passing (keeps P) w (frames o 0 w).pieces
  pub giving : given + length (frames o at (drop at w)).pieces ≡ length (frames o 0 w).pieces
  pub stop : (frames o at (drop at w)).stop ≡ (frames o 0 w).stop

-- a whole frame at a place of the window
pub whole_at : (o : Order) (w : List ℕ) (at n : ℕ) → front o (drop at w) ≡ Whole n → Good o w at (piece (at + 16) n)
whole_at o w at n e = good o w at n (front_fits o (drop at w) n e)

pub frame_few : (o : Order) (w : List ℕ) (at n : ℕ) → Good o w at (piece (at + 16) n) → length (part w (piece (at + 16) (number_at o (at + 8) w))) ≤ 65535
frame_few o w at n f = omega (arith, f.captured, f.most, length-take (number_at o (at + 8) w) (drop (at + 16) w))

module _ {P : List ℕ} {o : Order} {w : List ℕ} {at kept given : ℕ} (h : Passed P o w at kept given) where
  pub passed_next : (n k : ℕ) → front o (drop at w) ≡ Whole n → k ≡ kept + cond (keeps P (part w (piece (at + 16) n))) 1 0 → Passed P o w (at + (16 + n)) k (given + 1)
  unfolding passing
  passed_next n k e p =
      let f = whole_at o w at n e in
      let m : at + (16 + n) ≡ at + 16 + n = omega arith in
      let s : frames o at (drop at w) ≡ _ = frames_whole o at n (drop at w) e in
      let d : drop (16 + n) (drop at w) ≡ drop (at + 16 + n) w = rw (drop-drop (16 + n) at w, m) in
      record {
        within = omega (arith, f.within);
        few = omega (arith, h.few, bit_few (keeps P (part w (piece (at + 16) n))));
        headers = omega (arith, h.headers);
        keeping = rw m (omega (arith, rw (s, d) at h.keeping));
        giving = rw m (omega (arith, rw (s, d) at h.giving));
        stop = rw m (rw (s, d) at h.stop);
      }

  stopped_tally : Stops (front o (drop at w)) → record { kept = kept; given = given; stop = at } ≡ tally_of P w (frames o 0 w)
  unfolding passing
  stopped_tally z =
      let s = frames_stop o at (drop at w) z in
      let k : kept ≡ passing (keeps P) w (frames o 0 w).pieces = omega (arith, rw s at h.keeping) in
      let g : given ≡ length (frames o 0 w).pieces = omega (arith, rw s at h.giving) in
      let t : at ≡ (frames o 0 w).stop = rw s at h.stop in
      λ i. record { kept = k i; given = g i; stop = t i }

  pub passed_all : (f : Front) → front o (drop at w) ≡ f → Stops f → record { stage = awaits o f; tally = record { kept = kept; given = given; stop = at } } ≡ window P o w
  unfolding window
  passed_all f e z =
      let t = stopped_tally (rw e z) in
      let g : awaits o f ≡ awaits o (front o (drop (frames o 0 w).stop w)) = ap (awaits o) (sym e) ∙ ap (λ x. awaits o (front o (drop x.stop w))) t in
      λ i. record { stage = g i; tally = t i }

-- ---- the window behind the first bytes

pub rest_is : (s : List ℕ) (a : ℕ) → take (length s - a) (drop a s) ≡ drop a s
rest_is s a = take_all (length s - a) (drop a s) (omega (arith, length-drop a s))
