-- Frames that are read from further on, and bytes that go on.
use Prim.Native.Nat.{ℕ, ◌+◌, ◌-◌, ◌*◌, ◌≤◌}
use mathlib.Core.Path.{◌≡◌, refl, sym, ap, ap₂, ◌∙◌}
use mathlib.Core.List.{List, [], ◌∷◌, ◌++◌, map}
use mathlib.Core.Bool.{Bool, true, false, cond}
use native.Mathlib.Omega.{arith}
use lib.ListN.{length, drop, length-drop, length-append, length-map}
use lib.Seq.{drop-drop, drop-append-le, take-append-le}
use Rattle.capture.specs.declared.Order.{Order}
use Rattle.capture.specs.declared.Front.TheVariants.{Whole}
use Rattle.capture.specs.declared.Tally.{Tally}
use Rattle.capture.specs.Capture.{front, Piece, piece, part, Frames, stopped, given, frames}
use Rattle.capture.specs.Counting.{keeps, passing, tally_of}
use Rattle.capture.specs.Turns.{window, sum}
use Rattle.capture.specs.Reads.{Chain}
use Rattle.capture.specs.Promises.{Sound}
use Rattle.capture.proofs.Laws.{Stops, Fits, front_prefix, frames_stop, frames_whole, by_frames}
use Rattle.capture.proofs.Whole.{gives}

-- ---- places counted from further on

abbrev moved : ℕ → Piece → Piece
moved d p = piece (d + p.place) p.size

abbrev shift : ℕ → Frames → Frames
shift d fs = record { pieces = map (moved d) fs.pieces; stop = d + fs.stop }

frames_shift : (o : Order) (d at : ℕ) (s : List ℕ) → frames o (d + at) s ≡ shift d (frames o at s)
frames_shift o d at s = by_frames o (λ a r fs. frames o (d + a) r ≡ shift d fs) ends goes at s
  where
    ends : (a : ℕ) (r : List ℕ) → Stops (front o r) → frames o (d + a) r ≡ shift d (stopped a)
    ends a r z = frames_stop o (d + a) r z

    goes : (a n : ℕ) (r : List ℕ) → front o r ≡ Whole n → Fits o r n → frames o (d + (a + 16 + n)) (drop (16 + n) r) ≡ shift d (frames o (a + 16 + n) (drop (16 + n) r))
        → frames o (d + a) r ≡ shift d (given (piece (a + 16) n) (frames o (a + 16 + n) (drop (16 + n) r)))
    goes a n r w f later =
        let k : d + a + 16 + n ≡ d + (a + 16 + n) = omega arith in
        let m : d + a + 16 ≡ d + (a + 16) = omega arith in
        frames_whole o (d + a) n r w ∙ rw (k, later, m)

-- from a place on
frames_from : (o : Order) (d : ℕ) (s : List ℕ) → frames o d s ≡ shift d (frames o 0 s)
frames_from o d s = let k : d + 0 ≡ d = omega arith in rw k at (frames_shift o d 0 s)

passing_shift : (q : List ℕ → Bool) (d : ℕ) (s : List ℕ) (ps : List Piece) → passing q s (map (moved d) ps) ≡ passing q (drop d s) ps
unfolding passing
passing_shift q d s [] = refl
passing_shift q d s (p ∷ ps) = rw (drop-drop p.place d s, passing_shift q d s ps)

passing_append : (q : List ℕ → Bool) (s : List ℕ) (ps qs : List Piece) → passing q s (ps ++ qs) ≡ passing q s ps + passing q s qs
unfolding passing
passing_append q s [] qs = omega arith
passing_append q s (p ∷ ps) qs = omega (arith, passing_append q s ps qs)

-- frames that lie within the first bytes
passing_prefix : (q : List ℕ → Bool) (o : Order) (s more : List ℕ) (at : ℕ) (ps : List Piece) (end : ℕ) → Chain o s at ps end → passing q (s ++ more) ps ≡ passing q s ps
unfolding passing
passing_prefix q o s more at [] end c = refl
passing_prefix q o s more at (p ∷ ps) end c =
    let w = c.0.within in
    rw (
      drop-append-le p.place s more (omega (arith, w)),
      take-append-le p.size (drop p.place s) more (omega (arith, w, length-drop p.place s)),
      passing_prefix q o s more (p.place + p.size) ps end c.1,
    )

-- ---- how many

pub bit_few : (b : Bool) → cond b 1 0 ≤ 1
bit_few true = omega arith
bit_few false = omega arith

-- no more pass than are there
passing_few : (q : List ℕ → Bool) (s : List ℕ) (ps : List Piece) → passing q s ps ≤ length ps
unfolding passing
passing_few q s [] = omega arith
passing_few q s (p ∷ ps) = omega (arith, passing_few q s ps, bit_few (q (part s p)))

-- each frame has a header of 16 bytes
chain_few : (o : Order) (s : List ℕ) (at : ℕ) (ps : List Piece) (end : ℕ) → Chain o s at ps end → 16 * length ps + at ≤ end
chain_few o s at [] end c = omega arith
chain_few o s at (p ∷ ps) end c = omega (arith, chain_few o s (p.place + p.size) ps end c.1, c.0.behind)

pub tally_sound : (P : List ℕ) (o : Order) (s : List ℕ) (at : ℕ) → at ≤ length s → Sound (tally_of P s (frames o at (drop at s)))
tally_sound P o s at h =
    let fs = frames o at (drop at s) in
    record { kept = passing_few (keeps P) s fs.pieces; given = omega (arith, chain_few o s at fs.pieces fs.stop (gives o s at h).chain) }

pub window_few : (P : List ℕ) (o : Order) (w : List ℕ) → (window P o w).tally.stop ≤ length w
unfolding window
window_few P o w = (gives o w 0 (omega arith)).last

-- ---- tallies

abbrev far : ℕ → Tally
far d = record { kept = 0; given = 0; stop = d }

-- a part read on its own: what is counted in it, and where it stops
pub tally_from : (P : List ℕ) (o : Order) (d : ℕ) (s : List ℕ) → tally_of P s (frames o d (drop d s)) ≡ sum (far d) (tally_of P (drop d s) (frames o 0 (drop d s)))
tally_from P o d s =
    let fs = frames o 0 (drop d s) in
    let k = passing_shift (keeps P) d s fs.pieces in
    let g = length-map fs.pieces (moved d) in
    let a : passing (keeps P) (drop d s) fs.pieces ≡ 0 + passing (keeps P) (drop d s) fs.pieces = omega arith in
    let b : length fs.pieces ≡ 0 + length fs.pieces = omega arith in
    rw (frames_from o d (drop d s)) (λ i. record { kept = (k ∙ a) i; given = (g ∙ b) i; stop = d + fs.stop })

-- ---- more bytes

abbrev pub after : List Piece → Frames → Frames
after ps fs = record { pieces = ps ++ fs.pieces; stop = fs.stop }

pub record Goes_on (o : Order) (more : List ℕ) (at : ℕ) (s : List ℕ) (fs : Frames) : Type 0 where
  pub later : at ≤ fs.stop
  pub is : frames o at (s ++ more) ≡ after fs.pieces (frames o fs.stop (drop (fs.stop - at) s ++ more))

pub frames_append : (o : Order) (more : List ℕ) (at : ℕ) (s : List ℕ) → Goes_on o more at s (frames o at s)
frames_append o more at s = by_frames o (Goes_on o more) ends goes at s
  where
    ends : (a : ℕ) (r : List ℕ) → Stops (front o r) → Goes_on o more a r (stopped a)
    ends a r z = let k : a - a ≡ 0 = omega arith in record { later = omega arith; is = rw k }

    goes : (a n : ℕ) (r : List ℕ) → front o r ≡ Whole n → Fits o r n → Goes_on o more (a + 16 + n) (drop (16 + n) r) (frames o (a + 16 + n) (drop (16 + n) r))
        → Goes_on o more a r (given (piece (a + 16) n) (frames o (a + 16 + n) (drop (16 + n) r)))
    goes a n r w f later =
        let l = later.later in
        let k : 16 + n + ((frames o (a + 16 + n) (drop (16 + n) r)).stop - (a + 16 + n)) ≡ (frames o (a + 16 + n) (drop (16 + n) r)).stop - a = omega arith in
        record {
          later = omega arith;
          is =
              frames_whole o a n (r ++ more) (front_prefix o r more n w)
              ∙ rw (drop-append-le (16 + n) r more f.within, later.is, drop-drop ((frames o (a + 16 + n) (drop (16 + n) r)).stop - (a + 16 + n)) (16 + n) r, k);
        }

-- the whole frames of some bytes, then those of what they leave and of the bytes that follow
module _ (o : Order) (w more : List ℕ) where
  abbrev pub fs : Frames
  fs = frames o 0 w

  abbrev pub left : List ℕ
  left = drop fs.stop w ++ more

  joined : frames o 0 (w ++ more) ≡ after fs.pieces (shift fs.stop (frames o 0 left))
  joined =
      let k : fs.stop - 0 ≡ fs.stop = omega arith in
      rw k at (frames_append o more 0 w).is ∙ ap (after fs.pieces) (frames_from o fs.stop left)

  pub left_is : drop fs.stop (w ++ more) ≡ left
  left_is = drop-append-le fs.stop w more (gives o w 0 (omega arith)).last

  pub joined_stop : (frames o 0 (w ++ more)).stop ≡ fs.stop + (frames o 0 left).stop
  joined_stop = ap (λ f. f.stop) joined

  pub joined_rest : drop (frames o 0 (w ++ more)).stop (w ++ more) ≡ drop (frames o 0 left).stop left
  joined_rest =
      ap (λ d. drop d (w ++ more)) joined_stop
      ∙ sym (drop-drop (frames o 0 left).stop fs.stop (w ++ more))
      ∙ ap (drop (frames o 0 left).stop) left_is

  pub joined_tally : (P : List ℕ) → tally_of P (w ++ more) (frames o 0 (w ++ more)) ≡ sum (tally_of P w fs) (tally_of P left (frames o 0 left))
  joined_tally P =
      let ls = frames o 0 left in
      let k : passing (keeps P) (w ++ more) (fs.pieces ++ map (moved fs.stop) ls.pieces) ≡ passing (keeps P) w fs.pieces + passing (keeps P) left ls.pieces =
      passing_append (keeps P) (w ++ more) fs.pieces (map (moved fs.stop) ls.pieces)
      ∙ ap₂ (λ x y. x + y) (passing_prefix (keeps P) o w more 0 fs.pieces fs.stop (gives o w 0 (omega arith)).chain)
      (passing_shift (keeps P) fs.stop (w ++ more) ls.pieces ∙ rw left_is) in
      let g : length (fs.pieces ++ map (moved fs.stop) ls.pieces) ≡ length fs.pieces + length ls.pieces =
      omega (arith, length-append fs.pieces (map (moved fs.stop) ls.pieces), length-map ls.pieces (moved fs.stop)) in
      rw joined (λ i. record { kept = k i; given = g i; stop = fs.stop + ls.stop })
