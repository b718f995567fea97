-- The frames of a capture are those that `Read` describes.
use Prim.Native.Nat.{ℕ, ◌+◌, ◌-◌, ◌≤◌}
use mathlib.Core.Path.{◌≡◌, refl, sym, ap, ◌∙◌}
use mathlib.Core.List.{List, [], ◌∷◌, ◌++◌, append_assoc}
use mathlib.Core.Bool.{Bool, true, false}
use mathlib.Core.Logic.{inl, inr}
use native.Mathlib.Omega.{arith}
use borrow.Author.Tests.{ltb-true, ltb-false}
use lib.ListN.{length, take, drop, length-drop, take-append-drop}
use lib.Seq.{drop-drop}
use lib.Dec.{ltb}
use Rattle.capture.specs.declared.Order.{Order}
use Rattle.capture.specs.declared.Front.{Front}
use Rattle.capture.specs.declared.Front.TheVariants.{Whole, Past, Over}
use Rattle.capture.specs.Capture.{number_at, front, Piece, piece, Frames, stopped, given, frames, frames_of}
use Rattle.capture.specs.Reads.{Good, Chain, Bad, bytes_of, Read}
use Rattle.capture.proofs.Numbers.{number_drop}
use Rattle.capture.proofs.Laws.{Stops, not_whole, Fits, front_fits, fits_front, frames_stop, frames_whole, by_frames}

module _ (o : Order) (s : List ℕ) where
  -- the frame at a place, with the bytes from there on
  pub good : (at n : ℕ) → Fits o (drop at s) n → Good o s at (piece (at + 16) n)
  good at n f =
      record {
        behind = refl;
        captured = f.captured ∙ number_drop o 8 at s;
        most = f.most;
        within = omega (arith, f.within, length-drop at s);
      }

  fits : (at : ℕ) (p : Piece) → Good o s at p → Fits o (drop at s) p.size
  fits at p g =
      record {
        captured = g.captured ∙ sym (number_drop o 8 at s);
        most = g.most;
        within = omega (arith, g.within, g.behind, length-drop at s);
      }

  -- ---- where no whole frame stands

  bad_stops : (at : ℕ) → Bad o s at → Stops (front o (drop at s))
  bad_stops at b = go (front o (drop at s)) refl b
    where
      go : (f : Front) → front o (drop at s) ≡ f → Bad o s at → Stops f
      go Past e b = tt
      go Over e b = tt
      go (Whole n) e b =
          let g = good at n (front_fits o (drop at s) n e) in
          absurd (none g b)
        where
          none : Good o s at (piece (at + 16) n) → Bad o s at → ⊥
          none g (inl h) = omega (arith, g.within)
          none g (inr (inl h)) = omega (arith, g.within, g.captured)
          none g (inr (inr h)) = omega (arith, g.most, g.captured)

  abbrev said : ℕ → ℕ
  said at = number_at o (at + 8) s

  stops_bad : (at : ℕ) → Stops (front o (drop at s)) → Bad o s at
  stops_bad at z = go (ltb (length s) (at + 16)) refl (ltb (length s) (at + 16 + said at)) refl (ltb 65535 (said at)) refl
    where
      go : (a : Bool) → ltb (length s) (at + 16) ≡ a → (b : Bool) → ltb (length s) (at + 16 + said at) ≡ b → (c : Bool) → ltb 65535 (said at) ≡ c → Bad o s at
      go true p b q c r = inl (ltb-true (length s) (at + 16) p)
      go false p true q c r = inr (inl (ltb-true (length s) (at + 16 + said at) q))
      go false p false q true r = inr (inr (ltb-true 65535 (said at) r))
      go false p false q false r =
          let g : Good o s at (piece (at + 16) (said at)) = record { behind = refl; captured = refl; most = ltb-false 65535 (said at) r; within = ltb-false (length s) (at + 16 + said at) q } in
          not_whole z (fits_front o (drop at s) (said at) (fits at (piece (at + 16) (said at)) g))

  -- ---- what is given

  pub record Given (at : ℕ) (fs : Frames) : Type 0 where
    pub chain : Chain o s at fs.pieces fs.stop
    pub last : fs.stop ≤ length s
    pub none : Stops (front o (drop fs.stop s))

  pub gives : (at : ℕ) → at ≤ length s → Given at (frames o at (drop at s))
  gives at h = by_frames o (λ a r fs. a ≤ length s → r ≡ drop a s → Given a fs) ends goes at (drop at s) h refl
    where
      ends : (a : ℕ) (r : List ℕ) → Stops (front o r) → a ≤ length s → r ≡ drop a s → Given a (stopped a)
      ends a r z h e = record { chain = refl; last = h; none = rw (← e) z }

      goes : (a n : ℕ) (r : List ℕ) → front o r ≡ Whole n → Fits o r n
          → (a + 16 + n ≤ length s → drop (16 + n) r ≡ drop (a + 16 + n) s → Given (a + 16 + n) (frames o (a + 16 + n) (drop (16 + n) r)))
          → a ≤ length s → r ≡ drop a s → Given a (given (piece (a + 16) n) (frames o (a + 16 + n) (drop (16 + n) r)))
      goes a n r w f later h e =
          let g = good a n (rw e at f) in
          let m : a + (16 + n) ≡ a + 16 + n = omega arith in
          let k = later g.within (rw (e, drop-drop (16 + n) a s, m)) in
          record { chain = (g, k.chain); last = k.last; none = k.none }

  -- ---- nothing else

  only_these : (at : ℕ) (ps : List Piece) (end : ℕ) → Chain o s at ps end → Stops (front o (drop end s))
      → frames o at (drop at s) ≡ record { pieces = ps; stop = end }
  only_these at [] end c z = rw c (frames_stop o end (drop end s) z)
  only_these at (p ∷ ps) end c z =
      let g = c.0 in
      let m : at + (16 + p.size) ≡ p.place + p.size = omega (arith, g.behind) in
      let w = fits_front o (drop at s) p.size (fits at p g) in
      frames_whole o at p.size (drop at s) w
      ∙ rw (drop-drop (16 + p.size) at s, m, ← g.behind, only_these (p.place + p.size) ps end c.1 z)

  -- ---- every byte

  joined : (at : ℕ) (ps : List Piece) (end : ℕ) → Chain o s at ps end → drop at s ≡ bytes_of s ps ++ drop end s
  joined at [] end c = rw c
  joined at (p ∷ ps) end c =
      let g = c.0 in
      let a : p.place - 16 ≡ at = omega (arith, g.behind) in
      let b : at + 16 ≡ p.place = omega (arith, g.behind) in
      sym (take-append-drop 16 (drop at s))
      ∙ rw (a, append_assoc, append_assoc, ← joined (p.place + p.size) ps end c.1, drop-drop 16 at s, b)
      (ap (λ t. take 16 (drop at s) ++ t) (sym (take-append-drop p.size (drop p.place s)) ∙ rw (drop-drop p.size p.place s)))

  pub reads : 24 ≤ length s → Read o s (frames_of o s)
  reads h =
      let g = gives 24 h in
      record {
        chain = g.chain;
        covers = sym (take-append-drop 24 s) ∙ ap (λ t. take 24 s ++ t) (joined 24 (frames_of o s).pieces (frames_of o s).stop g.chain);
        stops = (g.last, stops_bad (frames_of o s).stop g.none);
        only = λ ps end c z. let e = only_these 24 ps end c (bad_stops end z) in (sym (ap (λ f. f.pieces) e), sym (ap (λ f. f.stop) e));
        all = λ ps c. let e = only_these 24 ps (length s) c (bad_stops (length s) (inl (omega arith))) in (sym (ap (λ f. f.pieces) e), ap (λ f. f.stop) e);
      }
