-- The moves, as the functions make them.
use Rattle.std.proofs.Common.{ℕ, ◌+◌, ◌≤◌, ◌≡◌, refl, Bool, true, false, cond, arith}
use Rattle.typing.specs.declared.Word.{Word}
use Rattle.lines.specs.declared.Entry.{Entry}
use Rattle.lines.specs.declared.Entry.TheVariants.{Not, Both, Leaf}
use Rattle.lines.specs.declared.Spot.{Spot}
use Rattle.lines.specs.declared.Spot.TheVariants.{Want, Lone, Sided, Hosted, Ported, Full}
use Rattle.lines.specs.declared.Move.{Move}
use Rattle.lines.specs.declared.Move.TheVariants.{Go, Put, Open, Close}
use Rattle.lines.specs.declared.Sum.{Sum}
use Rattle.lines.specs.Reads.{alone, moved, moved_by, rested, rests, ready, behind, extra, Fits}

-- ---- the numbers fit

pub record Within (s : Sum) (n : ℕ) : Type 0 where
  pub counted : s.count ≤ n
  pub opened : s.depth ≤ n
  pub deep : s.deepest ≤ n

rested_fits : (x : Spot) (s : Sum) (n : ℕ) → s.count + extra x ≤ n → s.depth ≤ n → s.deepest ≤ n → Within (moved_by (alone x) s) n
rested_fits Want s n h k l = record { counted = omega arith; opened = k; deep = l }
rested_fits (Lone t) s n h k l = record { counted = omega arith; opened = k; deep = l }
rested_fits (Sided t d) s n h k l = record { counted = omega arith; opened = k; deep = l }
rested_fits (Hosted d) s n h k l = record { counted = omega arith; opened = k; deep = l }
rested_fits (Ported t d) s n h k l = record { counted = omega arith; opened = k; deep = l }
rested_fits Full s n h k l = record { counted = omega arith; opened = k; deep = l }

pub ready_fits : (w : Word) (s : Sum) (n : ℕ) → Fits s n → Within (ready w s) n
ready_fits w s n f = by (rests w)
  where
    by : (b : Bool) → Within (cond b (rested s) s) n
    by true = rested_fits s.spot s n f.counted f.opened f.deep
    by false = record { counted = omega (arith, f.counted); opened = f.opened; deep = f.deep }

extra_small : (x : Spot) → extra x ≤ 1
extra_small Want = omega arith
extra_small (Lone t) = omega arith
extra_small (Sided t d) = omega arith
extra_small (Hosted d) = omega arith
extra_small (Ported t d) = omega arith
extra_small Full = omega arith

no_extra : (e : Entry) → extra (behind e) ≡ 0
no_extra Not = refl
no_extra (Both j) = refl
no_extra (Leaf t) = refl

moved_fits : (s : Sum) (m : Move) (n : ℕ) → Within s n → Fits (moved s m) (n + 1)
moved_fits s (Go x) n h = record { counted = omega (arith, extra_small x, h.counted); opened = omega (arith, h.opened); deep = omega (arith, h.deep) }
moved_fits s (Put e) n h = record { counted = omega (arith, no_extra e, h.counted); opened = omega (arith, h.opened); deep = omega (arith, h.deep) }
moved_fits s Open n h = record { counted = omega (arith, h.counted); opened = omega (arith, h.opened); deep = omega (arith, h.opened, h.deep) }
moved_fits s Close n h = record { counted = omega (arith, h.counted); opened = omega (arith, h.opened); deep = omega (arith, h.deep) }

pub steps_fit : (w : Word) (s : Sum) (m : Move) (n : ℕ) → Fits s n → Fits (moved (ready w s) m) (n + 1)
steps_fit w s m n f = moved_fits (ready w s) m n (ready_fits w s n f)

pub fits_more : (s : Sum) (n m : ℕ) → Fits s n → n ≤ m → Fits s m
fits_more s n m f h = record { counted = omega (arith, f.counted); opened = omega (arith, f.opened); deep = omega (arith, f.deep) }
