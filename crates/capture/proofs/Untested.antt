-- The fields of a file header that are not tested.
use Rattle.std.specs.Prelude.{Ok, Err}
use Prim.Native.Nat.{ℕ, ◌-◌, ◌≤◌}
use mathlib.Core.Path.{◌≡◌, refl, sym, ap, ◌∙◌}
use mathlib.Core.List.{List}
use mathlib.Core.Bool.{Bool, true, false}
use native.Mathlib.Omega.{arith}
use borrow.Author.Tests.{ltb-true, ltb-false}
use lib.ListN.{length, take, drop, length-take, length-drop, take-append-drop}
use lib.Seq.{drop-drop}
use lib.Dec.{ltb}
use Rattle.error.specs.Answer.{Out}
use Rattle.ast.specs.declared.LinkType.{LinkType}
use Rattle.capture.specs.declared.Order.{Order}
use Rattle.capture.specs.Capture.{number_at, opened, frames_of}
use Rattle.capture.specs.Counting.{tally_of, over, counted}
use Rattle.capture.proofs.Numbers.{number_drop, number_prefix}
use Rattle.capture.proofs.Coded.{opened_alike}
use Rattle.capture.proofs.Joins.{tally_from}
use Rattle.capture.proofs.Turning.{no_header}

-- the first number is that of the first four bytes
number_first : (o : Order) (s : List ℕ) → 4 ≤ length s → number_at o 0 s ≡ number_at o 0 (take 4 s)
number_first o s h =
    ap (number_at o 0) (sym (take-append-drop 4 s)) ∙ number_prefix o 0 (take 4 s) (drop 4 s) (omega (arith, length-take 4 s))

module _ (P : List ℕ) (link : LinkType) (s t : List ℕ) (m : take 4 t ≡ take 4 s) (b : drop 20 t ≡ drop 20 s) where
  lengths : length t - 20 ≡ length s - 20
  lengths = sym (length-drop 20 t) ∙ ap length b ∙ length-drop 20 s

  module _ (h : 24 ≤ length s) where
    same_length : length t ≡ length s
    same_length = omega (arith, lengths)

    same_mark : (o : Order) → number_at o 0 t ≡ number_at o 0 s
    same_mark o = number_first o t (omega (arith, same_length)) ∙ ap (number_at o 0) m ∙ sym (number_first o s (omega arith))

    same_link : (o : Order) → number_at o 20 t ≡ number_at o 20 s
    same_link o = sym (number_drop o 0 20 t) ∙ ap (number_at o 0) b ∙ number_drop o 0 20 s

    same_rest : drop 24 t ≡ drop 24 s
    same_rest = sym (drop-drop 4 20 t) ∙ ap (drop 4) b ∙ drop-drop 4 20 s

    same_opened : opened link t ≡ opened link s
    same_opened = opened_alike s t h (omega (arith, same_length)) same_mark link same_link

    same_tally : (o : Order) → tally_of P t (frames_of o t) ≡ tally_of P s (frames_of o s)
    same_tally o = tally_from P o 24 t ∙ rw same_rest (sym (tally_from P o 24 s))

    same_over : (x : Out Order) → over P t x ≡ over P s x
    same_over (Err r) = refl
    same_over (Ok o) = rw (same_tally o, same_rest, same_length)

  pub untested : counted P link t ≡ counted P link s
  unfolding counted
  untested = go (ltb (length s) 24) refl
    where
      go : (e : Bool) → ltb (length s) 24 ≡ e → over P t (opened link t) ≡ over P s (opened link s)
      go true p =
          let h = ltb-true (length s) 24 p in
          rw (no_header P link s h, no_header P link t (omega (arith, lengths)))
      go false p = let h = ltb-false (length s) 24 p in rw (same_opened h) (same_over h (opened link s))
