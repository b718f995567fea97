-- The place of a refusal lies in the line, or at its end.
use Rattle.std.specs.Prelude.{Option, None, Some}
use Rattle.std.specs.Prelude.{Result}
use Rattle.typing.specs.declared.Fault.{Fault}
use Rattle.typing.specs.Typed.{fault}
use Rattle.std.specs.Prelude.{Ok, Err}
use Prim.Native.Nat.{ℕ, ◌+◌, ◌≤◌}
use mathlib.Core.Path.{◌≡◌, ap}
use mathlib.Core.List.{List, [], ◌∷◌}
use mathlib.Core.Bool.{Bool, false, not, ◌&&◌}
use native.Mathlib.Omega.{arith}
use lib.ListN.{length}
use Rattle.error.specs.declared.Refusal.{Refusal}
use Rattle.error.specs.Answer.{Out}
use Rattle.error.proofs.All.{either}
use Rattle.ast.specs.declared.LinkType.{LinkType}
use Rattle.ast.specs.File.{link_of}
use Rattle.typing.specs.Words.{Word, word_of, in_word, up_to, Placed, known, strange, spotted, words_from, line_words}
use Rattle.typing.specs.Phrase.{Phrase}
use Rattle.typing.specs.Finds.{Found, phrase, unknown, unfinished}
use Rattle.typing.specs.Parse.{State, step, final, start, ends, scan}
use Rattle.typing.specs.Typed.{Typed, within, sized, linked, typed}

-- ---- the places of words

Inside : ℕ → List Placed → Type 0
Inside end [] = Unit {0}
Inside end (known k w ∷ ps) = (k ≤ end) × Inside end ps
Inside end (strange k ∷ ps) = (k ≤ end) × Inside end ps

word_inside : (end at : ℕ) (o : Option Word) (ps : List Placed) → at ≤ end → Inside end ps → Inside end (spotted at o ∷ ps)
unfolding Inside
word_inside end at None ps h k = (h, k)
word_inside end at (Some w) ps h k = (h, k)

words_inside : (s : List ℕ) (after : Bool) (at end : ℕ) → at + length s ≤ end → Inside end (words_from after at s)
unfolding Inside words_from
words_inside [] after at end h = tt
words_inside (c ∷ s) after at end h =
    let rest : Inside end (words_from (in_word c) (at + 1) s) = words_inside s (in_word c) (at + 1) end (omega arith) in
    either (Inside end) (in_word c && not after) (word_inside end at (word_of (up_to 0x20 (c ∷ s))) (words_from (in_word c) (at + 1) s) (omega arith) rest) rest

-- ---- the place that is found

found_at : Found → ℕ
found_at (phrase p) = 0
found_at (unknown k) = k
found_at (unfinished k) = k

ends_inside : (end : ℕ) (o : Option Phrase) → found_at (ends end o) ≤ end
unfolding found_at
ends_inside end None = omega arith
ends_inside end (Some p) = omega arith

scan_inside : (end : ℕ) (ps : List Placed) (st : State) → Inside end ps → found_at (scan end st ps) ≤ end
unfolding scan Inside found_at
scan_inside end [] st h = ends_inside end (final st)
scan_inside end (strange k ∷ ps) st h = h.0
scan_inside end (known k w ∷ ps) st h = by (step st w) (λ st'. scan_inside end ps st' h.1)
  where
    by : (o : Option State) → ((st' : State) → found_at (scan end st' ps) ≤ end) → found_at (elim o as (λ _. Found) [ None ↦ unfinished k | Some st' ↦ scan end st' ps ]) ≤ end
    by None ih = h.0
    by (Some st') ih = ih st'

-- ---- and of the answer

place_of : Result ℕ Fault → ℕ
place_of (Ok n) = 0
place_of (Err e) = e.place

sized_inside : (link end : ℕ) (f : Found) → found_at f ≤ end → place_of (sized link f).answer ≤ end
unfolding found_at place_of
sized_inside link end (phrase p) h = either (λ (t : Typed). place_of t.answer ≤ end) (within p) (omega arith) (omega arith)
sized_inside link end (unknown k) h = h
sized_inside link end (unfinished k) h = h

linked_inside : (end : ℕ) (o : Out LinkType) (t : Typed) → place_of t.answer ≤ end → place_of (linked o t).answer ≤ end
unfolding place_of
linked_inside end (Err r) t h = omega arith
linked_inside end (Ok l) t h = h

pub place_inside : (link : ℕ) (line : List ℕ) (r : Refusal) (k : ℕ) → (typed link line).answer ≡ Err (fault r k) → k ≤ length line
unfolding typed place_of
place_inside link line r k e =
    let h : place_of (typed link line).answer ≤ length line = linked_inside (length line) (link_of link) (sized link (scan (length line) start (line_words line))) (sized_inside link (length line) (scan (length line) start (line_words line)) (scan_inside (length line) (line_words line) start (words_inside line false 0 (length line) (omega arith)))) in
    let p = ap place_of e in
    omega arith
