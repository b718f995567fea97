-- A line's words, one after the other, as the loop meets them.
use Rattle.std.specs.Prelude.{Option, None, Some, Ok, Err}
use Prim.Native.Nat.{ℕ, suc, ◌+◌, ◌-◌, ◌≤◌, ◌<◌}
use mathlib.Core.Path.{◌≡◌, refl, sym, ap, ap₂, ◌∙◌}
use mathlib.Core.List.{List, [], ◌∷◌}
use mathlib.Core.Bool.{Bool, true, false, cond, not, ◌&&◌}
use native.Mathlib.Omega.{arith}
use native.Mathlib.Nat.{add-zero}
use lib.ListN.{length, get_or, drop, take, length-drop}
use lib.Seq.{drop-drop}
use lib.Dec.{eqb}
use Rattle.std.proofs.lemmas.List.{take_all, length-take-le}
use borrow.Author.Tests.{eq-eqb, ne_eqb}
use Rattle.error.specs.declared.Refusal.TheVariants.{UnknownWord, Unfinished}
use Rattle.typing.specs.declared.Fault.{Fault}
use Rattle.typing.specs.declared.Word.{Word}
use Rattle.typing.specs.Words.{word_of, up_to, Placed, known, spotted, words_from}
use Rattle.typing.specs.Typed.{fault}
use Rattle.words.proofs.Scans.{drop_all, drop_here, take_up_to}
use Rattle.lines.specs.declared.Item.{Item}
use Rattle.lines.specs.declared.Move.{Move}
use Rattle.lines.specs.declared.Sum.{Sum}
use Rattle.lines.specs.Reads.{moved, moved_by, stored, stored_by, ready, ready_items, move, taken, Reading, reading, scans, closed, rested, rest_items, Fits}
use Rattle.lines.proofs.Moves.{steps_fit, fits_more}

-- ---- the words from a place on

pub at_space : (s : List ℕ) (at : ℕ) → at < length s → get_or s at 0 ≡ 32 → words_from false at (drop at s) ≡ words_from false (at + 1) (drop (at + 1) s)
unfolding words_from
at_space s at h e = rw (drop_here s at h, eq-eqb (get_or s at 0) 32 e)

-- what follows a word that has begun
after_word : (s : List ℕ) (at : ℕ) → words_from true at s ≡ words_from false (at + length (up_to 32 s)) (drop (length (up_to 32 s)) s)
unfolding words_from
after_word [] at = refl
after_word (c ∷ s) at = by (eqb c 32) refl (after_word s (at + 1))
  where
    by : (b : Bool) → eqb c 32 ≡ b → words_from true (at + 1) s ≡ words_from false (at + 1 + length (up_to 32 s)) (drop (length (up_to 32 s)) s)
        → cond (not b && not true) (spotted at (word_of (up_to 32 (c ∷ s))) ∷ words_from (not b) (at + 1) s) (words_from (not b) (at + 1) s)
        ≡ words_from false (at + length (cond b [] (c ∷ up_to 32 s))) (drop (length (cond b [] (c ∷ up_to 32 s))) (c ∷ s))
    by true e ih = rw (add-zero at, e)
    by false e ih = ih ∙ ap (λ (k : ℕ). words_from false k (drop (length (up_to 32 s)) s)) next
      where
        next : at + 1 + length (up_to 32 s) ≡ at + suc (length (up_to 32 s))
        next = omega arith

first_word : (c : ℕ) (t : List ℕ) (at : ℕ) → (c ≡ 32 → ⊥) → words_from false at (c ∷ t) ≡ spotted at (word_of (up_to 32 (c ∷ t))) ∷ words_from true (at + 1) t
unfolding words_from
first_word c t at e = rw (ne_eqb c 32 e)

pub at_word : (s : List ℕ) (at end : ℕ) → at < length s → (get_or s at 0 ≡ 32 → ⊥) → end ≡ at + length (up_to 32 (drop at s))
    → words_from false at (drop at s) ≡ spotted at (word_of (up_to 32 (drop at s))) ∷ words_from false end (drop end s)
at_word s at end h e p = first ∙ ap (λ ws. spotted at (word_of (up_to 32 (drop at s))) ∷ ws) (more ∙ moves)
  where
    n : ℕ
    n = length (up_to 32 (drop (at + 1) s))

    same : length (up_to 32 (drop at s)) ≡ suc n
    same = rw (drop_here s at h, ne_eqb (get_or s at 0) 32 e)

    first : words_from false at (drop at s) ≡ spotted at (word_of (up_to 32 (drop at s))) ∷ words_from true (at + 1) (drop (at + 1) s)
    first = rw (drop_here s at h) (first_word (get_or s at 0) (drop (at + 1) s) at e)

    more : words_from true (at + 1) (drop (at + 1) s) ≡ words_from false (at + 1 + n) (drop n (drop (at + 1) s))
    more = after_word (drop (at + 1) s) (at + 1)

    moves : words_from false (at + 1 + n) (drop n (drop (at + 1) s)) ≡ words_from false end (drop end s)
    moves = ap₂ words_from_false place (drop-drop n (at + 1) s ∙ ap (λ (k : ℕ). drop k s) place)
      where
        words_from_false : ℕ → List ℕ → List Placed
        words_from_false k t = words_from false k t

        place : at + 1 + n ≡ end
        place = omega (arith, same)

-- ---- a word

-- a word that a line may go on by ends here, by what `until` and `read_word` answer
pub word_end : (s : List ℕ) (at n : ℕ) → n ≡ length (up_to 32 (take (length s - at) (drop at s))) → n ≡ length (up_to 32 (drop at s))
word_end s at n e = rw (take_all (length s - at) (drop at s) (omega (arith, length-drop at s))) at e

pub word_here : (s : List ℕ) (at end : ℕ) → end ≡ at + length (up_to 32 (drop at s)) → take (end - at) (drop at s) ≡ up_to 32 (drop at s)
word_here s at end e =
    let n : end - at ≡ length (up_to 32 (drop at s)) = omega arith in
    ap (λ (n : ℕ). take n (drop at s)) n ∙ take_up_to 32 (drop at s)

module _ (end k : ℕ) (s : Sum) (l : List Item) (ws : List Placed) where
  pub word_unread : (o : Option Word) → o ≡ None → scans end s l (spotted k o ∷ ws) ≡ reading (Err (fault UnknownWord k)) l
  unfolding scans
  word_unread o e = rw e

  pub word_stopped : (w : Word) → move s w ≡ None → scans end s l (known k w ∷ ws) ≡ reading (Err (fault Unfinished k)) (ready_items w s l)
  unfolding scans
  word_stopped w e = rw (scans, e)

  pub word_done : (w : Word) (m : Move) → move s w ≡ Some m → scans end s l (known k w ∷ ws) ≡ scans end (moved (ready w s) m) (stored (ready w s) m (ready_items w s l)) ws
  unfolding scans
  word_done w m e = rw (scans, e)

-- ---- the end of the line

pub at_end : (s : List ℕ) (at : ℕ) → length s ≤ at → words_from false at (drop at s) ≡ []
unfolding words_from
at_end s at h = rw (drop_all s at h)

-- ---- what the loop keeps

pub record Goes (line : List ℕ) (s : Sum) (l : List Item) (at : ℕ) (whole : Reading) : Type 0 where
  pub inside : at ≤ length line
  pub fit : Fits s at
  pub rest : scans (length line) s l (words_from false at (drop at line)) ≡ whole

module _ {line : List ℕ} {l : List Item} {s : Sum} {at : ℕ} {whole : Reading} (g : Goes line s l at whole) (here : at < length line) where
  pub past_space : get_or line at 0 ≡ 32 → Goes line s l (at + 1) whole
  past_space e = record { inside = omega arith; fit = fits_more s at (at + 1) g.fit (omega arith); rest = ap (scans (length line) s l) (sym (at_space line at here e)) ∙ g.rest }

  -- a word starts at the place, of so many bytes, and is read as o
  module _ (e : get_or line at 0 ≡ 32 → ⊥) (n : ℕ) (ends : (n ≡ length (up_to 32 (take (length line - at) (drop at line)))) × (n ≤ length (take (length line - at) (drop at line))))
      (o : Option Word) (is : o ≡ word_of (take (at + n - at) (drop at line))) where
    bytes : n ≡ length (up_to 32 (drop at line))
    bytes = word_end line at n ends.0

    inside : at + n ≤ length line
    inside = omega (arith, ends.1, length-take-le (length line - at) (drop at line), length-drop at line)

    read : o ≡ word_of (up_to 32 (drop at line))
    read = is ∙ ap word_of (word_here line at (at + n) (omega (arith, bytes)))

    split : scans (length line) s l (spotted at o ∷ words_from false (at + n) (drop (at + n) line)) ≡ whole
    split = ap (λ x. scans (length line) s l (spotted at x ∷ words_from false (at + n) (drop (at + n) line))) read
        ∙ (ap (scans (length line) s l) (sym (at_word line at (at + n) here e (omega (arith, bytes)))) ∙ g.rest)

    pub goes_unread : o ≡ None → reading (Err (fault UnknownWord at)) l ≡ whole
    goes_unread h = sym (word_unread (length line) at s l (words_from false (at + n) (drop (at + n) line)) o h) ∙ split

    longer : at + 1 ≤ at + n
    longer = omega (arith, bytes, some_bytes)
      where
        some_bytes : 1 ≤ length (up_to 32 (drop at line))
        some_bytes = rw (drop_here line at here, ne_eqb (get_or line at 0) 32 e) (omega arith)

    pub further : at < at + n
    further = omega (arith, longer)

    module _ (w : Word) (some : o ≡ Some w) where
      known_split : scans (length line) s l (known at w ∷ words_from false (at + n) (drop (at + n) line)) ≡ whole
      known_split = ap (λ x. scans (length line) s l (spotted at x ∷ words_from false (at + n) (drop (at + n) line))) (sym some) ∙ split

      pub goes_stopped : (f : Fault) (j : List Item) → Err f ≡ taken (move s w) at → j ≡ stored_by (move s w) (ready w s) (ready_items w s l)
          → reading (Err f) j ≡ whole
      goes_stopped f j h k = by (move s w) refl h k
        where
          by : (m : Option Move) → move s w ≡ m → Err f ≡ taken m at → j ≡ stored_by m (ready w s) (ready_items w s l) → reading (Err f) j ≡ whole
          by None q h k = (let z : f ≡ fault Unfinished at = cc in ap₂ (λ x y. reading (Err x) y) z k) ∙ (sym (word_stopped (length line) at s l (words_from false (at + n) (drop (at + n) line)) w q) ∙ known_split)
          by (Some m) q h k = cc

      pub goes_done : (u : Unit {0}) (s' : Sum) (j : List Item) → Ok u ≡ taken (move s w) at → s' ≡ moved_by (move s w) (ready w s)
          → j ≡ stored_by (move s w) (ready w s) (ready_items w s l) → Goes line s' j (at + n) whole
      goes_done u s' j h p k = by (move s w) refl h p k
        where
          by : (m : Option Move) → move s w ≡ m → Ok u ≡ taken m at → s' ≡ moved_by m (ready w s) → j ≡ stored_by m (ready w s) (ready_items w s l) → Goes line s' j (at + n) whole
          by None q h p k = cc
          by (Some m) q h p k =
              rw (p, k) (record {
                inside = inside;
                fit = fits_more _ (at + 1) (at + n) (steps_fit w s m at g.fit) longer;
                rest = sym (word_done (length line) at s l (words_from false (at + n) (drop (at + n) line)) w m q) ∙ known_split;
              })

pub goes_end : {line : List ℕ} {l : List Item} {s : Sum} {at : ℕ} {whole : Reading} → Goes line s l at whole → length line ≤ at
    → reading (closed (length line) (rested s)) (rest_items s l) ≡ whole
unfolding scans
goes_end {line} {l} {s} {at} g h = ap (scans (length line) s l) (sym (at_end line at h)) ∙ g.rest
