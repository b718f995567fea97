-- A file read in windows, cut anywhere, is the file read at once.
use Rattle.capture.specs.Counting.{halt}
use Rattle.std.specs.Prelude.{Ok, Err}
use Prim.Native.Nat.{ℕ, ◌+◌, ◌-◌, ◌≤◌, ◌<◌}
use mathlib.Core.Path.{◌≡◌, refl, sym, ap, ◌∙◌}
use mathlib.Core.List.{List, [], ◌∷◌, ◌++◌, append_assoc, append-nil}
use mathlib.Core.Bool.{Bool, true, false, cond}
use mathlib.Core.Logic.{◌⊎◌, inl, inr}
use native.Mathlib.Omega.{arith}
use borrow.Author.Tests.{ltb-true, ltb-false, lt-ltb, le-ltb, eq-eqb, ne_eqb}
use lib.ListN.{length, drop, length-append, length-drop}
use lib.Seq.{drop-drop, drop-append-le}
use lib.Dec.{ltb}
use native.Mathlib.Nat.{zero-add}
use Rattle.error.specs.declared.Refusal.{Refusal}
use Rattle.error.specs.declared.Refusal.TheVariants.{NoCapture, CutFrame}
use Rattle.error.specs.Answer.{Out}
use Rattle.ast.specs.declared.LinkType.{LinkType}
use Rattle.capture.specs.declared.Order.{Order}
use Rattle.capture.specs.declared.Front.{Front}
use Rattle.capture.specs.declared.Front.TheVariants.{Whole, Past, Over}
use Rattle.capture.specs.declared.Tally.{Tally}
use Rattle.capture.specs.declared.Stage.{Stage}
use Rattle.capture.specs.declared.Stage.TheVariants.{Header, Within, Turned}
use Rattle.capture.specs.declared.Step.{Step}
use Rattle.capture.specs.Capture.{order_of, opened, front, frames, frames_of}
use Rattle.capture.specs.Counting.{passing, tally_of, none, ended, over, counted}
use Rattle.capture.specs.Turns.{awaits, window, sum, onto, file_header, stay, begin, step, Reading, more, reading, unread, finish, finished, concat, InTurn}
use Rattle.capture.proofs.Numbers.{number_prefix}
use Rattle.capture.proofs.Coded.{opened_alike}
use Rattle.capture.proofs.Laws.{over_number, over_prefix, past_few, frames_stop, frames_whole}
use Rattle.capture.proofs.Whole.{gives}
use Rattle.capture.proofs.Joins.{window_few, tally_from, left, joined_rest, joined_tally, frames_append}

-- ---- the header of a file that goes on

opened_prefix : (s on : List ℕ) → 24 ≤ length s → (link : LinkType) → opened link (s ++ on) ≡ opened link s
opened_prefix s on h link =
    opened_alike s (s ++ on) h (omega (arith, length-append s on)) (λ o. number_prefix o 0 s on (omega arith)) link (λ o. number_prefix o 20 s on (omega arith))

-- ---- sums

sum_assoc : (t u v : Tally) → sum (sum t u) v ≡ sum t (sum u v)
sum_assoc t u v =
    let k : t.kept + u.kept + v.kept ≡ t.kept + (u.kept + v.kept) = omega arith in
    let g : t.given + u.given + v.given ≡ t.given + (u.given + v.given) = omega arith in
    let s : t.stop + u.stop + v.stop ≡ t.stop + (u.stop + v.stop) = omega arith in
    λ i. record { kept = k i; given = g i; stop = s i }

sum_none : (t : Tally) → sum none t ≡ t
sum_none t = rw (zero-add t.kept, zero-add t.given, zero-add t.stop)

onto_none : (v : Step) → onto none v ≡ v
onto_none v = λ i. record { stage = v.stage; tally = sum_none v.tally i }

module _ (P : List ℕ) (link : LinkType) where
  -- ---- one window

  -- where a frame over 65,535 bytes stands nothing is used, whatever follows
  window_over : (o : Order) (w : List ℕ) → front o w ≡ Over → window P o w ≡ stay (Turned CutFrame)
  unfolding window passing
  window_over o w e = rw (frames_stop o 0 w (rw e tt), e)

  -- after a window's frames, the next window is read in the stage that it left
  awaited : (o : Order) (w on : List ℕ) (f : Front) → front o w ≡ f → step P link (awaits o f) (w ++ on) ≡ window P o (w ++ on)
  unfolding step
  awaited o w on (Whole n) e = refl
  awaited o w on Past e = refl
  awaited o w on Over e = sym (window_over o (w ++ on) (over_prefix o w on e))

  window_append : (o : Order) (w on : List ℕ) → window P o (w ++ on) ≡ onto (window P o w).tally (window P o (left o w on))
  unfolding window
  window_append o w on =
      let s : awaits o (front o (drop (frames o 0 (w ++ on)).stop (w ++ on))) ≡ awaits o (front o (drop (frames o 0 (left o w on)).stop (left o w on))) =
      ap (λ r. awaits o (front o r)) (joined_rest o w on) in
      λ i. record { stage = s i; tally = joined_tally o w on P i }

  -- ---- two windows in turn are one

  -- what a window leaves, and the bytes that follow
  abbrev rest : Stage → List ℕ → List ℕ → List ℕ
  rest g w on = drop (step P link g w).tally.stop w ++ on

  abbrev Appends : Stage → List ℕ → List ℕ → Type 0
  Appends g w on = step P link g (w ++ on) ≡ onto (step P link g w).tally (step P link (step P link g w).stage (rest g w on))

  step_within : (o : Order) (w on : List ℕ) → Appends (Within o) w on
  unfolding step window
  step_within o w on =
      let r = drop (frames o 0 w).stop w in
      window_append o w on ∙ ap (onto (window P o w).tally) (sym (awaited o r on (front o r) refl))

  module _ (w on : List ℕ) where
    step_short : length w < 24 → Appends Header w on
    unfolding step
    step_short h = rw (lt-ltb (length w) 24 h, onto_none (step P link Header (w ++ on)))

    -- a file header is in the first of two windows
    module _ (h : 24 ≤ length w) where
      long : 24 ≤ length (w ++ on)
      long = omega (arith, length-append w on)

      step_refused : (r : Refusal) → opened link w ≡ Err r → Appends Header w on
      unfolding step
      step_refused r e = rw (le-ltb (length w) 24 h, le-ltb (length (w ++ on)) 24 long, opened_prefix w on h link, e)

      step_opened : (o : Order) → opened link w ≡ Ok o → Appends Header w on
      unfolding step
      step_opened o e =
          let v = window P o (drop 24 w) in
          let d : drop (24 + v.tally.stop) w ≡ drop v.tally.stop (drop 24 w) = sym (drop-drop v.tally.stop 24 w) in
          rw (le-ltb (length w) 24 h, le-ltb (length (w ++ on)) 24 long, opened_prefix w on h link, e, drop-append-le 24 w on h, d)
          (ap (onto file_header) (step_within o (drop 24 w) on) ∙ rw (sum_assoc file_header v.tally (step P link v.stage (drop v.tally.stop (drop 24 w) ++ on)).tally))

      by_opened : (x : Out Order) → opened link w ≡ x → Appends Header w on
      by_opened (Err r) e = step_refused r e
      by_opened (Ok o) e = step_opened o e

    by_length : (t : Bool) → ltb (length w) 24 ≡ t → Appends Header w on
    by_length true e = step_short (ltb-true (length w) 24 e)
    by_length false e = by_opened (ltb-false (length w) 24 e) (opened link w) refl

    step_turned : (r : Refusal) → Appends (Turned r) w on
    unfolding step
    step_turned r = refl

    step_append : (g : Stage) → Appends g w on
    step_append Header = by_length (ltb (length w) 24) refl
    step_append (Within o) = step_within o w on
    step_append (Turned r) = step_turned r

  -- ---- no window reads beyond its bytes

  pub step_few : (g : Stage) (w : List ℕ) → (step P link g w).tally.stop ≤ length w
  unfolding step
  step_few Header w = go (ltb (length w) 24) refl (opened link w) refl
    where
      go : (t : Bool) → ltb (length w) 24 ≡ t → (x : Out Order) → opened link w ≡ x → (cond t (stay Header) (begin P w x)).tally.stop ≤ length w
      go true e x p = omega arith
      go false e (Err r) p = omega arith
      go false e (Ok o) p = omega (arith, ltb-false (length w) 24 e, window_few P o (drop 24 w), length-drop 24 w)
  step_few (Within o) w = window_few P o w
  step_few (Turned r) w = omega arith

  -- ---- windows in turn

  more_more : (r : Reading) (a b : List ℕ) → more P link (more P link r a) b ≡ more P link r (a ++ b)
  more_more r a b =
      let w = r.rest ++ a in
      let t = step P link r.stage w in
      let u = step P link t.stage (drop t.tally.stop w ++ b) in
      let d : drop (t.tally.stop + u.tally.stop) (w ++ b) ≡ drop u.tally.stop (drop t.tally.stop w ++ b) =
      sym (drop-drop u.tally.stop t.tally.stop (w ++ b)) ∙ ap (drop u.tally.stop) (drop-append-le t.tally.stop w b (step_few r.stage w)) in
      rw (← append_assoc r.rest a b, step_append w b r.stage, d, sum_assoc r.tally t.tally u.tally)

  reading_on : (r : Reading) (a : List ℕ) (later : List (List ℕ)) → reading P link (more P link r a) later ≡ more P link r (a ++ concat later)
  reading_on r a [] = rw (append-nil a)
  reading_on r a (b ∷ later) = reading_on (more P link r a) b later ∙ more_more r a (b ++ concat later)

  more_none : more P link unread [] ≡ unread
  unfolding step
  more_none = refl

  -- however a file is cut, its windows in turn leave what the file as one window leaves
  turns : (cuts : List (List ℕ)) → reading P link unread cuts ≡ more P link unread (concat cuts)
  turns cuts = ap (λ r. reading P link r cuts) (sym more_none) ∙ reading_on unread [] cuts

  -- ---- one window of all of it

  module _ (s : List ℕ) where
    -- at the end of the file
    abbrev at_end : Step → ℕ
    at_end v = length s - v.tally.stop

    pub no_header : length s < 24 → opened link s ≡ Err NoCapture
    unfolding opened order_of
    no_header h = rw (lt-ltb (length s) 24 h)

    module _ (h : 24 ≤ length s) (o : Order) where
      abbrev t : Tally
      t = tally_of P s (frames_of o s)

      tally_is : sum file_header (window P o (drop 24 s)).tally ≡ t
      unfolding window
      tally_is = sym (tally_from P o 24 s)

      stop_is : (frames_of o s).stop ≡ 24 + (frames o 0 (drop 24 s)).stop
      stop_is = ap (λ x. x.stop) (tally_from P o 24 s)

      rest_is : drop (frames o 0 (drop 24 s)).stop (drop 24 s) ≡ drop (frames_of o s).stop s
      rest_is = drop-drop (frames o 0 (drop 24 s)).stop 24 s ∙ ap (λ d. drop d s) (sym stop_is)

      -- 14 exactly where reading stops before the end
      by_front : (f : Front) → front o (drop (frames_of o s).stop s) ≡ f → (b : Bool) → ltb (frames_of o s).stop (length s) ≡ b
          → finish (awaits o f) t (length s - (frames_of o s).stop) ≡ cond b (Err (halt CutFrame t)) (Ok t)
      by_front Over e b p =
          let n = over_number o (drop (frames_of o s).stop s) e in
          rw (sym p ∙ lt-ltb (frames_of o s).stop (length s) (omega (arith, n.0, length-drop (frames_of o s).stop s)))
      by_front Past e true p = rw (ne_eqb (length s - (frames_of o s).stop) 0 (λ z. omega (arith, ltb-true (frames_of o s).stop (length s) p)))
      by_front Past e false p = rw (eq-eqb (length s - (frames_of o s).stop) 0 (omega (arith, ltb-false (frames_of o s).stop (length s) p)))
      by_front (Whole n) e b p = absurd (rw e at (gives o s 24 h).none)

      finish_opened : opened link s ≡ Ok o
          → finish (step P link Header s).stage (step P link Header s).tally (at_end (step P link Header s)) ≡ ended P s (frames_of o s)
      unfolding step window
      finish_opened e =
          rw (le-ltb (length s) 24 h, e, tally_is, ← stop_is, rest_is)
          (by_front (front o (drop (frames_of o s).stop s)) refl (ltb (frames_of o s).stop (length s)) refl)

    by_header : 24 ≤ length s → (x : Out Order) → opened link s ≡ x
        → finish (step P link Header s).stage (step P link Header s).tally (at_end (step P link Header s)) ≡ over P s x
    unfolding step
    by_header h (Err r) e = rw (le-ltb (length s) 24 h, e)
    by_header h (Ok o) e = finish_opened h o e

    by_size : (b : Bool) → ltb (length s) 24 ≡ b
        → finish (step P link Header s).stage (step P link Header s).tally (at_end (step P link Header s)) ≡ counted P link s
    unfolding step counted
    by_size true p = rw (p, no_header (ltb-true (length s) 24 p))
    by_size false p = by_header (ltb-false (length s) 24 p) (opened link s) refl

    pub one_window : finish (step P link Header s).stage (step P link Header s).tally (at_end (step P link Header s)) ≡ counted P link s
    one_window = by_size (ltb (length s) 24) refl

    finish_one : finished (more P link unread s) ≡ counted P link s
    finish_one = rw (sum_none (step P link Header s).tally, length-drop (step P link Header s).tally.stop s) one_window

  -- ---- room for every frame

  abbrev Moves : Step → Type 0
  Moves v = (1 ≤ v.tally.stop) ⊎ ((r : Refusal) × (v.stage ≡ Turned r))

  moves : (g : Stage) (w : List ℕ) → 65551 ≤ length w → Moves (step P link g w)
  unfolding step window
  moves Header w h = rw (le-ltb (length w) 24 (omega arith)) (go (opened link w))
    where
      go : (x : Out Order) → Moves (begin P w x)
      go (Err r) = inr (r, refl)
      go (Ok o) = inl (omega arith)
  moves (Within o) w h = go (front o w) refl
    where
      go : (f : Front) → front o w ≡ f → Moves (window P o w)
      go (Whole n) p = inl (rw (frames_whole o 0 n w p) (omega (arith, (frames_append o [] (16 + n) (drop (16 + n) w)).later)))
      go Past p = absurd (omega (arith, past_few o w p))
      go Over p = inr (CutFrame, ap (λ v. v.stage) (window_over o w p))
  moves (Turned r) w h = inr (r, refl)

  pub in_turn : InTurn P link
  in_turn = record { same = λ cuts. ap finished (turns cuts) ∙ finish_one (concat cuts); within = step_few; moves = moves }
