-- A capture that is read in windows of one buffer.
use Rattle.std.specs.Prelude.{Ok, Err}
use Rattle.std.specs.List.{copy_within}
use Rattle.std.proofs.Math.Nat.{zero-add}
use Rattle.std.proofs.lemmas.List.{take-append-le, drop-append-le, take-append-drop, length-append}
use Rattle.std.proofs.lemmas.List.Edits.{take-paste}
use Prim.Native.Nat.{ℕ, ◌+◌, ◌-◌, ◌≤◌, ◌<◌}
use mathlib.Core.Path.{◌≡◌, refl, sym, ap, ◌∙◌}
use mathlib.Core.List.{List, [], ◌∷◌, ◌++◌}
use mathlib.Core.Bool.{Bool, true, false, cond, true≢false}
use mathlib.Core.Logic.{◌⊎◌, inl, inr}
use native.Mathlib.Omega.{arith}
use borrow.Author.Tests.{ltb-true, ltb-false}
use lib.ListN.{length, take, drop, length-drop}
use lib.Seq.{length-take-le, take-add, take-length}
use lib.Dec.{ltb}
use Rattle.error.specs.declared.Refusal.{Refusal}
use Rattle.error.specs.Answer.{Out}
use Rattle.ast.specs.declared.LinkType.{LinkType}
use Rattle.capture.specs.declared.Order.{Order}
use Rattle.capture.specs.declared.Tally.{Tally}
use Rattle.capture.specs.declared.Stage.{Stage}
use Rattle.capture.specs.declared.Stage.TheVariants.{Header, Within, Turned}
use Rattle.capture.specs.declared.Step.{Step}
use Rattle.capture.specs.Capture.{opened}
use Rattle.capture.specs.Counting.{counted}
use Rattle.capture.specs.Turns.{window, sum, stay, begin, step, Reading, more, reading, unread, finish, finished, concat}
use Rattle.capture.specs.Promises.{Sound}
use Rattle.capture.proofs.Joins.{tally_sound}
use Rattle.capture.proofs.Turning.{step_few, in_turn}
use Rattle.files.specs.declared.windows.Progress.{Progress}
use Rattle.files.specs.Windows.{most, is_turned, held, behind, Used}

-- ---- tallies

none_sound : Sound (record { kept = 0; given = 0; stop = 0 })
none_sound = record { kept = omega arith; given = omega arith }

pub sum_sound : (t u : Tally) → Sound t → Sound u → Sound (sum t u)
sum_sound t u a b = record { kept = omega (arith, a.kept, b.kept); given = omega (arith, a.given, b.given) }

-- the bytes left before, and those that were read, are the window
joined : (p : Progress) (n : ℕ) (b : List ℕ) → p.left ≤ n → take p.left b ++ behind p n b ≡ take n b
joined p n b h = let k : p.left + (n - p.left) ≡ n = omega arith in sym (take-add p.left (n - p.left) b) ∙ ap (λ m. take m b) k

module _ (P : List ℕ) (link : LinkType) where
  window_sound : (o : Order) (w : List ℕ) → Sound (window P o w).tally
  unfolding window
  window_sound o w = tally_sound P o w 0 (omega arith)

  begin_sound : (w : List ℕ) (x : Out Order) → Sound (begin P w x).tally
  begin_sound w (Err r) = none_sound
  begin_sound w (Ok o) =
      let f = window_sound o (drop 24 w) in
      record { kept = omega (arith, f.kept); given = omega (arith, f.given) }

  pub step_sound : (g : Stage) (w : List ℕ) → Sound (step P link g w).tally
  unfolding step
  step_sound Header w = go (ltb (length w) 24)
    where
      go : (b : Bool) → Sound (cond b (stay Header) (begin P w (opened link w))).tally
      go true = none_sound
      go false = begin_sound w (opened link w)
  step_sound (Within o) w = window_sound o w
  step_sound (Turned r) w = none_sound

  -- ---- one window

  module _ (p : Progress) (b : List ℕ) (v : Step) (e : v ≡ step P link p.stage b) where
    pub window_sound_here : Sound v.tally
    window_sound_here = rw e (step_sound p.stage b)

    pub window_within : v.tally.stop ≤ length b
    window_within = rw e (step_few P link p.stage b)

    -- what the window leaves, moved to its start
    window_moved : take (length b - v.tally.stop) (copy_within b v.tally.stop (length b) 0) ≡ drop v.tally.stop b
    window_moved =
        let rest = drop v.tally.stop b in
        let n = length b - v.tally.stop in
        let k : length rest ≡ n = length-drop v.tally.stop b in
        ap (λ m. take m (copy_within b v.tally.stop (length b) 0)) (sym (zero-add n)) ∙ take-paste b 0 rest n (omega arith) (omega (arith, k))
        ∙ ap (λ m. take m rest) (sym k) ∙ take-length rest

    -- where nothing of it is used, it stands there already
    pub window_kept : v.tally.stop ≤ 0 → b ≡ copy_within b v.tally.stop (length b) 0
    window_kept h =
        let z : v.tally.stop ≡ 0 = omega (arith, h) in
        let n = length b - 0 in
        rw z (sym (ap (λ k. take n b ++ drop k b) (zero-add n) ∙ take-append-drop n b))

    pub window_used : p.left ≤ length b → Sound p.tally → (t : Tally) → t ≡ sum p.tally v.tally → (c : List ℕ)
        → c ≡ copy_within b v.tally.stop (length b) 0
        → Used P link p (length b) b (record { stage = v.stage; tally = t; left = length b - v.tally.stop }) c
    window_used l s t f c k =
        let w = window_within in
        record {
          goes_on = rw (joined p (length b) b l, take-length b, ← e, f, k, window_moved);
          sound = rw f (sum_sound p.tally v.tally s window_sound_here);
          all = omega (arith, ap (λ x. x.stop) f);
        }

  -- a window at a buffer's start, with what stands behind it
  widened : (p r : Progress) (w d c : List ℕ) → p.left ≤ length w → length c ≡ length w → Used P link p (length w) w r c
      → Used P link p (length w) (w ++ d) r (c ++ d)
  widened p r w d c l k u =
      let n : r.tally.stop ≡ p.tally.stop + (step P link p.stage (take p.left w ++ behind p (length w) w)).tally.stop = ap (λ x. x.tally.stop) u.goes_on in
      let q = length-drop p.left w in
      record {
        goes_on =
            rw (
              take-append-le r.left c d (omega (arith, u.all, n, k)),
              take-append-le p.left w d l,
              drop-append-le p.left w d l,
              take-append-le (length w - p.left) (drop p.left w) d (omega (arith, q)),
            )
            u.goes_on;
        sound = u.sound;
        all = u.all;
      }

  -- ---- room for a read

  -- a window of as many bytes as the longest frame has with its header: some are used, or reading is turned down
  pub moves_on : (g : Stage) (w : List ℕ) → 65551 ≤ length w → is_turned (step P link g w).stage ≡ false → 1 ≤ (step P link g w).tally.stop
  moves_on g w h e = go ((in_turn P link).moves g w h)
    where
      go : ((1 ≤ (step P link g w).tally.stop) ⊎ ((r : Refusal) × ((step P link g w).stage ≡ Turned r))) → 1 ≤ (step P link g w).tally.stop
      go (inl m) = m
      go (inr t) = absurd (true≢false (sym (ap is_turned t.1) ∙ e))

  -- ---- windows in turn

  reading_more : (r : Reading) (cuts : List (List ℕ)) (bytes : List ℕ) → reading P link r (cuts ++ (bytes ∷ [])) ≡ more P link (reading P link r cuts) bytes
  reading_more r [] bytes = refl
  reading_more r (first ∷ later) bytes = reading_more (more P link r first) later bytes

  -- between two reads into a buffer
  pub record Going (old : List ℕ) (b : List ℕ) (p : Progress) : Type 0 where
    pub cuts : List (List ℕ)
    pub so_far : reading P link unread cuts ≡ held p b
    pub sound : Sound p.tally
    pub long : length b ≡ length old
    pub fits : p.left ≤ length b
    pub few : p.tally.stop + p.left ≤ most + length b
    pub room : is_turned p.stage ≡ false → p.left < length b

  module _ (old b : List ℕ) (p : Progress) (g : Going old b p) where
    -- at the end: the count of what was read
    pub whole : (s : List ℕ) × (finish p.stage p.tally p.left ≡ counted P link s)
    whole = (
      concat g.cuts,
      ap (finish p.stage p.tally) (sym (length-take-le p.left b g.fits)) ∙ ap finished (sym g.so_far) ∙ (in_turn P link).same g.cuts,
    )

    -- a read of some bytes behind those that are left, and the window of both
    module _ (b₁ : List ℕ) (n : ℕ) (r : Progress) (c : List ℕ) (k : take p.left b₁ ≡ take p.left b) (l₁ : length b₁ ≡ length b)
        (h : p.left ≤ n) (m : n ≤ length b₁) (z : 65551 ≤ length b) (q : p.tally.stop ≤ most)
        (l₂ : length c ≡ length (take n b₁)) (used : Used P link p (length (take n b₁)) (take n b₁) r c) where
      abbrev b₂ : List ℕ
      b₂ = c ++ drop n b₁

      n_long : length (take n b₁) ≡ n
      n_long = length-take-le n b₁ m

      u : Used P link p n b₁ r b₂
      u =
          let v : Used P link p (length (take n b₁)) (take n b₁ ++ drop n b₁) r b₂ = widened p r (take n b₁) (drop n b₁) c (omega (arith, n_long)) l₂ used in
          rw (n_long, take-append-drop n b₁) at v

      b₂_long : length b₂ ≡ length b₁
      b₂_long = omega (arith, length-append c (drop n b₁), l₂, n_long, length-drop n b₁)

      abbrev w : List ℕ
      w = take p.left b₁ ++ behind p n b₁

      w_long : length w ≡ n
      w_long = ap length (joined p n b₁ h) ∙ length-take-le n b₁ m

      further : r.tally.stop ≡ p.tally.stop + (step P link p.stage w).tally.stop
      further = ap (λ x. x.tally.stop) u.goes_on

      left_less : is_turned r.stage ≡ false → (t : Bool) → ltb n (length b₁) ≡ t → r.left < length b₂
      left_less e true t = omega (arith, b₂_long, ltb-true n (length b₁) t, further, u.all)
      left_less e false t =
          let l = ltb-false n (length b₁) t in
          omega (arith, b₂_long, moves_on p.stage w (omega (arith, w_long)) (ap (λ x. is_turned x.stage) (sym u.goes_on) ∙ e), further, u.all)

      pub goes : Going old b₂ r
      goes =
          record {
            cuts = g.cuts ++ (behind p n b₁ ∷ []);
            so_far = reading_more unread g.cuts (behind p n b₁) ∙ ap (λ x. more P link x (behind p n b₁)) g.so_far ∙ rw (← k) (sym u.goes_on);
            sound = u.sound;
            long = b₂_long ∙ l₁ ∙ g.long;
            fits = omega (arith, b₂_long, further, u.all);
            few = omega (arith, b₂_long, l₁, u.all);
            room = λ e. left_less e (ltb n (length b₁)) refl;
          }
