-- What it means that a block decides a question about a frame, and the laws by which blocks are put together.
use Prim.Native.Nat.{ℕ, zero, suc, ◌+◌, ◌*◌, ◌%◌}
use mathlib.Core.Path.{◌≡◌, refl, ap}
use mathlib.Core.List.{List, [], ◌∷◌, ◌++◌}
use mathlib.Core.Bool.{Bool, true, false, cond, not, ◌&&◌, ◌||◌, and-true}
use lib.ListN.{length}
use lib.Bits.{bit_and}
use Rattle.bpf.specs.Bytes.{be}
use Rattle.codegen.specs.declared.Width.{Width}
use Rattle.codegen.specs.declared.Op.TheVariants.{LdAbs, LdhInd, LdxMsh, LdxImm, AndK}
use Rattle.codegen.specs.declared.Test.{Test}
use Rattle.codegen.specs.declared.Side.TheVariants.{Success, Failure}
use Rattle.codegen.specs.declared.Exit.{Exit}
use Rattle.codegen.specs.declared.Exit.TheVariants.{Skip, Leave}
use Rattle.codegen.specs.declared.Slot.TheVariants.{Jt, Jf}
use Rattle.codegen.specs.declared.Line.{Line}
use Rattle.codegen.specs.declared.Line.TheVariants.{Plain, Branch, Jump}
use Rattle.codegen.specs.Block.{bytes}
use Rattle.codegen.specs.Block.{Block, settle, turn, otherwise, writes_x, sets_x}
use Rattle.codegen.proofs.Semantics.{Ending, fell, left, cut, to, loaded, inside, compare, taken, indexed, line, pursue, run, and_then, redirect, turned, run_append, run_past, run_over, run_settle, run_turn}

-- what is known of A and X
abbrev pub Known : Type 1
Known = ℕ → ℕ → Type 0

-- A is v, and something is known of X
abbrev pub With : ℕ → (ℕ → Type 0) → Known
With v G a x = (a ≡ v) × G x

-- something is known of X only
abbrev pub OfX : (ℕ → Type 0) → Known
OfX G a x = G x

-- Whether an ending answers P rightly: it falls off the end, or leaves by success (only where S allows), if P holds, and then D is known.
-- It leaves by failure if P does not hold. A load may leave the frame
abbrev pub Right : Type 0 → Bool → Known → Ending → Type 0
Right S P D (fell zero c a x) = (P ≡ true) × D a x
Right S P D (fell (suc n) c a x) = ⊥
Right S P D (left Success c a x) = S × (P ≡ true) × D a x
Right S P D (left Failure c a x) = P ≡ false
Right S P D (cut c) = Unit {0}

abbrev pub Never : Type 0
Never = ⊥

abbrev pub Maybe : Type 0
Maybe = Unit {0}

-- from what G says, the block b decides P of the frame f, and then D is known
pub record Decides (f : List ℕ) (S : Type 0) (G : Known) (b : Block) (P : Bool) (D : Known) : Type 0 where
  pub right : (c a x : ℕ) → G a x → Right S P D (run f b 0 c a x)

settle_right : (S : Type 0) (D : Known) (P : Bool) (o : Ending) → Right S P D o → Right Never P D (redirect Success 0 o)
settle_right S D P (fell (suc n) c a x) r = r
settle_right S D P (left Success c a x) r = (r.1, r.2)
settle_right S D P o r = r

-- what is known where a block left by failure
abbrev pub AtFailure : Known → Ending → Type 0
AtFailure N (left Failure c a x) = N a x
AtFailure N o = Unit {0}

jump : Block
jump = Jump (Leave Success) ∷ []

adapt_right : (S S' : Type 0) (D D' : Known) (P : Bool) → (S → S') → ((a x : ℕ) → P ≡ true → D a x → D' a x) → (o : Ending) → Right S P D o → Right S' P D' o
adapt_right S S' D D' P s w (fell zero c a x) r = (r.0, w a x r.0 r.1)
adapt_right S S' D D' P s w (left Success c a x) r = (s r.0, r.1, w a x r.1 r.2)
adapt_right S S' D D' P s w o r = r

also_right : (S : Type 0) (D : Known) (P Q : Bool) → ((a x : ℕ) → D a x → Q ≡ true) → (o : Ending) → Right S P D o → Right S (P && Q) D o
also_right S D P Q h (fell zero c a x) r = (rw r.0 (h a x r.1), r.1)
also_right S D P Q h (fell (suc m) c a x) r = r
also_right S D P Q h (left Success c a x) r = (r.0, rw r.1 (h a x r.2), r.2)
also_right S D P Q h (left Failure c a x) r = rw r
also_right S D P Q h (cut c) r = tt

abbrev pub SameX : Bool → ℕ → Ending → Type 0
SameX w x (fell n c a y) = w ≡ false → y ≡ x
SameX w x (left e c a y) = w ≡ false → y ≡ x
SameX w x (cut c) = Unit {0}

module _ (f : List ℕ) where
  then_right : (S : Type 0) (D E : Known) (P Q : Bool) (k : Block) → Decides f S D k Q E → (o : Ending) → Right Never P D o
      → Right S (P && Q) E (and_then o (run f k))
  then_right S D E P Q k h (fell zero c a x) r = rw r.0 (h.right c a x r.1)
  then_right S D E P Q k h (fell (suc n) c a x) r = absurd r
  then_right S D E P Q k h (left Success c a x) r = absurd r.0
  then_right S D E P Q k h (left Failure c a x) r = rw r
  then_right S D E P Q k h (cut c) r = tt

  else_right : (S : Type 0) (D N E : Known) (P Q : Bool) (k : Block) → ((a x : ℕ) → D a x → E a x) → Decides f Maybe N k Q E → (o : Ending)
      → Right S P D o → AtFailure N o → Right Maybe (P || Q) E (and_then (redirect Failure 0 (and_then o (run f jump))) (run f k))
  unfolding jump run
  else_right S D N E P Q k w h (fell zero c a x) r n = rw r.0 (tt, refl, w a x r.1)
  else_right S D N E P Q k w h (fell (suc m) c a x) r n = absurd r
  else_right S D N E P Q k w h (left Success c a x) r n = rw r.1 (tt, refl, w a x r.2)
  else_right S D N E P Q k w h (left Failure c a x) r n = rw r (h.right c a x n)
  else_right S D N E P Q k w h (cut c) r n = tt

  not_right : (S : Type 0) (D N : Known) (P : Bool) (o : Ending)
      → Right S P D o → AtFailure N o → Right Never (not P) N (turned (redirect Failure 0 (and_then o (run f jump))))
  unfolding jump run
  not_right S D N P (fell zero c a x) r n = rw r.0
  not_right S D N P (fell (suc m) c a x) r n = absurd r
  not_right S D N P (left Success c a x) r n = rw r.1
  not_right S D N P (left Failure c a x) r n = rw r (refl, n)
  not_right S D N P (cut c) r n = tt

  load_right : (S : Type 0) (D : Known) (P i : Bool) (b : Block) (v x c : ℕ) → Right S P D (run f b 0 c v x)
      → Right S P D (pursue (loaded i (to (Skip 0) v x)) (run f b) c)
  load_right S D P true b v x c h = h
  load_right S D P false b v x c h = tt

  need_right : (S : Type 0) (D : Known) (P Q : Bool) (b : Block) (a x c : ℕ) → Right S Q D (run f b 0 c a x)
      → Right S (P && Q) D (pursue (to (cond (not P) (Leave Failure) (Skip 0)) a x) (run f b) c)
  need_right S D true Q b a x c h = h
  need_right S D false Q b a x c h = refl

  bar_right : (S : Type 0) (D : Known) (P Q : Bool) (b : Block) (a x c : ℕ) → Right S Q D (run f b 0 c a x)
      → Right S (not P && Q) D (pursue (to (cond P (Leave Failure) (Skip 0)) a x) (run f b) c)
  bar_right S D true Q b a x c h = refl
  bar_right S D false Q b a x c h = h

  win_right : (D : Known) (P Q : Bool) (b : Block) (a x c : ℕ) → D a x → Right Maybe Q D (run f b 0 c a x)
      → Right Maybe (P || Q) D (pursue (to (cond P (Leave Success) (Skip 0)) a x) (run f b) c)
  win_right D true Q b a x c d h = (tt, refl, d)
  win_right D false Q b a x c d h = h

module _ (f : List ℕ) where
  over_right : (S : Type 0) (D : Known) (P Q : Bool) (b : Block) (a x c : ℕ) → D a x → Right S Q D (run f b 0 c a x)
      → Right S (P || Q) D (pursue (to (cond P (Skip (length b)) (Skip 0)) a x) (run f b) c)
  over_right S D true Q b a x c d h = rw (run_over f b c a x) (refl, d)
  over_right S D false Q b a x c d h = h

  join_right : (D : Known) (P : Bool) (k : Block) (o : Ending) → Right Never P D o
      → Right Never P D (and_then o (run f (Jump (Skip (length k)) ∷ k)))
  unfolding run
  join_right D P k (fell zero c a x) r = rw (run_over f k (suc c) a x) r
  join_right D P k (fell (suc m) c a x) r = absurd r
  join_right D P k (left Success c a x) r = absurd r.0
  join_right D P k (left Failure c a x) r = r
  join_right D P k (cut c) r = tt

  fork_right : (D : Known) (T P Q : Bool) (b k : Block) (a x c : ℕ) → (T ≡ false → Right Never P D (run f b 0 c a x)) → (T ≡ true → Right Never Q D (run f k 0 c a x))
      → Right Never (cond T Q P) D (pursue (to (cond T (Skip (length b + 1)) (Skip 0)) a x) (run f (b ++ (Jump (Skip (length k)) ∷ k))) c)
  unfolding run
  fork_right D true P Q b k a x c h j = rw (run_append f b (Jump (Skip (length k)) ∷ k) (length b + 1) c a x, run_past f b 1 c a x) (j refl)
  fork_right D false P Q b k a x c h j = rw (run_append f b (Jump (Skip (length k)) ∷ k) 0 c a x) (join_right D P k (run f b 0 c a x) (h refl))

module _ {f : List ℕ} where
  -- ---- P and then Q

  pub seq : {S : Type 0} {G D E : Known} {b k : Block} {P Q : Bool} → Decides f Never G b P D → Decides f S D k Q E
      → Decides f S G (b ++ k) (P && Q) E
  seq {S} {G} {D} {E} {b} {k} {P} {Q} h j =
      record { right = λ c a x g. rw (run_append f b k) (then_right f S D E P Q k j (run f b 0 c a x) (h.right c a x g)) }

  -- ---- a settled success

  pub settled : {S : Type 0} {G D : Known} {b : Block} {P : Bool} → Decides f S G b P D → Decides f Never G (settle Success 0 b) P D
  settled {S} {G} {D} {b} {P} h = record { right = λ c a x g. rw (run_settle f Success 0 b) (settle_right S D P (run f b 0 c a x) (h.right c a x g)) }

  -- ---- otherwise: P or else Q, which starts from what is known where P failed

  pub else : {S : Type 0} {G D N E : Known} {b k : Block} {P Q : Bool} → Decides f S G b P D → ((c a x : ℕ) → G a x → AtFailure N (run f b 0 c a x))
      → ((a x : ℕ) → D a x → E a x) → Decides f Maybe N k Q E → Decides f Maybe G (otherwise b ++ k) (P || Q) E
  unfolding otherwise jump
  else {S} {G} {D} {N} {E} {b} {k} {P} {Q} h n w j =
      record {
        right = λ c a x g.
            rw (run_append f (otherwise b) k, run_settle f Failure 0 (b ++ jump), run_append f b jump)
            (else_right f S D N E P Q k w j (run f b 0 c a x) (h.right c a x g) (n c a x g));
      }

  -- ---- not P

  pub negated : {S : Type 0} {G D N : Known} {b : Block} {P : Bool} → Decides f S G b P D → ((c a x : ℕ) → G a x → AtFailure N (run f b 0 c a x))
      → Decides f Never G (turn (otherwise b)) (not P) N
  unfolding otherwise jump
  negated {S} {G} {D} {N} {b} {P} h n =
      record {
        right = λ c a x g.
            rw (run_turn f (otherwise b), run_settle f Failure 0 (b ++ jump), run_append f b jump)
            (not_right f S D N P (run f b 0 c a x) (h.right c a x g) (n c a x g));
      }

  -- ---- other forms of one decision

  pub equal : {S : Type 0} {G D : Known} {b : Block} {P Q : Bool} → P ≡ Q → Decides f S G b P D → Decides f S G b Q D
  equal e h = rw e at h

  pub adapt : {S S' : Type 0} {G G' D D' : Known} {b : Block} {P : Bool} → (S → S') → ((a x : ℕ) → G' a x → G a x)
      → ((a x : ℕ) → P ≡ true → D a x → D' a x) → Decides f S G b P D → Decides f S' G' b P D'
  adapt {S} {S'} {G} {G'} {D} {D'} {b} {P} s v w h =
      record { right = λ c a x g. adapt_right S S' D D' P s w (run f b 0 c a x) (h.right c a x (v a x g)) }

  pub allow : {S : Type 0} {G D : Known} {b : Block} {P : Bool} → Decides f S G b P D → Decides f Maybe G b P D
  allow h = adapt (λ n. tt) (λ a x g. g) (λ a x e g. g) h

  -- more is known before
  pub given : {S : Type 0} {G G' D : Known} {b : Block} {P : Bool} → ((a x : ℕ) → G' a x → G a x) → Decides f S G b P D → Decides f S G' b P D
  given v h = adapt (λ n. n) v (λ a x e g. g) h

  -- P shows more
  pub learning : {S : Type 0} {G D D' : Known} {b : Block} {P : Bool} → ((a x : ℕ) → P ≡ true → D a x → D' a x) → Decides f S G b P D → Decides f S G b P D'
  learning w h = adapt (λ n. n) (λ a x g. g) w h

  -- what is known after a block shows Q too
  pub also : {S : Type 0} {G D : Known} {b : Block} {P : Bool} (Q : Bool) → ((a x : ℕ) → D a x → Q ≡ true) → Decides f S G b P D → Decides f S G b (P && Q) D
  also {S} {G} {D} {b} {P} Q w h = record { right = λ c a x g. also_right S D P Q w (run f b 0 c a x) (h.right c a x g) }

  -- what G shows to be true needs no code
  pub known : {S : Type 0} {G D : Known} {P : Bool} → ((a x : ℕ) → G a x → (P ≡ true) × D a x) → Decides f S G [] P D
  unfolding run
  known h = record { right = λ c a x g. h a x g }

  -- ---- loads, then a block

  pub load : {S : Type 0} {G : ℕ → Type 0} {D : Known} {b : Block} {P : Bool} (w : Width) (k : ℕ)
      → Decides f S (With (be (bytes w) k f) G) b P D → Decides f S (OfX G) (Plain (LdAbs w k) ∷ b) P D
  unfolding run
  load {S} {G} {D} {b} {P} w k h =
      record { right = λ c a x g. load_right f S D P (inside (bytes w) k f) b (be (bytes w) k f) x (suc c) (h.right (suc c) (be (bytes w) k f) x (refl, g)) }

  pub load_indexed : {S : Type 0} {G : ℕ → Type 0} {D : Known} {b : Block} {P : Bool} (k y : ℕ) → ((x : ℕ) → G x → indexed x k ≡ y)
      → Decides f S (With (be 2 y f) G) b P D → Decides f S (OfX G) (Plain (LdhInd k) ∷ b) P D
  unfolding run
  load_indexed {S} {G} {D} {b} {P} k y e h =
      record {
        right = λ c a x g.
            rw (e x g) (load_right f S D P (inside 2 y f) b (be 2 y f) x (suc c) (h.right (suc c) (be 2 y f) x (refl, g)));
      }

  pub masked : {S : Type 0} {G : ℕ → Type 0} {D : Known} {b : Block} {P : Bool} {v : ℕ} (m : ℕ)
      → Decides f S (With (bit_and v m) G) b P D → Decides f S (With v G) (Plain (AndK m) ∷ b) P D
  unfolding run
  masked m h = record { right = λ c a x g. h.right (suc c) (bit_and a m) x (ap (λ y. bit_and y m) g.0, g.1) }

  -- X from a byte, and from a number
  pub load_x : {S : Type 0} {G H : ℕ → Type 0} {D : Known} {b : Block} {P : Bool} (k : ℕ) → ((x : ℕ) → G x → H (4 * (be 1 k f % 16)))
      → Decides f S (OfX H) b P D → Decides f S (OfX G) (Plain (LdxMsh k) ∷ b) P D
  unfolding run
  load_x {S} {G} {H} {D} {b} {P} k e h =
      record {
        right = λ c a x g.
            load_right f S D P (inside 1 k f) b a (4 * (be 1 k f % 16)) (suc c) (h.right (suc c) a (4 * (be 1 k f % 16)) (e x g));
      }

  pub set_x : {S : Type 0} {G H : ℕ → Type 0} {D : Known} {b : Block} {P : Bool} (k : ℕ) → ((x : ℕ) → G x → H k)
      → Decides f S (OfX H) b P D → Decides f S (OfX G) (Plain (LdxImm k) ∷ b) P D
  unfolding run
  set_x k e h = record { right = λ c a x g. h.right (suc c) a k (e x g) }

  -- ---- tests of A, then a block

  pub needed : {S : Type 0} {G : ℕ → Type 0} {D : Known} {b : Block} {Q : Bool} {v : ℕ} (t : Test) (k : ℕ)
      → Decides f S (With v G) b Q D → Decides f S (With v G) (Branch t k Jf (Leave Failure) ∷ b) (compare t v k && Q) D
  unfolding run
  needed {S} {G} {D} {b} {Q} {v} t k h =
      record { right = λ c a x g. rw (← g.0) (need_right f S D (compare t a k) Q b a x (suc c) (h.right (suc c) a x g)) }

  pub barred : {S : Type 0} {G : ℕ → Type 0} {D : Known} {b : Block} {Q : Bool} {v : ℕ} (t : Test) (k : ℕ)
      → Decides f S (With v G) b Q D → Decides f S (With v G) (Branch t k Jt (Leave Failure) ∷ b) (not (compare t v k) && Q) D
  unfolding run
  barred {S} {G} {D} {b} {Q} {v} t k h =
      record { right = λ c a x g. rw (← g.0) (bar_right f S D (compare t a k) Q b a x (suc c) (h.right (suc c) a x g)) }

  pub winning : {G : ℕ → Type 0} {b : Block} {Q : Bool} {v : ℕ} (t : Test) (k : ℕ)
      → Decides f Maybe (With v G) b Q (OfX G) → Decides f Maybe (With v G) (Branch t k Jt (Leave Success) ∷ b) (compare t v k || Q) (OfX G)
  unfolding run
  winning {G} {b} {Q} {v} t k h =
      record { right = λ c a x g. rw (← g.0) (win_right f (OfX G) (compare t a k) Q b a x (suc c) g.1 (h.right (suc c) a x g)) }

  -- a test that jumps over a block
  pub over : {S : Type 0} {G : ℕ → Type 0} {b : Block} {Q : Bool} {v : ℕ} (t : Test) (k : ℕ)
      → Decides f S (With v G) b Q (OfX G) → Decides f S (With v G) (Branch t k Jt (Skip (length b)) ∷ b) (compare t v k || Q) (OfX G)
  unfolding run
  over {S} {G} {b} {Q} {v} t k h =
      record { right = λ c a x g. rw (← g.0) (over_right f S (OfX G) (compare t a k) Q b a x (suc c) g.1 (h.right (suc c) a x g)) }

  -- a test that picks one of two blocks
  pub forked : {b k : Block} {P Q : Bool} {D : Known} {v : ℕ} {H : ℕ → Type 0} (t : Test) (n : ℕ)
      → (compare t v n ≡ false → Decides f Never (With v H) b P D) → (compare t v n ≡ true → Decides f Never (With v H) k Q D)
      → Decides f Never (With v H) (Branch t n Jt (Skip (length b + 1)) ∷ (b ++ (Jump (Skip (length k)) ∷ k))) (cond (compare t v n) Q P) D
  unfolding run
  forked {b} {k} {P} {Q} {D} {v} {H} t n h j =
      record { right = λ c a x g. rw (← g.0) (fork_right f D (compare t a n) P Q b k a x (suc c) (λ e. (h (rw g.0 at e)).right (suc c) a x g) (λ e. (j (rw g.0 at e)).right (suc c) a x g)) }

  -- what G shows may be assumed
  pub supposing : {S : Type 0} {E : Type 0} {G D : Known} {b : Block} {P : Bool} → ((a x : ℕ) → G a x → E) → (E → Decides f S G b P D) → Decides f S G b P D
  supposing s h = record { right = λ c a x g. (h (s a x g)).right c a x g }

  -- a test at the end
  pub lastly : {S : Type 0} {G : ℕ → Type 0} {v : ℕ} (t : Test) (k : ℕ)
      → Decides f S (With v G) (Branch t k Jf (Leave Failure) ∷ []) (compare t v k) (OfX G)
  lastly t k = equal (and-true _) (needed t k (known (λ a x g. (refl, g.1))))

-- ---- X where a block left by failure

same_any : (x : ℕ) (o : Ending) → SameX true x o
same_any x (cut c) = tt
same_any x o = λ e. cc

same_more : (u w : Bool) (x : ℕ) (o : Ending) → SameX w x o → SameX (u || w) x o
same_more true w x o h = same_any x o
same_more false w x o h = h

same_exit : (w : Bool) (x : ℕ) (p : Exit) (a c : ℕ) (r : ℕ → ℕ → ℕ → ℕ → Ending) → ((n c a : ℕ) → SameX w x (r n c a x)) → SameX w x (pursue (to p a x) r c)
same_exit w x (Skip n) a c r h = h n c a
same_exit w x (Leave p) a c r h = λ e. refl

same_load : (w i : Bool) (x a c : ℕ) (r : ℕ → ℕ → ℕ → ℕ → Ending) → ((n c a : ℕ) → SameX w x (r n c a x)) → SameX w x (pursue (loaded i (to (Skip 0) a x)) r c)
same_load w true x a c r h = h 0 c a
same_load w false x a c r h = tt

module _ (f : List ℕ) where
  same_line : (w : Bool) (x : ℕ) (l : Line) (a c : ℕ) (r : ℕ → ℕ → ℕ → ℕ → Ending) → ((n c a : ℕ) → SameX w x (r n c a x))
      → SameX (sets_x l || w) x (pursue (line f l a x) r c)
  same_line w x (Plain (LdAbs v k)) a c r h = same_load w (inside (bytes v) k f) x (be (bytes v) k f) c r h
  same_line w x (Plain (LdhInd k)) a c r h = same_load w (inside 2 (indexed x k) f) x (be 2 (indexed x k) f) c r h
  same_line w x (Plain (LdxMsh k)) a c r h = same_any x (pursue (line f (Plain (LdxMsh k)) a x) r c)
  same_line w x (Plain (LdxImm k)) a c r h = same_any x (r 0 c a k)
  same_line w x (Plain (AndK k)) a c r h = h 0 c (bit_and a k)
  same_line w x (Branch t k z p) a c r h = same_exit w x (cond (taken z (compare t a k)) p (Skip 0)) a c r h
  same_line w x (Jump p) a c r h = same_exit w x p a c r h

  pub run_keeps : (b : Block) (n c a x : ℕ) → SameX (writes_x b) x (run f b n c a x)
  unfolding run writes_x
  run_keeps [] n c a x = λ e. refl
  run_keeps (l ∷ b) (suc n) c a x = same_more (sets_x l) (writes_x b) x (run f b n c a x) (run_keeps b n c a x)
  run_keeps (l ∷ b) zero c a x = same_line (writes_x b) x l a (suc c) (run f b) (λ n c a. run_keeps b n c a x)

  at_failure : (w : Bool) (G N : ℕ → Type 0) (x : ℕ) → G x → ((y : ℕ) → (w ≡ false → y ≡ x) → N y) → (o : Ending) → SameX w x o → AtFailure (OfX N) o
  at_failure w G N x g h (left Failure c a y) s = h y s
  at_failure w G N x g h o s = tt

  -- what is known where a block left by failure: X is as before, unless the block writes it
  pub kept : (b : Block) (G N : ℕ → Type 0) → ((x y : ℕ) → G x → (writes_x b ≡ false → y ≡ x) → N y)
      → (c a x : ℕ) → G x → AtFailure (OfX N) (run f b 0 c a x)
  kept b G N h c a x g = at_failure (writes_x b) G N x g (λ y. h x y g) (run f b 0 c a x) (run_keeps b 0 c a x)
