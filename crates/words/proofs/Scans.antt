-- Laws of bytes up to a stop and of decimals, as the code meets them.
use Rattle.std.proofs.Common.{None, Some, ℕ, zero, suc, ◌+◌, ◌*◌, ◌-◌, ◌≤◌, ◌<◌, ◌≡◌, refl, sym, ap, ◌∙◌, List, [], ◌∷◌, Bool, true, false, cond, not, ◌&&◌, ◌||◌, length, get_or, take, drop, unwrap_or, arith, add-one}
use Rattle.std.specs.List.{position, position_or_len}
use lib.Dec.{eqb, leb, ltb}
use lib.Seq.{drop-cons}
use borrow.Author.Tests.{lt-leb, leb-true, ltb-true, ltb-false, eq-eqb, ne_eqb}
use Rattle.std.proofs.lemmas.Bool.{lt-ltb}
use Rattle.std.proofs.lemmas.List.Sums.{position_or_len_is}
use Rattle.typing.specs.Words.{digits, value, empty, decimal, up_to}
use Rattle.words.specs.Numbers.{counted}

-- ---- up to a stop

stop_at : (stop : ℕ) (s : List ℕ) → position_or_len (λ b. eqb b stop) s ≡ length (up_to stop s)
stop_at stop [] = refl
stop_at stop (c ∷ s) = by (eqb c stop) (stop_at stop s)
  where
    by : (b : Bool) → position_or_len (λ b. eqb b stop) s ≡ length (up_to stop s)
        → cond (not b) (1 + position_or_len (λ b. eqb b stop) s) 0 ≡ length (cond b [] (c ∷ up_to stop s))
    by true ih = refl
    by false ih = ap (λ n. 1 + n) ih ∙ omega arith

pub up_to_short : (stop : ℕ) (s : List ℕ) → length (up_to stop s) ≤ length s
up_to_short stop [] = omega arith
up_to_short stop (c ∷ s) = by (eqb c stop) (up_to_short stop s)
  where
    by : (b : Bool) → length (up_to stop s) ≤ length s → length (cond b [] (c ∷ up_to stop s)) ≤ suc (length s)
    by true ih = omega arith
    by false ih = omega arith

-- the place of the first stop, or the length
pub first_stop : (stop : ℕ) (s : List ℕ) → unwrap_or (position (λ b. eqb b stop) s) (length s) ≡ length (up_to stop s)
first_stop stop s = by (ltb (position_or_len (λ b. eqb b stop) s) (length s)) refl ∙ stop_at stop s
  where
    by : (b : Bool) → ltb (position_or_len (λ b. eqb b stop) s) (length s) ≡ b
        → unwrap_or (cond b (Some (position_or_len (λ b. eqb b stop) s)) None) (length s) ≡ position_or_len (λ b. eqb b stop) s
    by true h = refl
    by false h = omega (arith, ltb-false _ (length s) h, stop_at stop s, up_to_short stop s)

pub until_is : (stop : ℕ) (s : List ℕ) (n : ℕ) → n ≡ unwrap_or (position (λ b. eqb b stop) s) (length s) → (n ≡ length (up_to stop s)) × (n ≤ length s)
until_is stop s n e = (e ∙ first_stop stop s, omega (arith, e ∙ first_stop stop s, up_to_short stop s))

pub stop_found : (stop : ℕ) (s : List ℕ) (n : ℕ) → position (λ b. eqb b stop) s ≡ Some n → (n ≡ length (up_to stop s)) × (n < length s)
stop_found stop s n e = by (ltb (position_or_len (λ b. eqb b stop) s) (length s)) refl e
  where
    by : (b : Bool) → ltb (position_or_len (λ b. eqb b stop) s) (length s) ≡ b
        → cond b (Some (position_or_len (λ b. eqb b stop) s)) None ≡ Some n → (n ≡ length (up_to stop s)) × (n < length s)
    by true h w = let z : position_or_len (λ b. eqb b stop) s ≡ n = cc in (sym z ∙ stop_at stop s, rw z at (ltb-true _ (length s) h))
    by false h w = cc

pub no_stop : (stop : ℕ) (s : List ℕ) → position (λ b. eqb b stop) s ≡ None → length (up_to stop s) ≡ length s
no_stop stop s e = by (ltb (position_or_len (λ b. eqb b stop) s) (length s)) refl e
  where
    by : (b : Bool) → ltb (position_or_len (λ b. eqb b stop) s) (length s) ≡ b
        → cond b (Some (position_or_len (λ b. eqb b stop) s)) None ≡ None → length (up_to stop s) ≡ length s
    by true h w = cc
    by false h w = omega (arith, ltb-false _ (length s) h, stop_at stop s, up_to_short stop s)

pub take_up_to : (stop : ℕ) (s : List ℕ) → take (length (up_to stop s)) s ≡ up_to stop s
take_up_to stop [] = refl
take_up_to stop (c ∷ s) = by (eqb c stop) (take_up_to stop s)
  where
    by : (b : Bool) → take (length (up_to stop s)) s ≡ up_to stop s → take (length (cond b [] (c ∷ up_to stop s))) (c ∷ s) ≡ cond b [] (c ∷ up_to stop s)
    by true ih = refl
    by false ih = ap (λ t. c ∷ t) ih

-- ---- the loop that looks for it

-- no stop stands before a place
pub record Before (stop : ℕ) (s : List ℕ) (i : ℕ) : Type 0 where
  pub none : (k : ℕ) → k < i → eqb (get_or s k 0) stop ≡ false

pub before_none : (stop : ℕ) (s : List ℕ) → Before stop s 0
before_none stop s = record { none = λ k h. absurd (omega arith) }

pub before_more : (stop : ℕ) (s : List ℕ) (i : ℕ) → Before stop s i → (get_or s i 0 ≡ stop → ⊥) → Before stop s (i + 1)
before_more stop s i h e = record { none = λ k j. by k j (ltb k i) refl }
  where
    by : (k : ℕ) → k < i + 1 → (b : Bool) → ltb k i ≡ b → eqb (get_or s k 0) stop ≡ false
    by k j true f = h.none k (ltb-true k i f)
    by k j false f = let z : k ≡ i = omega (arith, ltb-false k i f) in rw z (ne_eqb (get_or s i 0) stop e)

pub found_here : (stop : ℕ) (s : List ℕ) (i : ℕ) → Before stop s i → i < length s → get_or s i 0 ≡ stop → Some i ≡ position (λ b. eqb b stop) s
found_here stop s i h k e =
    let n : position_or_len (λ b. eqb b stop) s ≡ i = position_or_len_is (λ b. eqb b stop) s i 0 (omega arith) h.none (λ _. eq-eqb (get_or s i 0) stop e) in
    rw (n, lt-ltb i (length s) k) refl

pub found_nowhere : (stop : ℕ) (s : List ℕ) → Before stop s (length s) → None ≡ position (λ b. eqb b stop) s
found_nowhere stop s h = by (ltb (position_or_len (λ b. eqb b stop) s) (length s)) refl
  where
    n : position_or_len (λ b. eqb b stop) s ≡ length s
    n = position_or_len_is (λ b. eqb b stop) s (length s) 0 (omega arith) h.none (λ k. absurd (omega arith))

    by : (b : Bool) → ltb (position_or_len (λ b. eqb b stop) s) (length s) ≡ b → None ≡ cond b (Some (position_or_len (λ b. eqb b stop) s)) None
    by true f = absurd (omega (arith, n, ltb-true _ (length s) f))
    by false f = refl

-- ---- digits

pub drop_all : (s : List ℕ) (i : ℕ) → length s ≤ i → drop i s ≡ []
drop_all [] zero h = refl
drop_all [] (suc i) h = refl
drop_all (c ∷ s) zero h = absurd (omega arith)
drop_all (c ∷ s) (suc i) h = drop_all s i (omega arith)

pub drop_here : (s : List ℕ) (i : ℕ) → i < length s → drop i s ≡ get_or s i 0 ∷ drop (i + 1) s
drop_here s i h = rw (add-one, drop-cons s i 0)

and_false : (b : Bool) → b && false ≡ false
and_false true = refl
and_false false = refl

value_grows : (v : ℕ) (s : List ℕ) → v ≤ value v s
value_grows v [] = omega arith
value_grows v (c ∷ s) = omega (arith, value_grows (v * 10 + (c - 48)) s)

-- a digit that leads over the limit
pub over_most : (most v : ℕ) (s : List ℕ) (i : ℕ) → i < length s → most < v * 10 + (get_or s i 0 - 48) → counted most v (drop i s) ≡ None
over_most most v s i h k =
    rw (
      drop_here s i h,
      lt-leb (value (v * 10 + (get_or s i 0 - 48)) (drop (i + 1) s)) most (omega (arith, value_grows (v * 10 + (get_or s i 0 - 48)) (drop (i + 1) s))),
      and_false (digits (get_or s i 0 ∷ drop (i + 1) s)),
    )

-- ---- decimals

pub decimal_small : (most : ℕ) (s : List ℕ) (v : ℕ) → decimal most s ≡ Some v → v ≤ most
decimal_small most [] v e = cc
decimal_small most (c ∷ s) v e = by (digits (c ∷ s)) (not (eqb c 48) || empty s) (leb (value 0 (c ∷ s)) most) refl e
  where
    by : (a b l : Bool) → leb (value 0 (c ∷ s)) most ≡ l → cond (a && (b && l)) (Some (value 0 (c ∷ s))) None ≡ Some v → v ≤ most
    by true true true h e = let z : value 0 (c ∷ s) ≡ v = cc in omega (arith, leb-true (value 0 (c ∷ s)) most h)
    by true true false h e = cc
    by true false l h e = cc
    by false b l h e = cc
