-- The definitions as the code meets them.
use Rattle.std.specs.Prelude.{Ok, Err}
use Prim.Native.Nat.{ℕ, ◌+◌, ◌-◌, ◌≤◌, ◌<◌}
use mathlib.Core.Path.{◌≡◌, refl}
use mathlib.Core.List.{List}
use mathlib.Core.Bool.{Bool, true, false, cond}
use borrow.Author.Tests.{ltb-false, lt-ltb, le-ltb}
use lib.ListN.{length, drop, length-drop}
use lib.Dec.{ltb, eqb}
use Rattle.error.specs.declared.Refusal.TheVariants.{NoCapture, OtherLink}
use Rattle.error.specs.Answer.{Out, ◌>>=◌}
use Rattle.ast.specs.declared.LinkType.{LinkType}
use Rattle.capture.specs.declared.Order.{Order}
use Rattle.capture.specs.declared.Order.TheVariants.{Big, Little}
use Rattle.capture.specs.declared.Front.TheVariants.{Whole, Past, Over}
use Rattle.capture.specs.Capture.{number_at, is_mark, order_of, field_of, opened, front}
use Rattle.capture.proofs.Numbers.{number_drop}

-- ---- the file header

pub order_long : (s : List ℕ) {o : Order} → order_of s ≡ Ok o → 24 ≤ length s
unfolding order_of
order_long s {o = o} e = go (ltb (length s) 24) refl e
  where
    go : (a : Bool) → ltb (length s) 24 ≡ a
        → cond a (Err NoCapture) (cond (is_mark (number_at Big 0 s)) (Ok Big) (cond (is_mark (number_at Little 0 s)) (Ok Little) (Err NoCapture))) ≡ Ok o → 24 ≤ length s
    go true p e = absurd cc
    go false p e = ltb-false (length s) 24 p

opened_order : (link : LinkType) (s : List ℕ) (o : Order) → opened link s ≡ Ok o → order_of s ≡ Ok o
unfolding opened
opened_order link s o e = go (order_of s) e
  where
    on : (p : Order) (b : Bool) → ◌≡◌ {A = Out Order} (cond b (Ok p) (Err OtherLink)) (Ok o) → ◌≡◌ {A = Out Order} (Ok p) (Ok o)
    on p true e = e
    on p false e = absurd cc

    go : (x : Out Order) → (x >>= λ p. cond (eqb (number_at p 20 s) (field_of link)) (Ok p) (Err OtherLink)) ≡ Ok o → x ≡ Ok o
    go (Err r) e = absurd cc
    go (Ok p) e = on p (eqb (number_at p 20 s) (field_of link)) e

pub opened_long : (link : LinkType) (s : List ℕ) (o : Order) → opened link s ≡ Ok o → 24 ≤ length s
opened_long link s o e = order_long s (opened_order link s o e)

-- two files with the same mark and link field
module _ (s t : List ℕ) (h : 24 ≤ length s) (k : 24 ≤ length t) (mark : (o : Order) → number_at o 0 t ≡ number_at o 0 s) where
  order_alike : order_of t ≡ order_of s
  unfolding order_of
  order_alike = rw (le-ltb (length t) 24 k, le-ltb (length s) 24 h, mark Big, mark Little)

  pub opened_alike : (link : LinkType) → ((o : Order) → number_at o 20 t ≡ number_at o 20 s) → opened link t ≡ opened link s
  unfolding opened
  opened_alike link field = rw order_alike (go (order_of s))
    where
      go : (x : Out Order)
          → (x >>= λ o. cond (eqb (number_at o 20 t) (field_of link)) (Ok o) (Err OtherLink))
          ≡ (x >>= λ o. cond (eqb (number_at o 20 s) (field_of link)) (Ok o) (Err OtherLink))
      go (Err r) = refl
      go (Ok o) = rw (field o)

-- ---- the front at a place

module _ (o : Order) (s : List ℕ) (at : ℕ) where
  pub front_head : length s - at < 16 → front o (drop at s) ≡ Past
  unfolding front
  front_head h = rw (length-drop at s, lt-ltb (length s - at) 16 h)

  module _ (h : 16 ≤ length s - at) where
    pub front_over : 65535 < number_at o (at + 8) s → front o (drop at s) ≡ Over
    unfolding front
    front_over k = rw (length-drop at s, number_drop o 8 at s, le-ltb (length s - at) 16 h, lt-ltb 65535 (number_at o (at + 8) s) k)

    pub front_body : number_at o (at + 8) s ≤ 65535 → length s - at < 16 + number_at o (at + 8) s → front o (drop at s) ≡ Past
    unfolding front
    front_body k l = rw (length-drop at s, number_drop o 8 at s, le-ltb (length s - at) 16 h, le-ltb 65535 (number_at o (at + 8) s) k, lt-ltb (length s - at) (16 + number_at o (at + 8) s) l)

    pub front_here : number_at o (at + 8) s ≤ 65535 → 16 + number_at o (at + 8) s ≤ length s - at → front o (drop at s) ≡ Whole (number_at o (at + 8) s)
    unfolding front
    front_here k l = rw (length-drop at s, number_drop o 8 at s, le-ltb (length s - at) 16 h, le-ltb 65535 (number_at o (at + 8) s) k, le-ltb (length s - at) (16 + number_at o (at + 8) s) l)
