-- The answer of a count, as the code comes to it.
use Rattle.std.specs.Prelude.{Result}
use Rattle.capture.specs.declared.Halt.{Halt}
use Rattle.capture.specs.declared.Tally.{Tally}
use Rattle.capture.specs.Counting.{halt}
use Rattle.std.specs.Prelude.{Ok, Err}
use Prim.Native.Nat.{ℕ, ◌*◌, ◌≤◌}
use mathlib.Core.Path.{◌≡◌, refl}
use mathlib.Core.List.{List}
use native.Mathlib.Omega.{arith}
use lib.ListN.{length, take}
use lib.Seq.{length-take-le}
use lib.Dec.{ltb}
use Rattle.error.specs.declared.Refusal.{Refusal}
use Rattle.error.specs.Answer.{Out}
use Rattle.error.proofs.All.{either}
use Rattle.ast.specs.declared.LinkType.{LinkType}
use Rattle.ast.specs.File.{header}
use Rattle.build.specs.Build.{build}
use Rattle.build.proofs.Demands.{fits}
use Rattle.capture.specs.declared.Order.{Order}
use Rattle.capture.specs.Capture.{opened, frames_of}
use Rattle.capture.specs.Counting.{none, tally_of, ended, over, counted, frames_in}
use Rattle.capture.proofs.Coded.{opened_long}
use Rattle.capture.proofs.Whole.{gives}
use Rattle.capture.proofs.Joins.{tally_sound}
use Rattle.count.specs.Count.{linked, after, count}

-- the program that was built has room in the lent buffer
pub ruleset built = (fits, length-take-le)

module _ (T : List ℕ) (lent : ℕ) where
  module _ (s : List ℕ) where
    pub count-own : (r : Refusal) → (build T lent).answer ≡ Err r → (count T lent s).answer ≡ Err (halt r none)
    unfolding count
    count-own r e = rw e

    pub count-linked : (n : ℕ) → (build T lent).answer ≡ Ok n → (count T lent s).answer ≡ linked (take (8 * n) (build T lent).buffer) s (header T)
    unfolding count
    count-linked n e = rw e

    pub count-buffer : (count T lent s).buffer ≡ (build T lent).buffer
    unfolding count
    count-buffer = refl

    -- ---- frames are few: each has a header of 16 bytes

    abbrev Small : Result Tally Halt → Type 0
    Small a = 16 * (frames_in a).kept ≤ length s

    ended-small : (P : List ℕ) (o : Order) → 24 ≤ length s → Small (ended P s (frames_of o s))
    ended-small P o h =
        let t = tally_sound P o s 24 h in
        let k : 16 * (tally_of P s (frames_of o s)).kept ≤ length s = omega (arith, t.kept, t.given, (gives o s 24 h).last) in
        either Small (ltb (frames_of o s).stop (length s)) k k

    over-small : (P : List ℕ) (x : Out Order) → ((o : Order) → x ≡ Ok o → 24 ≤ length s) → Small (over P s x)
    over-small P (Err r) h = omega arith
    over-small P (Ok o) h = ended-small P o (h o refl)

    linked-small : (P : List ℕ) (x : Out LinkType) → Small (linked P s x)
    unfolding counted
    linked-small P (Err r) = omega arith
    linked-small P (Ok L) = over-small P (opened L s) (λ o e. opened_long L s o e)

    after_small : (b : Out ℕ) → Small (after T s (build T lent).buffer b)
    after_small (Err r) = omega arith
    after_small (Ok n) = linked-small (take (8 * n) (build T lent).buffer) (header T)

    pub count_small : Small (count T lent s).answer
    unfolding count
    count_small = after_small (build T lent).answer
