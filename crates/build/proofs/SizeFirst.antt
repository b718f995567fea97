-- T-05 holds of every tree file: the question and the load, against the build.
use Rattle.std.specs.Prelude.{Ok, Err}
use Prim.Native.Nat.{ℕ, ◌+◌, ◌*◌, ◌≤◌, ◌<◌}
use mathlib.Core.Path.{◌≡◌, refl, sym, ap, ◌∙◌, subst}
use mathlib.Core.List.{List}
use mathlib.Core.Bool.{Bool, true, false}
use mathlib.Core.Logic.{◌↔◌}
use native.Mathlib.Omega.{arith}
use borrow.Author.Tests.{ltb-true, ltb-false, eqb-true, eqb-false}
use lib.ListN.{length, take}
use lib.Dec.{eqb, ltb}
use Rattle.error.specs.declared.Refusal.{Refusal}
use Rattle.error.specs.declared.Refusal.TheVariants.{ShortBuffer, CountMoved}
use Rattle.error.specs.Answer.{Out, number_of, Numbered}
use Rattle.error.proofs.Among.{numbered_more}
use Rattle.error.proofs.All.{Turned}
use Rattle.bpf.specs.declared.Insn.{Insn}
use Rattle.bpf.specs.Bytes.{AreBytes}
use Rattle.generate.proofs.Generating.{Made}
use Rattle.build.specs.Build.{into, program, build, asked, question, load}
use Rattle.build.specs.Demands.{Answers, Frame, Begins, Demand3, Demands}
use Rattle.build.specs.SizeFirst.{Calls, Kept, Builds, Turns, question_numbers, SizeFirst, Edited}
use Rattle.build.proofs.Building.{load_refused, load_same, load_other}
use Rattle.build.proofs.Demands as Base
use Rattle.build.proofs.Demands.{never, left, more, refusal, own, Own, program_turned, kept_only, demands}

-- ---- the promises can be kept: the definitions' own answers keep them, and no other calls do

abbrev pub defined : List ℕ → Calls
defined T = record { base = Base.defined T; asks = question T; loads = λ count lent. (load T count lent).answer; leaves = λ count lent. (load T count lent).buffer }

pub kept : (T : List ℕ) → Kept T (defined T)
kept T = record { base = Base.kept T; asks = refl; loads = λ count lent. refl; leaves = λ count lent. refl }

only_these : (T : List ℕ) (c : Calls) → Kept T c → c ≡ defined T
only_these T c k i =
    record {
      base = kept_only T c.base k.base i;
      asks = k.asks i;
      loads = λ count lent. k.loads count lent i;
      leaves = λ count lent. k.leaves count lent i;
    }

-- ---- by the program

counts_of : (o : Out (List Insn)) (n : ℕ) → (asked o ≡ Ok n) ↔ ((lent : ℕ) → 8 * n ≤ lent → (into lent o).answer ≡ Ok n)
counts_of o n = (to o, λ f. let l = left o (8 * n) n (f (8 * n) (omega arith)) in rw l.is (ap (λ k. Ok k) l.size))
  where
    to : (o : Out (List Insn)) → asked o ≡ Ok n → (lent : ℕ) → 8 * n ≤ lent → (into lent o).answer ≡ Ok n
    to (Err r) e lent h = never e
    to (Ok p) e lent h = let k : length p ≡ n = cc in more p lent (omega arith) ∙ e

refusals_of : (o : Out (List Insn)) (r : Refusal) → (asked o ≡ Err r) ↔ ((lent : ℕ) → (into lent o).answer ≡ Err r)
refusals_of (Err s) r = (λ e lent. e, λ f. f 0)
refusals_of (Ok p) r = (λ e. never (sym e), λ f. never (sym (f (8 * length p)) ∙ more p (8 * length p) (omega arith)))

made_of : (o : Out (List Insn)) (n : ℕ) → asked o ≡ Ok n → Made o n
made_of (Err r) n e = never e
made_of (Ok p) n e = record { insns = p; eq = refl; size = cc }

turned_of : (o : Out (List Insn)) (r : Refusal) → asked o ≡ Err r → o ≡ Err r
turned_of (Err s) r e = ap Err (refusal e)
turned_of (Ok p) r e = never (sym e)

-- ---- of a tree file

-- what a load of a count goes by
data Way (T : List ℕ) (count : ℕ) : Type 0 where
  down : (r : Refusal) → question T ≡ Err r → Way T count
  moved : (n : ℕ) → question T ≡ Ok n → ¬ (count ≡ n) → Way T count
  same : question T ≡ Ok count → Way T count

way : (T : List ℕ) (count : ℕ) → Way T count
way T count = by (question T) refl
  where
    by : (q : Out ℕ) → question T ≡ q → Way T count
    by (Err r) e = down r e
    by (Ok n) e = test (eqb count n) refl
      where
        test : (b : Bool) → eqb count n ≡ b → Way T count
        test true t = same (e ∙ ap (λ k. Ok k) (sym (eqb-true count n t)))
        test false t = moved n e (eqb-false count n t)

module _ (T : List ℕ) where
  numbers : (r : Refusal) → question T ≡ Err r → Numbered question_numbers r
  unfolding question Own own
  numbers r e = numbered_more own question_numbers tt r (subst (Turned Own) (turned_of (program T) r e) (program_turned T))

  loads_same : (n lent : ℕ) → question T ≡ Ok n → Builds (defined T) n lent
  unfolding question
  loads_same n lent e =
      let i = load_same T n lent (made_of (program T) n e) refl in
      record { answer = ap (λ b. b.answer) i; buffer = ap (λ b. b.buffer) i }

  loads_refused : (r : Refusal) (count lent : ℕ) → question T ≡ Err r → Turns (defined T) count lent r
  unfolding question
  loads_refused r count lent e =
      let i = load_refused T count lent (turned_of (program T) r e) in
      record { answer = ap (λ b. b.answer) i; buffer = ap (λ b. b.buffer) i }

  loads_moved : (n count lent : ℕ) → question T ≡ Ok n → ¬ (count ≡ n) → Turns (defined T) count lent CountMoved
  unfolding question
  loads_moved n count lent e h =
      let i = load_other T count lent (made_of (program T) n e) (λ k. h (sym k)) in
      record { answer = ap (λ b. b.answer) i; buffer = ap (λ b. b.buffer) i }

  counts : (n : ℕ) → (question T ≡ Ok n) ↔ ((lent : ℕ) → 8 * n ≤ lent → Answers (Base.defined T) lent n)
  unfolding question build
  counts n = counts_of (program T) n

  refusals : (r : Refusal) → (question T ≡ Err r) ↔ ((lent : ℕ) → (build T lent).answer ≡ Err r)
  unfolding question build
  refusals r = refusals_of (program T) r

module _ (T : List ℕ) (z : AreBytes T) where
  base : Demands T (Base.defined T)
  base = demands T z (Base.defined T) (Base.kept T)

  -- no question has the number 9 or 19
  none : {A : Type 0} {r s : Refusal} → question T ≡ Err r → r ≡ s → (Numbered question_numbers s → ⊥) → A
  none e h n = absurd (n (subst (Numbered question_numbers) h (numbers T _ e)))

  short : (count lent : ℕ) → Way T count → (load T count lent).answer ≡ Err ShortBuffer → (question T ≡ Ok count) × (lent < 8 * count)
  short count lent (down r h) e = none h (refusal (sym (loads_refused T r count lent h).answer ∙ e)) (λ k. k)
  short count lent (moved n h m) e = let q = ap number_of (refusal (sym (loads_moved T n count lent h m).answer ∙ e)) in absurd (omega arith)
  short count lent (same h) e = (h, test (ltb lent (8 * count)) refl)
    where
      test : (b : Bool) → ltb lent (8 * count) ≡ b → lent < 8 * count
      test true t = ltb-true lent (8 * count) t
      test false t = never (sym e ∙ (loads_same T count lent h).answer ∙ (counts T count).0 h lent (ltb-false lent (8 * count) t))

  long : (count lent : ℕ) → question T ≡ Ok count → lent < 8 * count → (load T count lent).answer ≡ Err ShortBuffer
  long count lent h l = (loads_same T count lent h).answer ∙ base.first.short (8 * count) count ((counts T count).0 h (8 * count) (omega arith)) lent l

  only : (count lent : ℕ) → Way T count → (load T count lent).answer ≡ Err CountMoved → (n : ℕ) × (question T ≡ Ok n) × (¬ (count ≡ n))
  only count lent (down r h) e = none h (refusal (sym (loads_refused T r count lent h).answer ∙ e)) (λ k. k)
  only count lent (moved n h m) e = (n, h, m)
  only count lent (same h) e = absurd (base.first.refuses lent CountMoved (sym (loads_same T count lent h).answer ∙ e))

  counted : (count n lent : ℕ) → Way T count → (load T count lent).answer ≡ Ok n → (n ≡ count) × (question T ≡ Ok count)
  counted count n lent (down r h) e = never (sym (loads_refused T r count lent h).answer ∙ e)
  counted count n lent (moved m h d) e = never (sym (loads_moved T m count lent h d).answer ∙ e)
  counted count n lent (same h) e =
      let a = (base.first.enough lent n (sym (loads_same T count lent h).answer ∙ e) (8 * n + 8 * count) (omega arith)).0 in
      let b = (counts T count).0 h (8 * n + 8 * count) (omega arith) in
      (cc, h)

  third : (count lent : ℕ) → (load T count lent).answer ≡ Ok count → (F G : List ℕ) → Frame F → Frame G → Begins G F
      → Demand3 T (Base.defined T) (take (8 * count) (load T count lent).buffer) F G
  third count lent e F G f g b =
      let s = loads_same T count lent (counted count count lent (way T count) e).1 in
      rw s.buffer (base.third lent count (sym s.answer ∙ e) F G f g b)

-- ---- T-05, of every tree file and of all calls that keep their promises

pub size_first : (T : List ℕ) → AreBytes T → (c : Calls) → Kept T c → SizeFirst T c
size_first T z c k =
    subst (SizeFirst T) (sym (only_these T c k))
    (record {
      counts = counts T;
      refusals = refusals T;
      numbers = numbers T;
      same = loads_same T;
      refused = loads_refused T;
      moved = loads_moved T;
      last = λ count lent. (short T z count lent (way T count), λ h. long T z count lent h.0 h.1);
      only = λ count lent. only T z count lent (way T count);
      counted = λ count n lent. counted T z count n lent (way T count);
      third = third T z;
    })

pub edited : (T U : List ℕ) (c d : Calls) → Kept T c → Kept U d → Edited c d
edited T U c d k j =
    subst (Edited c) (sym (only_these U d j))
    (record {
      equal = λ n lent e f. loads_same U n lent f;
      other = λ n m lent e f h. loads_moved U m n lent f (λ i. h (sym i));
      down = λ n lent r e f. loads_refused U r n lent f;
    })
