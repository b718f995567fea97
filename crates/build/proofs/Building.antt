-- A generated program in the cleared buffer, against what the definitions leave there.
use Rattle.std.specs.Prelude.{Ok, Err}
use Rattle.error.specs.Answer.{Out}
use Prim.Native.Nat.{ℕ, zero, suc, ◌-◌, ◌*◌, ◌≤◌}
use mathlib.Core.Path.{◌≡◌, refl, sym, ap, ap₂, ◌∙◌}
use mathlib.Core.List.{List, ◌++◌}
use mathlib.Core.Bool.{Bool, true, false, cond}
use native.Mathlib.Omega.{arith}
use borrow.Author.Tests.{ltb-false, eq-eqb, ne_eqb}
use lib.ListN.{length, drop, replicate, length-replicate}
use lib.Dec.{ltb}
use Rattle.error.specs.declared.Refusal.{Refusal}
use Rattle.error.specs.declared.Refusal.TheVariants.{ShortBuffer, CountMoved}
use Rattle.bpf.specs.declared.Insn.{Insn}
use Rattle.bpf.specs.Bytes.{AreBytes}
use Rattle.bpf.specs.Program.{program_bytes}
use Rattle.ast.specs.declared.LinkType.{LinkType}
use Rattle.ast.specs.File.{Filter, parse}
use Rattle.ast.proofs.Bounds.{parse_proper}
use Rattle.ast.proofs.Walk.{parse_records}
use Rattle.codegen.specs.Compile.{compile}
use Rattle.reader.specs.Reader.{tree_of, checked}
use Rattle.reader.proofs.Checks.{check_link, check_refused}
use Rattle.generate.specs.Promises.{Stands, written, Counts, Generates}
use Rattle.generate.proofs.Generating.{Made, made, turned}
use Rattle.build.specs.Build.{rejected, placed, into, program, build, asked, question, load}
use Rattle.build.specs.Promises.{answer_of}

-- ---- the file

-- one that passed the checks
pub stands : (s : List ℕ) (L : LinkType) → AreBytes s → checked (parse s) ≡ Ok L → Stands s
stands s L z e =
    let k = check_link s L e in
    let f : Filter = record { link = L; tree = tree_of s 0 } in
    record { here = k.0; proper = (parse_proper s z f k.2).0; size = parse_records s f k.2 }

pub program_of_lem : (s : List ℕ) (L : LinkType) → checked (parse s) ≡ Ok L → program s ≡ compile L (tree_of s 0)
unfolding program
program_of_lem s L e = rw (check_link s L e).2

pub program_refused : (s : List ℕ) (q : Refusal) → checked (parse s) ≡ Err q → program s ≡ Err q
unfolding program
program_refused s q e = rw (check_refused s q e)

-- ---- the load

-- of a tree that is turned down, of one that still has the count, and of one that has another
module _ (s : List ℕ) (count lent : ℕ) where
  pub load_refused : {q : Refusal} → program s ≡ Err q → load s count lent ≡ rejected lent q
  unfolding load
  load_refused e = rw e

  pub load_same : {n : ℕ} → Made (program s) n → n ≡ count → load s count lent ≡ build s lent
  unfolding load build
  load_same m h = rw (m.eq, eq-eqb (length m.insns) count (sym m.size ∙ h))

  pub load_other : {n : ℕ} → Made (program s) n → ¬ (n ≡ count) → load s count lent ≡ rejected lent CountMoved
  unfolding load
  load_other m h = rw (m.eq, ne_eqb (length m.insns) count (λ e. h (m.size ∙ e)))

-- ---- in the buffer

drop_zeros : (n m : ℕ) → m ≤ n → drop {A = ℕ} m (replicate n 0) ≡ replicate (n - m) 0
drop_zeros n zero h = let e : n - 0 ≡ n = omega arith in rw e
drop_zeros zero (suc m) h = absurd (omega arith)
drop_zeros (suc n) (suc m) h = let e : suc n - suc m ≡ n - m = omega arith in rw e (drop_zeros n m (omega arith))

-- a program that is written over zeros
over : (lent : ℕ) (p : List Insn)
    → (answer_of lent (length p) ≡ (into lent (Ok p)).answer) × (written (Ok p) (replicate lent 0) ≡ (into lent (Ok p)).buffer)
over lent p = rw length-replicate (by (ltb lent (8 * length p)) refl)
  where
    by : (t : Bool) → ltb lent (8 * length p) ≡ t
        → (cond t (Err ShortBuffer) (Ok (length p)) ≡ (cond t (rejected lent ShortBuffer) (placed lent p)).answer)
        × (cond t (replicate lent 0) (program_bytes p ++ drop (8 * length p) (replicate lent 0)) ≡ (cond t (rejected lent ShortBuffer) (placed lent p)).buffer)
    by true e = (refl, refl)
    by false e = (refl, ap (λ l. program_bytes p ++ l) (drop_zeros lent (8 * length p) (ltb-false lent (8 * length p) e)))

-- ---- the build and the load, after what was generated over zeros

module _ (s : List ℕ) (lent : ℕ) {b b' : List ℕ} {r : Out ℕ} (z : b ≡ replicate lent 0) (g : Generates (program s) b b' r) where
  over_turned : {q : Refusal} → r ≡ Err q → b' ≡ replicate lent 0
  over_turned e = g.part ∙ rw (turned g.counts e, z)

  pub build_turned : {q : Refusal} → r ≡ Err q → (Err q ≡ (build s lent).answer) × (b' ≡ (build s lent).buffer)
  unfolding build
  build_turned e = rw (turned g.counts e) (refl, over_turned e)

  pub build_made : {n : ℕ} → r ≡ Ok n → {a : Out ℕ} {long : ℕ} → long ≡ lent → a ≡ answer_of long n
      → (a ≡ (build s lent).answer) × (b' ≡ (build s lent).buffer)
  unfolding build
  build_made e k w =
      let m = made g.counts e in
      let h = over lent m.insns in (
        w ∙ ap₂ answer_of k m.size ∙ h.0 ∙ ap (λ x. (into lent x).answer) (sym m.eq),
        g.part ∙ ap₂ (λ x y. written x y) m.eq z ∙ h.1 ∙ ap (λ x. (into lent x).buffer) (sym m.eq),
      )

  module _ (count : ℕ) where
    pub load_turned : {q : Refusal} → r ≡ Err q → (Err q ≡ (load s count lent).answer) × (b' ≡ (load s count lent).buffer)
    load_turned e = rw (load_refused s count lent (turned g.counts e)) (refl, over_turned e)

    pub load_made : {n : ℕ} → r ≡ Ok n → n ≡ count → {a : Out ℕ} {long : ℕ} → long ≡ lent → a ≡ answer_of long n
        → (a ≡ (load s count lent).answer) × (b' ≡ (load s count lent).buffer)
    load_made e h k w = rw (load_same s count lent (made g.counts e) h) (build_made e k w)

    pub load_moved : {n : ℕ} → r ≡ Ok n → ¬ (n ≡ count) → {b'' : List ℕ} → b'' ≡ replicate lent 0
        → (Err CountMoved ≡ (load s count lent).answer) × (b'' ≡ (load s count lent).buffer)
    load_moved e h y = rw (load_other s count lent (made g.counts e) h) (refl, y)

-- ---- the question

module _ (s : List ℕ) {r : Out ℕ} (g : Counts (program s) r) where
  pub question_turned : {q : Refusal} → r ≡ Err q → Err q ≡ question s
  unfolding question
  question_turned e = ap asked (sym (turned g e))

  pub question_made : {n : ℕ} → r ≡ Ok n → Ok n ≡ question s
  unfolding question
  question_made e = let m = made g e in ap (λ k. Ok k) m.size ∙ ap asked (sym m.eq)
