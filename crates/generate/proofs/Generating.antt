-- What was compiled, as `generate` promises it, and arrays that are long enough.
use Rattle.std.specs.Prelude.{Ok, Err}
use Rattle.std.specs.Borrow.{MutBor}
use Prim.Native.Nat.{ℕ, zero, suc, ◌+◌, ◌-◌, ◌*◌, ◌/◌, ◌≤◌, ◌<◌}
use mathlib.Core.Path.{◌≡◌, refl, sym, ap, ◌∙◌, subst}
use mathlib.Core.List.{List, ◌++◌, map}
use native.Mathlib.Omega.{arith}
use borrow.Author.Tests.{lt-ltb, le-ltb}
use lib.ListN.{length, take, drop, length-append, length-map}
use Rattle.error.specs.declared.Refusal.{Refusal}
use Rattle.error.specs.Answer.{Out}
use Rattle.error.proofs.All.{All, all_bind}
use Rattle.bpf.specs.declared.Insn.{Insn}
use Rattle.bpf.specs.Program.{program_bytes}
use Rattle.ast.specs.declared.LinkType.{LinkType}
use Rattle.ast.specs.Tree.{Expr}
use Rattle.ast.specs.File as File
use Rattle.ast.proofs.Proper.{Proper}
use Rattle.codegen.specs.Block.{Block, assemble}
use Rattle.codegen.specs.Emit.{emit}
use Rattle.codegen.specs.Compile.{entry_facts, finished, returns, compile}
use Rattle.codegen.proofs.Semantics.{length_settle}
use Rattle.codegen.proofs.Shape.{Fits, weight, tree_shape}
use Rattle.codegen.proofs.Sound.{weight_records}
use Rattle.codegen.proofs.Joins.{resolved_then}
use Rattle.emit.specs.declared.Emitter.{Emitter}
use Rattle.emit.specs.declared.Patch.{Patch}
use Rattle.emit.specs.Grown.{Lent, Answers}
use Rattle.guards.specs.declared.Note.{Note}
use Rattle.reader.specs.Reader.{tree_of}
use Rattle.compile.specs.Walks.{Holds, Compiles, Ready}
use Rattle.generate.specs.Promises.{Stands, Suffices, counted, Counts, Generates}

-- ---- how long a program is

program_size : (b : Block) → length (map assemble (finished b) ++ returns) ≡ length b + 2
unfolding finished
program_size b = rw (length-append, length-map, length_settle, length_settle)

compile_size : (L : LinkType) (t : Expr) → Proper t → All (λ p. length p ≤ weight t + 2) (compile L t)
unfolding compile
compile_size L t h =
    all_bind (Fits L (weight t)) _ (emit L t (entry_facts L)) _ (tree_shape L t (entry_facts L) h)
    (λ c s. resolved_then _ (finished c.block) _ (λ e. omega (arith, program_size c.block, s.size)))

-- ---- what was compiled

pub record Held (o : Out (List Insn)) (d e : Emitter) : Type 0 where
  pub made : List Insn
  pub eq : o ≡ Ok made
  pub holds : Holds made d e

refused_of : (o : Out (List Insn)) (d e : Emitter) (q : Refusal) → Answers o (λ p. Holds p d e) (Err q) → o ≡ Err q
refused_of (Ok p) d e q h = absurd h
refused_of (Err r) d e q h = ap Err (sym h)

held_of : (o : Out (List Insn)) (d e : Emitter) (u : Unit {0}) → Answers o (λ p. Holds p d e) (Ok u) → Held o d e
held_of (Ok p) d e u h = record { made = p; eq = refl; holds = h }
held_of (Err r) d e u h = absurd h

module _ {o : Out (List Insn)} {d e : Emitter} {r : Out (Unit {0})} (h : Compiles o d e r) where
  not_made : {q : Refusal} → r ≡ Err q → o ≡ Err q
  not_made {q} w = refused_of o d e q (subst (λ x. Answers o (λ p. Holds p d e) x) w h.is)

  held : {u : Unit {0}} → r ≡ Ok u → Held o d e
  held {u} w = held_of o d e u (subst (λ x. Answers o (λ p. Holds p d e) x) w h.is)

held_few : {d e : Emitter} (L : LinkType) (t : Expr) → Proper t → Held (compile L t) d e → e.count ≤ weight t + 2
held_few L t p h = omega (arith, subst (All (λ q. length q ≤ weight t + 2)) h.eq (compile_size L t p), h.holds.count)

-- what was compiled for an emitter's link type
pub held_by : {L : LinkType} (t : Expr) {d e : Emitter} {r : Out (Unit {0})} {u : Unit {0}} → d.link ≡ L → Compiles (compile d.link t) d e r → r ≡ Ok u → Held (compile L t) d e
held_by t {d = d} {e = e} {r = r} w h q = held (subst (λ K. Compiles (compile K t) d e r) w h) q

pub not_made_by : {L : LinkType} (t : Expr) {d e : Emitter} {r : Out (Unit {0})} {q : Refusal} → d.link ≡ L → Compiles (compile d.link t) d e r → r ≡ Err q → compile L t ≡ Err q
not_made_by t {d = d} {e = e} {r = r} w h p = not_made (subst (λ K. Compiles (compile K t) d e r) w h) p

module _ (L : LinkType) {s : List ℕ} {n l j lent : ℕ} {d e : Emitter} (c : Stands s) (z : Suffices s n l j lent) (h : Held (compile L (tree_of s 0)) d e) where
  pub few_lines : e.count ≤ 65536
  few_lines = omega (arith, held_few L (tree_of s 0) c.proper h, z.places)

  -- a program that the part holds stands in the row to its end
  pub reaches : length d.insns.now ≡ l → 8 * e.count ≤ lent → e.count ≤ length e.insns.now
  reaches m k = go lent z.lines k
    where
      go : (a : ℕ) → (0 < a → weight (tree_of s 0) + 2 ≤ l) → 8 * e.count ≤ a → e.count ≤ length e.insns.now
      go zero i k = omega (arith, k)
      go (suc a) i k = omega (arith, held_few L (tree_of s 0) c.proper h, i (omega arith), h.holds.row, m)

-- ---- in the part

pub part_refused : {o : Out (List Insn)} {b : List ℕ} {q : Refusal} → o ≡ Err q → Generates o b b (Err q)
part_refused e = record { counts = record { answer = rw e; few = omega arith }; part = rw e }

module _ {o : Out (List Insn)} {d e : Emitter} (h : Held o d e) (cap : e.count ≤ 65536) where
  held_counts : Counts o (Ok e.count)
  held_counts = record { answer = rw h.eq (ap Ok h.holds.count); few = cap }

  pub part_short : {b : List ℕ} → length b < 8 * e.count → Generates o b b (Ok e.count)
  part_short {b} s = let t = lt-ltb (length b) (8 * length h.made) (rw h.holds.count at s) in record { counts = held_counts; part = rw (h.eq, t) }

  pub part_written : {b b' : List ℕ} → 8 * e.count ≤ length b → e.count ≤ length e.insns.now
      → b' ≡ program_bytes (take e.count e.insns.now) ++ drop (8 * e.count) b → Generates o b b' (Ok e.count)
  part_written {b} s i w =
      let t = le-ltb (length b) (8 * length h.made) (rw h.holds.count at s) in
      record { counts = held_counts; part = rw (h.eq, t) (w ∙ rw (h.holds.insns i, h.holds.count)) }

-- ---- arrays for so many records

-- the most lines of a tree of n records
abbrev lines_of : ℕ → ℕ
lines_of n = 60 * (suc n / 2) + suc n - 25

most_lines : (s : List ℕ) (most : ℕ) → Stands s → File.count_of s ≤ most → weight (tree_of s 0) ≤ lines_of most
most_lines s most c few = omega (arith, weight_records (tree_of s 0), c.size)

pub suffices : {s : List ℕ} {n l j lent : ℕ} (most : ℕ) → Stands s → File.count_of s ≤ most → (2 < most → most ≤ n) → lines_of most ≤ j → lines_of most + 2 ≤ l
    → lines_of most ≤ 65534 → n ≤ 4096 → l ≤ 4096 → j ≤ 4096 → Suffices s n l j lent
suffices {s} most c few m y i cap a b d =
    let w = most_lines s most c few in
    record { notes = λ k. omega (arith, m (omega arith)); jumps = omega arith; places = omega arith; lines = λ k. omega arith; few = (a, b, d) }

-- an emitter over arrays that suffice
pub ready : {L : LinkType} {s : List ℕ} {M : List Note} {I : MutBor (List Insn)} {Y N : MutBor (List Patch)} {n l j lent : ℕ} {e : Emitter} → Stands s → Suffices s n l j lent
    → length M ≡ n → length Y.now ≡ j → length N.now ≡ j → Lent L I Y N e → Ready s M e.success.now e.failure.now
ready c z m y k h = record {
  noting = record { here = c.here; notes = λ w. omega (arith, z.notes w, m) };
  proper = c.proper;
  insns = z.places;
  successes = omega (arith, z.jumps, y, ap length h.won);
  failures = omega (arith, z.jumps, k, ap length h.lost);
}

-- ---- what a caller is told

never : {A : Type 0} {r : Refusal} {n : ℕ} → ◌≡◌ {A = (Out ℕ)} (Err r) (Ok n) → A
never e = let z : ◌≡◌ {A = ℕ} 0 1 = cc in absurd (omega arith)

-- the program of a count
pub record Made (o : Out (List Insn)) (n : ℕ) : Type 0 where
  pub insns : List Insn
  pub eq : o ≡ Ok insns
  pub size : n ≡ length insns

made_by : (o : Out (List Insn)) (n : ℕ) → Ok n ≡ counted o → Made o n
made_by (Err r) n e = never (sym e)
made_by (Ok p) n e = record { insns = p; eq = refl; size = cc }

turned_by : (o : Out (List Insn)) (q : Refusal) → Err q ≡ counted o → o ≡ Err q
turned_by (Err r) q e = cc
turned_by (Ok p) q e = never e

module _ {o : Out (List Insn)} {r : Out ℕ} (g : Counts o r) where
  pub made : {n : ℕ} → r ≡ Ok n → Made o n
  made {n} e = made_by o n (sym e ∙ g.answer)

  pub turned : {q : Refusal} → r ≡ Err q → o ≡ Err q
  turned {q} e = turned_by o q (sym e ∙ g.answer)

  pub few : {n : ℕ} → r ≡ Ok n → n ≤ 65536
  few e = rw e at g.few
