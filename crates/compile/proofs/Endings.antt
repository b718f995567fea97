-- The open exits of a program's block go to the two returns.
use Rattle.std.proofs.Common.{◌≡◌, refl, sym, ap, ◌∙◌, List, [], ◌∷◌, ◌++◌, map, length, take, set, Bool, true, false, cond, ℕ, suc, ◌+◌, ◌<◌, ◌≤◌, subst, append_assoc, add-one, arith, Ok, Err}
use mathlib.Core.Logic.{⊎_elim}
use Rattle.std.proofs.lemmas.Bool.{or_cases, or_right}
use Rattle.std.proofs.lemmas.List.{length-map}
use lib.Dec.{ltb}
use borrow.Author.Tests.{ltb-true}
use lib.ListN.{drop, length-append, length-set}
use lib.Seq.{take-suc-set}
use Rattle.error.specs.declared.Refusal.{Refusal}
use Rattle.error.specs.declared.Refusal.TheVariants.{FarJump}
use Rattle.error.specs.Answer.{Out, ◌>>=◌}
use Rattle.bpf.specs.declared.Insn.{Insn}
use Rattle.bpf.specs.Program.{insn}
use Rattle.codegen.specs.declared.Side.{Side}
use Rattle.codegen.specs.declared.Side.TheVariants.{Success, Failure}
use Rattle.codegen.specs.declared.Exit.{Exit}
use Rattle.codegen.specs.declared.Exit.TheVariants.{Skip, Leave}
use Rattle.codegen.specs.declared.Line.{Line}
use Rattle.codegen.specs.declared.Line.TheVariants.{Plain, Branch, Jump}
use Rattle.codegen.specs.Block.{Block, swap, swap_line, settle, distance, far, far_line, resolved, assemble}
use Rattle.codegen.specs.Emit.{Code, emit}
use Rattle.codegen.specs.Compile.{entry_facts, finished, returns, compile}
use Rattle.emit.specs.declared.Emitter.{Emitter}
use Rattle.emit.specs.Lines.{Below, waiting, assembled}
use Rattle.emit.specs.Grown.{Answers, Empty, Lent, Kept, Room, Put, Grew, Replies, Open, len_of, row_of, Settled, coded}
use Rattle.emit.proofs.Settling.{Held, before_end, told, settled, below_more}
use Rattle.emit.proofs.Joins.{Near, settled_near}
use Rattle.emit.proofs.Grow.{kept_then, Sized}
use Rattle.codegen.proofs.Shape.{weight}
use Rattle.reader.specs.Reader.{tree_of}
use Rattle.guards.specs.declared.Note.{Note}
use Rattle.ast.specs.declared.LinkType.{LinkType}
use Rattle.ast.specs.Tree.{Expr}
use Rattle.compile.specs.Walks.{Programs, Counts, Ready, Ended, Holds, Compiles}

-- ---- what is far stays far

far_exit : (e : Side) (n : ℕ) (q : Exit) → ltb 255 (distance q) ≡ true → ltb 255 (distance (swap e (Skip n) q)) ≡ true
far_exit e n (Skip m) h = h
far_exit e n (Leave p) h = absurd (omega (arith, ltb-true 255 0 h))

far_line_lem : (e : Side) (n : ℕ) (l : Line) → far_line l ≡ true → far_line (swap_line e (Skip n) l) ≡ true
far_line_lem e n (Plain o) h = h
far_line_lem e n (Branch t k s q) h = far_exit e n q h
far_line_lem e n (Jump q) h = far_exit e n q h

far_settle : (e : Side) (d : ℕ) (B : Block) → far B ≡ true → far (settle e d B) ≡ true
unfolding far settle
far_settle e d [] h = h
far_settle e d (l ∷ B) h =
    ⊎_elim (λ f. rw (far_line_lem e (length B + d) l f)) (λ f. or_right (far_line (swap_line e (Skip (length B + d)) l)) (far (settle e d B)) (far_settle e d B f)) (or_cases (far_line l) (far B) h)

-- ---- the two settlings, of a block that was added from the start

refused_is : (b : Bool) {q : Refusal} → ◌≡◌ {A = Out (Unit {0})} (cond b (Err FarJump) (Ok tt)) (Err q) → (b ≡ true) × (q ≡ FarJump)
refused_is true e = (refl, cc)
refused_is false e = cc

-- the second settling's pending jumps
pub second_open : {e f : Emitter} {r : Out (Unit {0})} → Ended e → Settled Success 0 0 e f r → r ≡ Ok tt → Open Failure 0 1 f
second_open {e} {f} h z p =
    let c = rw p at z.cut in
    record {
      most = omega (arith, h.insns, z.count);
      mark = omega arith;
      room = omega (arith, c.1, h.failures, ap length z.lost);
      below = rw (c.1, z.lost) (below_more e.count (f.count + 1) (drop 0 (waiting e.failures e.failure.now)) (omega (arith, z.count)) h.lost);
    }

module _ {e f : Emitter} {r : Out (Unit {0})} (z : Settled Success 0 0 e f r) (c : Code) (d : Emitter) (s : Empty d) (g : Grew c d e) where
  first : Replies (coded e.facts (resolved (settle Success 0 c.block))) d f r
  first = settled g 0 Success (omega (arith, s.success)) (subst (λ (m : ℕ). Settled Success m 0 e f r) (sym s.success) z)

  pub first_refused : {q : Refusal} → r ≡ Err q → Compiles (resolved (finished c.block) >>= λ b. Ok (map assemble b ++ returns)) d f (Err q)
  unfolding finished
  first_refused p =
      let w = refused_is (far (settle Success 0 c.block)) (sym (told g 0 Success (omega (arith, s.success)) (subst (λ (m : ℕ). Settled Success m 0 e f r) (sym s.success) z)) ∙ p) in
      rw (far_settle Failure 1 (settle Success 0 c.block) w.0, w.1) (record { is = refl; kept = kept_then g.kept z.kept })

  module _ (p : r ≡ Ok tt) {h : Emitter} {t : Out (Unit {0})} (y : Settled Failure 0 1 f h t) where
    once : Near (settle Success 0 c.block) e.facts d f
    once = settled_near (settle Success 0 c.block) e.facts d f first p

    pub second_refused : {q : Refusal} → t ≡ Err q → Compiles (resolved (finished c.block) >>= λ b. Ok (map assemble b ++ returns)) d h (Err q)
    unfolding finished
    second_refused o =
        let w = refused_is (far (finished c.block)) (sym (told once.grew 1 Failure (omega (arith, s.failure)) (subst (λ (m : ℕ). Settled Failure m 1 f h t) (sym s.failure) y)) ∙ o) in
        rw (w.0, w.1) (record { is = refl; kept = kept_then once.grew.kept y.kept })

    twice : t ≡ Ok tt → Near (finished c.block) f.facts d h
    unfolding finished
    twice o = settled_near (finished c.block) f.facts d h (settled once.grew 1 Failure (omega (arith, s.failure)) (subst (λ (m : ℕ). Settled Failure m 1 f h t) (sym s.failure) y)) o

    take_two : (I : List Insn) (n : ℕ) (v w : Insn) → n + 1 + 1 ≤ length I → take (n + 1 + 1) (set (set I n v) (n + 1) w) ≡ take n I ++ (v ∷ w ∷ [])
    take_two I n v w k =
        let J = set I n v in
        let a : take (n + 1) J ≡ take n I ++ (v ∷ []) = rw (add-one, take-suc-set I n v (omega arith)) in
        let m : n + 1 < length J = simp length-set (omega arith) in
        let b : n + 1 + 1 ≡ suc (n + 1) = omega arith in
        rw (b, take-suc-set J (n + 1) w m) (rw a (append_assoc (take n I) (v ∷ []) (w ∷ [])))

    pub program : t ≡ Ok tt → {i j : Emitter} → Put (insn 0x06 0 0 0xffff_ffff) h i → Put (insn 0x06 0 0 0) i j
        → Compiles (resolved (finished c.block) >>= λ b. Ok (map assemble b ++ returns)) d j (Ok tt)
    program o {i} {j} u v =
        let n = twice o in
        let b = finished c.block in
        let m = length-map b assemble in
        let kept : Kept d j = kept_then n.grew.kept (kept_then u.kept v.kept) in
        rw n.near (record {
          is = record {
            row = kept.row;
            count = rw (length-append, m) (omega (arith, v.count, u.count, n.grew.insns, s.count));
            insns = λ k.
                let e₁ = length-set h.insns.now h.count (insn 0x06 0 0 0xffff_ffff) in
                let e₂ = length-set (set h.insns.now h.count (insn 0x06 0 0 0xffff_ffff)) (h.count + 1) (insn 0x06 0 0 0) in
                let z = (rw (u.insns, u.count) at v.insns) in
                let l : h.count + 1 + 1 ≤ length h.insns.now = omega (arith, k, v.count, u.count, ap length z, e₁, e₂) in
                rw (v.count, z, u.count) (take_two h.insns.now h.count (insn 0x06 0 0 0xffff_ffff) (insn 0x06 0 0 0) l
                ∙ ap (λ (x : List Insn). x ++ returns) (n.grew.lines (omega (arith, l)) ∙ ap (λ (m : ℕ). take m d.insns.now ++ assembled b) s.count));
          };
          kept = kept;
        })

-- ---- the walk's start

-- e stands over what is lent to d
abbrev pub Begun : Emitter → Emitter → Type 0
Begun d e = Lent d.link d.insns d.success d.failure e

begun_kept : {d e : Emitter} → Begun d e → Kept d e
begun_kept l = record {
  same_insns = l.same_insns;
  same_won = l.same_won;
  same_lost = l.same_lost;
  row = ap length l.insns;
  won_room = ap length l.won;
  lost_room = ap length l.lost;
  link = l.link;
}

pub begun_room : {s : List ℕ} {M : List Note} (d : Emitter) {e : Emitter} → Ready s M d.success.now d.failure.now → Empty e → Begun d e → Room (weight (tree_of s 0)) e
begun_room d r z l = record {
  insns = omega (arith, r.insns, z.count);
  writings = omega (arith, r.insns, z.x_writes);
  failures = omega (arith, r.failures, z.failure, ap length l.lost);
  successes = omega (arith, r.successes, z.success, ap length l.won);
}

-- what was compiled from there
of_row : (d e f : Emitter) → e.insns.now ≡ d.insns.now → (o : Out (List Insn)) (r : Out (Unit {0})) → Answers o (λ p. Holds p e f) r → Answers o (λ p. Holds p d f) r
of_row d e f z (Ok p) (Ok u) h = record { row = h.row ∙ ap length z; count = h.count; insns = h.insns }
of_row d e f z (Ok p) (Err q) h = h
of_row d e f z (Err q) (Ok u) h = h
of_row d e f z (Err q) (Err k) h = h

pub compiled : (t : Expr) {d e f : Emitter} {r : Out (Unit {0})} → Begun d e → Compiles (compile e.link t) e f r → Compiles (compile d.link t) d f r
compiled t {d = d} {e = e} {f = f} {r = r} z h =
    subst (λ L. Compiles (compile L t) d f r) z.link (record { is = of_row d e f z.insns (compile e.link t) r h.is; kept = kept_then (begun_kept z) h.kept })

-- from the entry facts
pub compiled_down : (t : Expr) {e f : Emitter} {q : Refusal} → e.facts ≡ entry_facts e.link → emit e.link t e.facts ≡ Err q → Kept e f → Compiles (compile e.link t) e f (Err q)
unfolding compile
compiled_down t g h k = rw (← g, h) (record { is = refl; kept = k })

pub compiled_done : (t : Expr) {c : Code} {e f : Emitter} {r : Out (Unit {0})} → e.facts ≡ entry_facts e.link → emit e.link t e.facts ≡ Ok c
    → Compiles (resolved (finished c.block) >>= λ b. Ok (map assemble b ++ returns)) e f r → Compiles (compile e.link t) e f r
unfolding compile
compiled_done t g h k = rw (← g, h) k

-- ---- the walk's end

pub ended : {s : List ℕ} {M : List Note} {c : Code} (k : Emitter) {d e : Emitter} → Ready s M k.success.now k.failure.now → Empty d → Begun k d → Grew c d e → Sized (weight (tree_of s 0)) d e → Ended e
ended k {e = e} r o l g z = record {
  insns = omega (arith, z.insns, o.count, r.insns);
  successes = omega (arith, z.successes, o.success, r.successes, z.won_room, ap length l.won);
  failures = omega (arith, z.failures, o.failure, r.failures, z.lost_room, ap length l.lost);
  won = from_start Success g (omega (arith, o.success)) o.success;
  lost = from_start Failure g (omega (arith, o.failure)) o.failure;
}
  where
    from_start : (s : Side) {c : Code} {d e : Emitter} → Grew c d e → Held s d → (len_of s d) ≡ 0 → Below e.count (drop 0 (waiting (len_of s e) (row_of s e)))
    from_start s {e = e} g h q =
        let b = before_end g s h 0 in
        let k : e.count + 0 ≡ e.count = omega arith in
        subst (λ (m : ℕ). Below e.count (drop m (waiting (len_of s e) (row_of s e)))) q (rw k at b)

-- ---- in a lent row

counts_of : (o : Out (List Insn)) (d e : Emitter) {I : List Insn} → I ≡ e.insns.now → Answers o (λ p. Holds p d e) (Ok tt) → Counts o I (Ok e.count)
counts_of (Ok p) d e q h = rw q (h.count, h.insns)
counts_of (Err r) d e q h = absurd h

refused_of : (o : Out (List Insn)) (d e : Emitter) (I : List Insn) (x : Refusal) → Answers o (λ p. Holds p d e) (Err x) → Counts o I (Err x)
refused_of (Ok p) d e I x h = absurd h
refused_of (Err r) d e I x h = h

module _ (t : Expr) {L : LinkType} {d e : Emitter} {r : Out (Unit {0})} (l : d.link ≡ L) (h : Compiles (compile d.link t) d e r) {I : List Insn} where
  pub program_in : r ≡ Ok tt → I ≡ e.insns.now → Programs (compile L t) I (Ok e.count)
  program_in p q = rw (← l) (record { is = counts_of (compile d.link t) d e q (rw p at h.is) })

  pub refused_in : {x : Refusal} → r ≡ Err x → Programs (compile L t) I (Err x)
  refused_in {x} p = rw (← l) (record { is = refused_of (compile d.link t) d e I x (rw p at h.is) })
