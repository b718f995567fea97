-- Demands 1 and 3 hold of every tree file.
use Rattle.std.specs.Prelude.{Ok, Err}
use Prim.Native.Nat.{ℕ, ◌+◌, ◌*◌, ◌-◌, ◌≤◌, ◌<◌}
use mathlib.Core.Path.{◌≡◌, refl, sym, ap, ◌∙◌, subst}
use mathlib.Core.List.{List, ◌∷◌, ◌++◌}
use mathlib.Core.Bool.{Bool, true, false, cond}
use mathlib.Core.Logic.{◌↔◌, ◌⊎◌, inl, inr, ⊎_map}
use mathlib.Core.Logic.Iff as Iff
use native.Mathlib.Omega.{arith}
use lib.ListN.{length, replicate, take, drop, take-append-drop}
use lib.Seq.{take_at, take-length}
use lib.Dec.{T}
use borrow.Author.Tests.{ltb-false, ltb-true, lt-ltb, le-ltb}
use Rattle.error.specs.declared.Refusal.{Refusal}
use Rattle.error.specs.declared.Refusal.TheVariants.{ShortBuffer}
use Rattle.error.specs.Answer.{Out, number_of, Numbered}
use Rattle.error.proofs.Among.{within, numbered_more}
use Rattle.error.proofs.All.{All, all_bind, all_of, Turned, turned_bind, turned_map}
use Rattle.bpf.specs.declared.Insn.{Insn}
use Rattle.bpf.specs.Bytes.{AreBytes}
use Rattle.bpf.specs.Program.{insn, program_bytes, insn_at, targets, Each}
use Rattle.bpf.proofs.Programs.{length_program, program_at}
use Rattle.vm.specs.declared.Verdict.{Verdict}
use Rattle.vm.specs.declared.Verdict.TheVariants.{Accepted, Dropped, Short}
use Rattle.vm.specs.Machine.{inner, run}
use Rattle.vm.proofs.Steps.{inner_steps}
use Rattle.vm.proofs.Bytes.{run_program}
use Rattle.ast.specs.declared.LinkType.{LinkType}
use Rattle.ast.specs.File.{Filter, header, parse}
use Rattle.ast.proofs.Refusals.{early, parse_turned}
use Rattle.ast.proofs.Bounds.{parse_proper, parse_header}
use Rattle.direct.specs.Reading.{network_start, reads}
use Rattle.direct.specs.Direct.{direct}
use Rattle.codegen.specs.Compile.{compile}
use Rattle.codegen.proofs.Conditions.{start}
use Rattle.codegen.proofs.Refusals.{late, compile_turned}
use Rattle.codegen.proofs.Sound.{Sound, compile_sound}
use Rattle.codegen.proofs.Tells.{Tells, compile_tells}
use Rattle.build.specs.Build.{rejected, placed, too_short, into, program, build}
use Rattle.build.specs.Demands as D
use Rattle.build.specs.Demands.{build_numbers, Calls, Kept, Frame, Begins, Demand1, Demand3, Demands}

-- ---- the definitions' own answers, of which the demands are proved first

abbrev pub defined : List ℕ → Calls
defined T = record { answer = λ lent. (build T lent).answer; buffer = λ lent. (build T lent).buffer; ran = run; read = direct T }

abbrev Answers : List ℕ → ℕ → ℕ → Type 0
Answers T = D.Answers (defined T)

abbrev program_of : List ℕ → ℕ → ℕ → List ℕ
program_of T = D.program_of (defined T)

-- ---- a file's program

-- what holds of a file's program p
record Met (T : List ℕ) (p : List Insn) : Type 0 where
  filter : Filter
  parsed : parse T ≡ Ok filter
  sound : Sound filter.link p
  tells : (f : List ℕ) → AreBytes f → Tells (reads filter.link f filter.tree) (inner p f).verdict

program_met : (T : List ℕ) → AreBytes T → All (Met T) (program T)
unfolding program
program_met T z =
    all_bind (λ t. parse T ≡ Ok t) (Met T) (parse T) _ (all_of _ (parse T) (λ t e. e))
    (λ t e. all_of (Met T) (compile t.link t.tree)
    (λ p c.
    record {
      filter = t;
      parsed = e;
      sound = rw c at (compile_sound t.link t.tree (parse_proper T z t e).0 (parse_proper T z t e).1);
      tells = λ f b. rw c at (compile_tells t.link t.tree (parse_proper T z t e).0 f b);
    }))

-- ---- what a build left

-- a build that answered a count: its program, which is then in the buffer
pub record Left (o : Out (List Insn)) (lent count : ℕ) : Type 0 where
  pub insns : List Insn
  pub is : o ≡ Ok insns
  pub size : length insns ≡ count
  pub fits : 8 * count ≤ lent
  pub bytes : take (8 * count) (into lent o).buffer ≡ program_bytes insns

pub never : {A : Type 0} {r : Refusal} {c : ℕ} → ◌≡◌ {A = (Out ℕ)} (Err r) (Ok c) → A
never e = let z : ◌≡◌ {A = ℕ} 0 1 = cc in absurd (omega arith)

pub left : (o : Out (List Insn)) (lent count : ℕ) → (into lent o).answer ≡ Ok count → Left o lent count
left (Err r) lent count e = never e
left (Ok p) lent count e = go (too_short lent p) refl e
  where
    go : (b : Bool) → too_short lent p ≡ b → (cond b (rejected lent ShortBuffer) (placed lent p)).answer ≡ Ok count → Left (Ok p) lent count
    go true t e = never e
    go false t e =
        let size : length p ≡ count = cc in
        record {
          insns = p;
          is = refl;
          size = size;
          fits = omega (arith, ltb-false lent (8 * length p) t);
          bytes = rw t (take_at (program_bytes p) (replicate (lent - 8 * length p) 0) (8 * count) (length_program p ∙ ap (λ n. 8 * n) size));
        }

-- and the room that its program has
pub fits : (T : List ℕ) (lent count : ℕ) → ◌≡◌ {A = Out ℕ} (Ok count) (build T lent).answer → 8 * count ≤ lent
unfolding build
fits T lent count e = (left (program T) lent count (sym e)).fits

-- more lent, or less
pub more : (p : List Insn) (lent : ℕ) → 8 * length p ≤ lent → (into lent (Ok p)).answer ≡ Ok (length p)
more p lent h = rw (le-ltb lent (8 * length p) h)

less : (p : List Insn) (lent : ℕ) → lent < 8 * length p → (into lent (Ok p)).answer ≡ Err ShortBuffer
less p lent h = rw (lt-ltb lent (8 * length p) h)

-- a build that was refused leaves zeros, and only 9 depends on what is lent
zeroed : (o : Out (List Insn)) (lent : ℕ) (r : Refusal) → (into lent o).answer ≡ Err r → (into lent o).buffer ≡ replicate lent 0
zeroed (Err s) lent r e = refl
zeroed (Ok p) lent r e = go (too_short lent p) e
  where
    go : (b : Bool) → (cond b (rejected lent ShortBuffer) (placed lent p)).answer ≡ Err r → (cond b (rejected lent ShortBuffer) (placed lent p)).buffer ≡ replicate lent 0
    go true e = refl
    go false e = never (sym e)

pub refusal : {r s : Refusal} → ◌≡◌ {A = (Out ℕ)} (Err r) (Err s) → r ≡ s
refusal e = cc

steady : (o : Out (List Insn)) (lent : ℕ) (r : Refusal) → (into lent o).answer ≡ Err r → ¬ (number_of r ≡ 9) → (other : ℕ) → (into other o).answer ≡ Err r
steady (Err s) lent r e h other = e
steady (Ok p) lent r e h other = go (too_short lent p) e
  where
    go : (b : Bool) → (cond b (rejected lent ShortBuffer) (placed lent p)).answer ≡ Err r → (into other (Ok p)).answer ≡ Err r
    go true e = absurd (h (sym (ap number_of (refusal e))))
    go false e = never (sym e)

-- the number of a refusal

-- of a tree file's own
unfoldable pub own : List ℕ
own = early ++ late

unfoldable pub Own : Refusal → Type 0
Own = Numbered own

pub program_turned : (T : List ℕ) → Turned Own (program T)
unfolding program Own own
program_turned T =
    turned_bind Own (parse T) _ (turned_map _ Own (parse T) (numbered_more early own tt) (parse_turned T))
    (λ t. turned_map _ Own (compile t.link t.tree) (numbered_more late own tt) (compile_turned t.link t.tree))

numbered : (o : Out (List Insn)) (lent : ℕ) (r : Refusal) → Turned Own o → (into lent o).answer ≡ Err r → Numbered build_numbers r
unfolding Own own
numbered (Err s) lent r h e = rw (← refusal e) (numbered_more own build_numbers tt s h)
numbered (Ok p) lent r h e = go (too_short lent p) e
  where
    go : (b : Bool) → (cond b (rejected lent ShortBuffer) (placed lent p)).answer ≡ Err r → Numbered build_numbers r
    go true e = rw (← refusal e) tt
    go false e = never (sym e)

-- and none of these is left over
narrow : T (within build_numbers (9 ∷ own))
unfolding own
narrow = tt

-- 9 is not one of them
last_of : (o : Out (List Insn)) (lent : ℕ) → Turned Own o → (into lent o).answer ≡ Err ShortBuffer
    → (count : ℕ) × (lent < 8 * count) × ((into (8 * count) o).answer ≡ Ok count)
unfolding Own own
last_of (Err s) lent h e = absurd (subst (Numbered own) (refusal e) h)
last_of (Ok p) lent h e = go (too_short lent p) refl e
  where
    go : (b : Bool) → too_short lent p ≡ b → (cond b (rejected lent ShortBuffer) (placed lent p)).answer ≡ Err ShortBuffer
        → (count : ℕ) × (lent < 8 * count) × ((into (8 * count) (Ok p)).answer ≡ Ok count)
    go true t e = (length p, ltb-true lent (8 * length p) t, more p (8 * length p) (omega arith))
    go false t e = never (sym e)

same_program : {o : Out (List Insn)} {p q : List Insn} → o ≡ Ok p → o ≡ Ok q → p ≡ q
same_program e h = cc

-- ---- verdicts

-- a verdict that is not short tells the reading b
told : (b : Bool) (v : Verdict) → Tells b v → (v ≡ Short → ⊥) → v ≡ cond b Accepted Dropped
told b v (inl e) h = absurd (h e)
told b v (inr e) h = e

accepts : (b : Bool) (v : Verdict) → v ≡ cond b Accepted Dropped → (v ≡ Accepted) ↔ (◌≡◌ {A = (Out Bool)} (Ok b) (Ok true))
accepts true v e = (λ p. refl, λ p. e)
accepts false v e = (λ p. let q : ◌≡◌ {A = ℕ} 0 1 = cc in absurd (omega arith), λ p. let q : ◌≡◌ {A = ℕ} 0 1 = cc in absurd (omega arith))

drops : (b : Bool) (v : Verdict) → v ≡ cond b Accepted Dropped → (v ≡ Dropped) ↔ (◌≡◌ {A = (Out Bool)} (Ok b) (Ok false))
drops true v e = (λ p. let q : ◌≡◌ {A = ℕ} 0 1 = cc in absurd (omega arith), λ p. let q : ◌≡◌ {A = ℕ} 0 1 = cc in absurd (omega arith))
drops false v e = (λ p. refl, λ p. e)

one_of : (b : Bool) (v : Verdict) → v ≡ cond b Accepted Dropped → (v ≡ Accepted) ⊎ (v ≡ Dropped)
one_of true v e = inl e
one_of false v e = inr e

accepted_short : (v : Verdict) → v ≡ Accepted → v ≡ Short → ⊥
accepted_short v p q = let r : ◌≡◌ {A = ℕ} 0 1 = cc in omega arith

same_link : {o : Out LinkType} {l m : LinkType} → o ≡ Ok l → o ≡ Ok m → l ≡ m
same_link e h = cc

-- ---- the demands

module _ (T : List ℕ) (z : AreBytes T) where
  -- an answered build: its program p, and what holds of it
  record Program (lent count : ℕ) : Type 0 where
    p : List Insn
    is : program T ≡ Ok p
    met : Met T p
    size : length p ≡ count
    bytes : program_of T lent count ≡ program_bytes p
    runs : (F : List ℕ) → length F ≤ 65535 → run (program_of T lent count) F ≡ Ok (inner p F)

  answered : (lent count : ℕ) → Answers T lent count → Program lent count
  unfolding build
  answered lent count a =
      let l = left (program T) lent count a in
      let m : Met T l.insns = rw l.is at (program_met T z) in
      record {
        p = l.insns;
        is = l.is;
        met = m;
        size = l.size;
        bytes = l.bytes;
        runs = λ F h. rw l.bytes (run_program l.insns m.sound.fields (omega (arith, m.sound.least)) (omega (arith, m.sound.most)) F h);
      }

  -- the build of a file that has the program p
  built : (p : List Insn) → program T ≡ Ok p → (lent : ℕ) → build T lent ≡ into lent (Ok p)
  unfolding build
  built p e lent = ap (into lent) e

  demand_1 : Demand1 (defined T)
  demand_1 =
      record {
        yields = λ lent count a. let q = answered lent count a in omega (arith, q.met.sound.least, q.met.sound.most, q.size);
        jumps = λ lent count a i h. let q = answered lent count a in jumps_at q i h;
        stops = λ lent count a F h. let q = answered lent count a in (inner q.p F, q.runs F h, omega (arith, inner_steps q.p F, q.size));
        refuses = λ lent r e. unfold build in numbered (program T) lent r (program_turned T) e;
        enough = λ lent count a other h. let q = answered lent count a in enough_at q other h;
        short = λ lent count a other h. let q = answered lent count a in short_at q other h;
        last = λ lent e. unfold build in last_of (program T) lent (program_turned T) e;
        fixed = λ lent r e h other. unfold build in steady (program T) lent r e h other;
        zeroes = λ lent r e. unfold build in zeroed (program T) lent r e;
      }
    where
      jumps_at : {lent count : ℕ} (q : Program lent count) (i : ℕ) → i < count
          → Each (λ target. (i < target) × (target < count)) (targets i (insn_at (8 * i) (program_of T lent count)))
      jumps_at q i h =
          let k : i < length q.p = omega (arith, q.size) in
          rw (q.bytes, program_at q.p i (insn 0 0 0 0) k q.met.sound.fields) (rw q.size at (q.met.sound.jumps i k (insn 0 0 0 0)))

      enough_at : {lent count : ℕ} (q : Program lent count) (other : ℕ) → 8 * count ≤ other → Answers T other count × (program_of T other count ≡ program_of T lent count)
      enough_at {lent} {count} q other h =
          let b : Answers T other count = rw (built q.p q.is other) (more q.p other (omega (arith, q.size)) ∙ ap Ok q.size) in
          let o = answered other count b in
          (b, o.bytes ∙ ap program_bytes (same_program o.is q.is) ∙ sym q.bytes)

      short_at : {lent count : ℕ} (q : Program lent count) (other : ℕ) → other < 8 * count → (build T other).answer ≡ Err ShortBuffer
      short_at q other h = rw (built q.p q.is other) (less q.p other (omega (arith, q.size)))

  -- the direct reading of the file, on a frame within the limit
  reading : (t : Filter) → parse T ≡ Ok t → (F : List ℕ) → length F ≤ 65535 → direct T F ≡ Ok (reads t.link F t.tree)
  unfolding direct
  reading t e F h = rw (e, le-ltb 65535 (length F) h)

  module _ (lent count : ℕ) (q : Program lent count) where
    abbrev P : List ℕ
    P = program_of T lent count

    abbrev verdict : List ℕ → Verdict
    verdict F = (inner q.p F).verdict

    -- the verdict of a run within the limit
    gets : (F : List ℕ) → length F ≤ 65535 → (v : Verdict) → D.Gets (defined T) P F v ↔ (verdict F ≡ v)
    gets F h v = (λ g. rw (q.runs F h) at g, λ g. rw (q.runs F h) g)

    not_short : (F : List ℕ) → length F ≤ 65535 → ¬ D.ReadsPast (defined T) P F → verdict F ≡ Short → ⊥
    not_short F h n e = n ((gets F h Short).1 e)

    -- a run that is not short is the same on a frame that begins so
    grows : (F G : List ℕ) → Begins G F → (verdict F ≡ Short → ⊥) → verdict G ≡ verdict F
    grows F G b n =
        ap verdict (sym (take-append-drop (length F) G) ∙ ap (λ s. s ++ drop (length F) G) b) ∙ ap (λ o. o.verdict) (q.met.sound.grows F (drop (length F) G) n)

    decides : (F G : List ℕ) → Frame F → Frame G → Begins G F → (verdict F ≡ Short → ⊥) → D.Decided (defined T) P F G
    decides F G f g b n =
        let t = q.met.filter in
        let same = grows F G b n in
        let r = reads t.link G t.tree in
        let e : verdict F ≡ cond r Accepted Dropped = sym same ∙ told r (verdict G) (q.met.tells G g.0) (λ s. n (sym same ∙ s)) in
        let d = reading t q.met.parsed G g.1 in
        record {
          accepted = rw d (Iff.trans (gets F f.1 Accepted) (accepts r (verdict F) e));
          dropped = rw d (Iff.trans (gets F f.1 Dropped) (drops r (verdict F) e));
          either = ⊎_map (gets F f.1 Accepted).1 (gets F f.1 Dropped).1 (one_of r (verdict F) e);
        }

    linked : header T ≡ Ok q.met.filter.link
    linked = parse_header T q.met.filter q.met.parsed

    all_of_it : (F : List ℕ) → Begins F F
    all_of_it F = take-length F

    long : (F : List ℕ) (link : LinkType) → header T ≡ Ok link → network_start link + 64 ≤ length F → verdict F ≡ Short → ⊥
    long F link e h =
        let t = q.met.filter in
        let same : link ≡ t.link = same_link e linked in
        q.met.sound.long F (omega (arith, ap network_start same, start t.link))

    demand_3 : (F G : List ℕ) → Frame F → Frame G → Begins G F → Demand3 T (defined T) P F G
    demand_3 F G f g b =
        record {
          same = λ n v. let e = grows F G b (not_short F f.1 n) in
              (λ h. (gets G g.1 v).1 (e ∙ (gets F f.1 v).0 h), λ h. (gets F f.1 v).1 (sym e ∙ (gets G g.1 v).0 h));
          decided = λ n. decides F G f g b (not_short F f.1 n);
          monotone = λ h.
              let k = (gets F f.1 Accepted).0 h in
              (gets G g.1 Accepted).1 (grows F G b (accepted_short (verdict F) k) ∙ k);
          reaches = (q.met.filter.link, linked, λ h r. long F q.met.filter.link linked h ((gets F f.1 Short).0 r));
          there = λ link e h. decides F F f f (all_of_it F) (long F link e h);
        }

-- the promises can be kept: the definitions' own answers keep them
pub kept : (T : List ℕ) → Kept T (defined T)
kept T = record { answers = λ lent. refl; leaves = λ lent. refl; runs = λ P F. refl; reads = λ F. refl }

-- and no other calls do
pub kept_only : (T : List ℕ) (c : Calls) → Kept T c → c ≡ defined T
kept_only T c k i = record { answer = λ lent. k.answers lent i; buffer = λ lent. k.leaves lent i; ran = λ P F. k.runs P F i; read = λ F. k.reads F i }

-- demands 1 and 3, of every tree file and of all calls that keep their promises
pub demands : (T : List ℕ) → AreBytes T → (c : Calls) → Kept T c → Demands T c
demands T z c k =
    subst (Demands T) (sym (kept_only T c k))
    (record { first = demand_1 T z; third = λ lent count a. demand_3 T z lent count (answered T z lent count a) })
