-- How blocks are added: nothing, one line, and one block after another.
use Rattle.std.proofs.Common.{◌≡◌, refl, ap, sym, ◌∙◌, List, [], ◌∷◌, ◌++◌, length, take, set, Bool, true, false, cond, ◌||◌, ℕ, suc, ◌+◌, ◌<◌, ◌≤◌, append_assoc, add-one, arith}
use Rattle.std.proofs.Math.Bool.{or_assoc}
use Rattle.std.proofs.Math.Seq.{take-suc-set}
use mir.Val.{bool_byte}
use lib.ListN.{length-append, length-set}
use mathlib.Core.List.{append-nil}
use native.Mathlib.Nat.{add-zero}
use Rattle.bpf.specs.declared.Insn.{Insn}
use Rattle.codegen.specs.declared.Side.{Side}
use Rattle.codegen.specs.declared.Side.TheVariants.{Success, Failure}
use Rattle.codegen.specs.declared.Exit.{Exit}
use Rattle.codegen.specs.declared.Exit.TheVariants.{Skip, Leave}
use Rattle.codegen.specs.declared.Line.{Line}
use Rattle.codegen.specs.declared.Line.TheVariants.{Jump}
use Rattle.codegen.specs.declared.Facts.{Facts}
use Rattle.codegen.specs.Block.{Block, same, far, far_line, sets_x, writes_x, assemble}
use Rattle.codegen.specs.Emit.{Code, code}
use Rattle.emit.specs.declared.Patch.{Patch}
use Rattle.emit.specs.declared.Emitter.{Emitter}
use Rattle.emit.specs.Lines.{assembled, exit_of, patch_of, pending, patches, writes}
use Rattle.emit.specs.Grown.{Space, Room, Fits, Kept, Apart, Put, Waits, Grew, Grows}

-- ---- what stays

pub kept_self : (e : Emitter) → Kept e e
kept_self e = record { same_insns = refl; same_won = refl; same_lost = refl; row = refl; won_room = refl; lost_room = refl; link = refl }

pub kept_then : {e f k : Emitter} → Kept e f → Kept f k → Kept e k
kept_then p q = record {
  same_insns = q.same_insns ∙ p.same_insns;
  same_won = q.same_won ∙ p.same_won;
  same_lost = q.same_lost ∙ p.same_lost;
  row = q.row ∙ p.row;
  won_room = q.won_room ∙ p.won_room;
  lost_room = q.lost_room ∙ p.lost_room;
  link = q.link ∙ p.link;
}

-- whatever else is known, and however often X was written before
pub kept_knowing : {e f : Emitter} (n : ℕ) (h : Facts) → Kept (record e { x_writes = n }) f → Kept e (record f { facts = h })
kept_knowing n h p = record {
  same_insns = p.same_insns;
  same_won = p.same_won;
  same_lost = p.same_lost;
  row = p.row;
  won_room = p.won_room;
  lost_room = p.lost_room;
  link = p.link;
}

-- ---- one line

put_one : (l : List Insn) {n : ℕ} (x : Insn) → n < length l → take (n + 1) (set l n x) ≡ take n l ++ (x ∷ [])
put_one l {n} x h = rw (add-one, take-suc-set)

bit : (b : Bool) → bool_byte b ≡ cond b 1 0
bit true = refl
bit false = refl

pub one_line : {e p f : Emitter} (l : Line) → Put (assemble l) e p
    → Waits (exit_of l) (patch_of l e.count) (record p { x_writes = p.x_writes + bool_byte (sets_x l) }) f → far_line l ≡ false → Grows (l ∷ []) e f
unfolding far
one_line {e} {p} {f} l h w n = record {
  insns = w.count ∙ h.count;
  successes = rw (w.won_len, h.won_len);
  failures = rw (w.lost_len, h.lost_len);
  writings = rw (w.x_writes, h.x_writes, bit (sets_x l)) (omega arith);
  near = rw n;
  lines = λ k. rw (w.count, w.insns, h.count, h.insns) (put_one e.insns.now (assemble l) (omega (arith, ap length w.insns, ap length h.insns, length-set e.insns.now e.count (assemble l), w.count, h.count)));
  won = rw (w.won, h.won);
  lost = rw (w.lost, h.lost);
  facts = w.facts ∙ h.facts;
  kept = kept_then h.kept (kept_knowing (p.x_writes + bool_byte (sets_x l)) f.facts w.kept);
}

-- a line leaves the rows that its jump does not wait in, as its instruction and its jump do
pub one_apart : {e p f : Emitter} (l : Line) → Put (assemble l) e p
    → Waits (exit_of l) (patch_of l e.count) (record p { x_writes = p.x_writes + bool_byte (sets_x l) }) f → Apart (exit_of l) e f
one_apart {e} {p} {f} l h w = by (exit_of l) w.apart
  where
    by : (x : Exit) → Apart x (record p { x_writes = p.x_writes + bool_byte (sets_x l) }) f → Apart x e f
    by (Skip d) a = (a.0 ∙ h.won_spared, a.1 ∙ h.lost_spared)
    by (Leave Success) a = a ∙ h.lost_spared
    by (Leave Failure) a = a ∙ h.won_spared

-- ---- a block, and a block after it

pub assembled_append : (A B : Block) → assembled (A ++ B) ≡ assembled A ++ assembled B
assembled_append [] B = refl
assembled_append (l ∷ A) B = ap (λ (x : List Insn). assemble l ∷ x) (assembled_append A B)

pub assembled_length : (B : Block) → length (assembled B) ≡ length B
assembled_length [] = refl
assembled_length (l ∷ B) = ap suc (assembled_length B)

cond_append : (b : Bool) (p : Patch) (x z : List Patch) → cond b (p ∷ (x ++ z)) (x ++ z) ≡ cond b (p ∷ x) x ++ z
cond_append true p x z = refl
cond_append false p x z = refl

pending_append : (s : Side) (p : Patch) (q : Exit) (x z : List Patch) → pending s p q (x ++ z) ≡ pending s p q x ++ z
pending_append s p (Skip n) x z = refl
pending_append s p (Leave q) x z = cond_append (same s q) p x z

pub patches_append : (s : Side) (i : ℕ) (A B : Block) → patches s i (A ++ B) ≡ patches s i A ++ patches s (i + length A) B
patches_append s i [] B = rw add-zero
patches_append s i (l ∷ A) B =
    let k : i + 1 + length A ≡ i + suc (length A) = omega arith in
    rw (patches_append s (i + 1) A B, k) (pending_append s (patch_of l i) (exit_of l) (patches s (i + 1) A) (patches s (i + suc (length A)) B))

cond_length : (b : Bool) (p : Patch) (n : ℕ) (x : List Patch) → length x ≤ n → length (cond b (p ∷ x) x) ≤ suc n
cond_length true p n x h = omega arith
cond_length false p n x h = omega arith

pending_length : (s : Side) (p : Patch) (n : ℕ) (q : Exit) (x : List Patch) → length x ≤ n → length (pending s p q x) ≤ suc n
pending_length s p n (Skip m) x h = omega arith
pending_length s p n (Leave q) x h = cond_length (same s q) p n x h

pub patches_length : (s : Side) (i : ℕ) (B : Block) → length (patches s i B) ≤ length B
patches_length s i [] = omega arith
patches_length s i (l ∷ B) = pending_length s (patch_of l i) (length B) (exit_of l) (patches s (i + 1) B) (patches_length s (i + 1) B)

pub writes_append : (A B : Block) → writes (A ++ B) ≡ writes A + writes B
writes_append [] B = omega arith
writes_append (l ∷ A) B = let h = writes_append A B in omega arith

bit_small : (b : Bool) → cond b 1 0 ≤ 1
bit_small true = omega arith
bit_small false = omega arith

pub writes_length : (B : Block) → writes B ≤ length B
writes_length [] = omega arith
writes_length (l ∷ B) = let h = writes_length B in omega (arith, bit_small (sets_x l))

-- a block that writes X so often, and whether it does
bit_none : (b w : Bool) (n : ℕ) → (n ≡ 0 → w ≡ false) → cond b 1 0 + n ≡ 0 → b || w ≡ false
bit_none true w n h e = absurd (omega arith)
bit_none false w n h e = h (omega arith)

bit_some : (b w : Bool) (n : ℕ) → ((n ≡ 0 → ⊥) → w ≡ true) → (cond b 1 0 + n ≡ 0 → ⊥) → b || w ≡ true
bit_some true w n h e = refl
bit_some false w n h e = h (λ k. e (omega arith))

pub writes_none : (B : Block) → writes B ≡ 0 → writes_x B ≡ false
unfolding writes_x
writes_none [] e = refl
writes_none (l ∷ B) e = bit_none (sets_x l) (writes_x B) (writes B) (writes_none B) e

pub writes_some : (B : Block) → (writes B ≡ 0 → ⊥) → writes_x B ≡ true
unfolding writes_x
writes_some [] e = absurd (e refl)
writes_some (l ∷ B) e = bit_some (sets_x l) (writes_x B) (writes B) (writes_some B) e

pub far_append : (A B : Block) → far (A ++ B) ≡ far A || far B
unfolding far
far_append [] B = refl
far_append (l ∷ A) B = ap (λ (b : Bool). far_line l || b) (far_append A B) ∙ sym (or_assoc (far_line l) (far A) (far B))

-- ---- blocks

pub none : (e : Emitter) → Grows [] e e
unfolding far
none e = record {
  insns = omega arith;
  successes = omega arith;
  failures = omega arith;
  writings = omega arith;
  near = refl;
  lines = λ h. rw append-nil;
  won = rw append-nil;
  lost = rw append-nil;
  facts = refl;
  kept = kept_self e;
}

-- lines that reach to a block's end reached to its start
pub reached : {c : Code} {e f : Emitter} → Grew c e f → f.count ≤ length f.insns.now → e.count ≤ length e.insns.now
reached g h = omega (arith, g.insns, g.kept.row)

pub then : {A : Block} {g : Facts} {c : Code} {e f k : Emitter} → Grew (code A g) e f → Grew c f k → Grew (code (A ++ c.block) c.facts) e k
then {A} {g} {c} {e} p q = record {
  insns = rw length-append (omega (arith, p.insns, q.insns));
  successes = rw (patches_append, length-append, ← p.insns) (omega (arith, p.successes, q.successes));
  failures = rw (patches_append, length-append, ← p.insns) (omega (arith, p.failures, q.failures));
  writings = rw writes_append (omega (arith, p.writings, q.writings));
  near = rw (far_append A c.block, p.near) q.near;
  lines = λ h. rw (q.lines h, p.lines (reached q h), assembled_append, append_assoc);
  won = rw (q.won, p.won, patches_append, append_assoc, ← p.insns);
  lost = rw (q.lost, p.lost, patches_append, append_assoc, ← p.insns);
  facts = q.facts;
  kept = kept_then p.kept q.kept;
}

-- other facts hold after a block
pub knowing : {b : Block} {g h h' : Facts} {e f : Emitter} → h' ≡ h → Grew (code b g) e f → Grew (code b h) e (record f { facts = h' })
knowing {h' = h'} {e = e} q p = record {
  insns = p.insns;
  successes = p.successes;
  failures = p.failures;
  writings = p.writings;
  near = p.near;
  lines = p.lines;
  won = p.won;
  lost = p.lost;
  facts = q;
  kept = kept_knowing e.x_writes h' p.kept;
}

-- the same with a block that learns nothing
pub grows_then : {A B : Block} {e f k : Emitter} → Grows A e f → Grows B f k → Grows (A ++ B) e k
grows_then p q = knowing (q.facts ∙ p.facts) (then p q)

-- at most n more of everything
pub record Sized (n : ℕ) (e f : Emitter) : Type 0 where
  pub insns : f.count ≤ e.count + n
  pub successes : f.successes ≤ e.successes + n
  pub failures : f.failures ≤ e.failures + n
  pub writings : f.x_writes ≤ e.x_writes + n
  pub insns₀ : e.count ≤ f.count
  pub successes₀ : e.successes ≤ f.successes
  pub failures₀ : e.failures ≤ f.failures
  pub writings₀ : e.x_writes ≤ f.x_writes
  pub won_room : length f.success.now ≡ length e.success.now
  pub lost_room : length f.failure.now ≡ length e.failure.now

pub sized : {c : Code} {e f : Emitter} (n : ℕ) → length c.block ≤ n → Grew c e f → Sized n e f
sized {c} {e} n h g =
    let y = patches_length Success e.count c.block in
    let f = patches_length Failure e.count c.block in
    let x = writes_length c.block in
    record {
      insns = omega (arith, g.insns);
      successes = omega (arith, g.successes);
      failures = omega (arith, g.failures);
      writings = omega (arith, g.writings);
      insns₀ = omega (arith, g.insns);
      successes₀ = omega (arith, g.successes);
      failures₀ = omega (arith, g.failures);
      writings₀ = omega (arith, g.writings);
      won_room = g.kept.won_room;
      lost_room = g.kept.lost_room;
    }

-- what is left of the room
pub space_left : (m : ℕ) {n k : ℕ} {e f : Emitter} → m + k ≤ n → Space n e → Sized m e f → Space k f
space_left m h r z = record {
  insns = omega (arith, r.insns, z.insns);
  writings = omega (arith, r.writings, z.writings);
  failures = omega (arith, r.failures, z.failures, z.lost_room);
}

pub room_left : (m : ℕ) {n k : ℕ} {e f : Emitter} → m + k ≤ n → Room n e → Sized m e f → Room k f
room_left m h r z = record {
  insns = omega (arith, r.insns, z.insns);
  writings = omega (arith, r.writings, z.writings);
  failures = omega (arith, r.failures, z.failures, z.lost_room);
  successes = omega (arith, r.successes, z.successes, z.won_room);
}

-- for a success that jumps out
pub room_out : {e : Emitter} → Room 1 e → Fits (Jump (Leave Success)) e
room_out r = record { insns = r.insns; writings = r.writings; free = omega (arith, r.successes) }

pub sized_then : {m n : ℕ} (k : ℕ) {e f g : Emitter} → m + n ≤ k → Sized m e f → Sized n f g → Sized k e g
sized_then k h y z = record {
  insns = omega (arith, y.insns, z.insns);
  successes = omega (arith, y.successes, z.successes);
  failures = omega (arith, y.failures, z.failures);
  writings = omega (arith, y.writings, z.writings);
  insns₀ = omega (arith, y.insns₀, z.insns₀);
  successes₀ = omega (arith, y.successes₀, z.successes₀);
  failures₀ = omega (arith, y.failures₀, z.failures₀);
  writings₀ = omega (arith, y.writings₀, z.writings₀);
  won_room = z.won_room ∙ y.won_room;
  lost_room = z.lost_room ∙ y.lost_room;
}
