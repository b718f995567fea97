-- Settling and turning in an emitter are those of blocks.
use Rattle.std.proofs.Common.{◌≡◌, refl, sym, ap, ◌∙◌, subst, List, [], ◌∷◌, ◌++◌, length, take, drop, Bool, true, false, cond, ℕ, suc, ◌+◌, ◌-◌, ◌^◌, ◌<◌, ◌≤◌, append_assoc, arith, Ok, Err}
use mathlib.Core.List.{append-nil}
use mathlib.Core.Bool.{true≢false}
use Rattle.std.proofs.lemmas.Bool.{or_parts}
use borrow.Author.Tests.{ltb-true, ltb-false, le-ltb}
use lib.Dec.{ltb}
use lib.ListN.{replicate, length-append, length-replicate, take-append-drop}
use lib.Seq.{get_or_at, set_at, take_at, drop_at, take-take, length-take-le}
use Rattle.error.specs.declared.Refusal.TheVariants.{FarJump}
use Rattle.error.specs.Answer.{Out}
use Rattle.bpf.specs.declared.Insn.{Insn}
use Rattle.codegen.specs.declared.Test.{Test}
use Rattle.codegen.specs.declared.Side.{Side}
use Rattle.codegen.specs.declared.Side.TheVariants.{Success, Failure}
use Rattle.codegen.specs.declared.Exit.{Exit}
use Rattle.codegen.specs.declared.Exit.TheVariants.{Skip, Leave}
use Rattle.codegen.specs.declared.Slot.{Slot}
use Rattle.codegen.specs.declared.Slot.TheVariants.{Jt, Jf}
use Rattle.codegen.specs.declared.Line.{Line}
use Rattle.codegen.specs.declared.Line.TheVariants.{Plain, Branch, Jump}
use Rattle.codegen.specs.Block.{Block, same, swap, swap_line, settle, turn, otherwise, resolved as in_range, distance, far, far_line, sets_x, assemble}
use Rattle.codegen.specs.Emit.{Code, code}
use Rattle.codegen.proofs.Semantics.{length_settle}
use Rattle.codegen.proofs.Near.{length_turn}
use Rattle.emit.specs.declared.Patch.{Patch}
use Rattle.emit.specs.declared.Emitter.{Emitter}
use Rattle.emit.specs.Lines.{assembled, with_distance, no_insn, exit_of, patch_of, place_of, pending, patches, waiting, writes, resolved, resolve, Below}
use Rattle.emit.specs.Grown.{Kept, Grew, Grows, Answers, Turned, Replies, len_of, row_of, Cut, Open, Settled, coded, Otherwise}
use Rattle.emit.proofs.Grow.{kept_then, assembled_length, far_append, reached, then, knowing}
use Rattle.emit.proofs.Outcome.{answer, turned_down}
use Rattle.emit.proofs.Resolving.{near_cons, far_cons}

-- ---- a line whose exits are exchanged

near_cut : (l : Line) (B : Block) → far (l ∷ B) ≡ false → (far_line l ≡ false) × (far B ≡ false)
unfolding far
near_cut l B e = or_parts (far_line l) (far B) e

exit_swap : (e : Side) (q : Exit) (l : Line) → exit_of (swap_line e q l) ≡ swap e q (exit_of l)
exit_swap e q (Plain o) = refl
exit_swap e q (Branch t k s p) = refl
exit_swap e q (Jump p) = refl

patch_swap : (e : Side) (q : Exit) (l : Line) (i : ℕ) → patch_of (swap_line e q l) i ≡ patch_of l i
patch_swap e q (Plain o) i = refl
patch_swap e q (Branch t k s p) i = refl
patch_swap e q (Jump p) i = refl

sets_swap : (e : Side) (q : Exit) (l : Line) → sets_x (swap_line e q l) ≡ sets_x l
sets_swap e q (Plain o) = refl
sets_swap e q (Branch t k s p) = refl
sets_swap e q (Jump p) = refl

abbrev other : Side → Side
other Success = Failure
other Failure = Success

gone_exit : (e : Side) (n : ℕ) (p : Patch) (q : Exit) (x : List Patch) → pending e p (swap e (Skip n) q) x ≡ x
gone_exit e n p (Skip m) x = refl
gone_exit Success n p (Leave Success) x = refl
gone_exit Success n p (Leave Failure) x = refl
gone_exit Failure n p (Leave Success) x = refl
gone_exit Failure n p (Leave Failure) x = refl

kept_exit : (e : Side) (n : ℕ) (p : Patch) (q : Exit) (x : List Patch) → pending (other e) p (swap e (Skip n) q) x ≡ pending (other e) p q x
kept_exit e n p (Skip m) x = refl
kept_exit Success n p (Leave Success) x = refl
kept_exit Success n p (Leave Failure) x = refl
kept_exit Failure n p (Leave Success) x = refl
kept_exit Failure n p (Leave Failure) x = refl

-- ---- what settling leaves alone

pub settle_gone : (e : Side) (d p : ℕ) (B : Block) → patches e p (settle e d B) ≡ []
unfolding settle
settle_gone e d p [] = refl
settle_gone e d p (l ∷ B) =
    rw (patch_swap e (Skip (length B + d)) l p, exit_swap e (Skip (length B + d)) l) (gone_exit e (length B + d) (patch_of l p) (exit_of l) (patches e (p + 1) (settle e d B)) ∙ settle_gone e d (p + 1) B)

pub settle_kept : (e : Side) (d p : ℕ) (B : Block) → patches (other e) p (settle e d B) ≡ patches (other e) p B
unfolding settle
settle_kept e d p [] = refl
settle_kept e d p (l ∷ B) =
    rw (patch_swap e (Skip (length B + d)) l p, exit_swap e (Skip (length B + d)) l, settle_kept e d (p + 1) B) (kept_exit e (length B + d) (patch_of l p) (exit_of l) (patches (other e) (p + 1) B))

pub settle_writes : (e : Side) (d : ℕ) (B : Block) → writes (settle e d B) ≡ writes B
unfolding settle
settle_writes e d [] = refl
settle_writes e d (l ∷ B) = rw (sets_swap e (Skip (length B + d)) l, settle_writes e d B)

-- ---- a short block is settled near

near_exit : (e : Side) (n : ℕ) (q : Exit) → n ≤ 255 → ltb 255 (distance q) ≡ false → ltb 255 (distance (swap e (Skip n) q)) ≡ false
near_exit e n (Skip m) h f = f
near_exit Success n (Leave Success) h f = le-ltb 255 n h
near_exit Success n (Leave Failure) h f = f
near_exit Failure n (Leave Success) h f = f
near_exit Failure n (Leave Failure) h f = le-ltb 255 n h

near_swap : (e : Side) (n : ℕ) (l : Line) → n ≤ 255 → far_line l ≡ false → far_line (swap_line e (Skip n) l) ≡ false
near_swap e n (Plain o) h f = refl
near_swap e n (Branch t k s p) h f = near_exit e n p h f
near_swap e n (Jump p) h f = near_exit e n p h f

near_settle : (e : Side) (d : ℕ) (B : Block) → far B ≡ false → length B + d ≤ 256 → far (settle e d B) ≡ false
unfolding settle far
near_settle e d [] f h = refl
near_settle e d (l ∷ B) f h =
    let c = or_parts (far_line l) (far B) f in
    rw (near_swap e (length B + d) l (omega arith) c.0) (near_settle e d B c.1 (omega arith))

pub near_short : (B : Block) → far B ≡ false → length B ≤ 255 → far (otherwise B) ≡ false
unfolding otherwise far
near_short B f h = near_settle Failure 0 (B ++ (Jump (Leave Success) ∷ [])) (rw (far_append B (Jump (Leave Success) ∷ []), f)) (rw length-append (omega arith))

-- ---- resolving is settling

-- the instructions of a block between others, or too far
abbrev pub image : List Insn → List Insn → Block → Out (List Insn)
image pre rest C = cond (far C) (Err FarJump) (Ok (pre ++ (assembled C ++ rest)))

image_onto : (pre rest : List Insn) (l : Line) (C : Block) → far_line l ≡ false → image (pre ++ (assemble l ∷ [])) rest C ≡ image pre rest (l ∷ C)
unfolding far
image_onto pre rest l C f = rw (f, append_assoc)

image_far : (pre rest : List Insn) (l : Line) (C : Block) → far_line l ≡ true → Err FarJump ≡ image pre rest (l ∷ C)
unfolding far
image_far pre rest l C f = rw f

place_of_line : (l : Line) (i : ℕ) → place_of (patch_of l i) ≡ i
place_of_line (Plain o) i = refl
place_of_line (Branch t k Jt e) i = refl
place_of_line (Branch t k Jf e) i = refl
place_of_line (Jump e) i = refl

-- the instruction of line l, whose distance is put into it, is that of line l'
abbrev Puts : Line → Line → ℕ → ℕ → Type 0
Puts l l' i d = with_distance (patch_of l i) d (assemble l) ≡ assemble l'

puts_branch : (t : Test) (k : ℕ) (s : Slot) (e : Side) (i d : ℕ) → Puts (Branch t k s (Leave e)) (Branch t k s (Skip d)) i d
unfolding assemble
puts_branch t k Jt e i d = refl
puts_branch t k Jf e i d = refl

puts_jump : (e : Side) (i d : ℕ) → Puts (Jump (Leave e)) (Jump (Skip d)) i d
unfolding assemble
puts_jump e i d = refl

put_at : (pre rest : List Insn) (l l' : Line) (i d : ℕ) → length pre ≡ i → Puts l l' i d
    → resolved (patch_of l i) d (pre ++ (assemble l ∷ rest)) ≡ pre ++ (assemble l' ∷ rest)
put_at pre rest l l' i d e h =
    rw (place_of_line l i, get_or_at pre (assemble l) rest no_insn i e, h) (set_at pre (assemble l) rest (assemble l') i e)

module _ (e : Side) (pre rest : List Insn) (B : Block) (p T d : ℕ) (e₁ : length pre ≡ p) (e₂ : T ≡ p + suc (length B) + d)
    (ih : (w : Insn) → resolve (patches e (p + 1) B) T ((pre ++ (w ∷ [])) ++ (assembled B ++ rest)) ≡ image (pre ++ (w ∷ [])) rest (settle e d B)) where
  keep : (l : Line) → far_line l ≡ false → resolve (patches e (p + 1) B) T (pre ++ (assemble l ∷ (assembled B ++ rest))) ≡ image pre rest (l ∷ settle e d B)
  keep l f =
      ap (resolve (patches e (p + 1) B) T) (sym (append_assoc pre (assemble l ∷ []) (assembled B ++ rest)))
      ∙ ih (assemble l)
      ∙ image_onto pre rest l (settle e d B) f

  hit : (l l' : Line) → Puts l l' p (length B + d) → (b : Bool) → ltb 255 (length B + d) ≡ b → far_line l' ≡ b
      → resolve (patch_of l p ∷ patches e (p + 1) B) T (pre ++ (assemble l ∷ (assembled B ++ rest))) ≡ image pre rest (l' ∷ settle e d B)
  hit l l' q false t f =
      let z : T - place_of (patch_of l p) - 1 ≡ length B + d = omega (arith, place_of_line l p) in
      let le : length B + d ≤ 255 = ltb-false 255 (length B + d) t in
      near_cons (patch_of l p) (patches e (p + 1) B) T (pre ++ (assemble l ∷ (assembled B ++ rest))) (rw z le)
      ∙ rw (z, put_at pre (assembled B ++ rest) l l' p (length B + d) e₁ q) (keep l' f)
  hit l l' q true t f =
      let z : T - place_of (patch_of l p) - 1 ≡ length B + d = omega (arith, place_of_line l p) in
      far_cons (patch_of l p) (patches e (p + 1) B) T (pre ++ (assemble l ∷ (assembled B ++ rest))) (rw z (ltb-true 255 (length B + d) t))
      ∙ image_far pre rest l' (settle e d B) f

  leave_law : (b : Bool) (F : Exit → Line) (q : Side) → far_line (F (Leave q)) ≡ false → far_line (F (Skip (length B + d))) ≡ ltb 255 (length B + d)
      → Puts (F (Leave q)) (F (Skip (length B + d))) p (length B + d)
      → resolve (cond b (patch_of (F (Leave q)) p ∷ patches e (p + 1) B) (patches e (p + 1) B)) T (pre ++ (assemble (F (Leave q)) ∷ (assembled B ++ rest)))
      ≡ image pre rest (F (cond b (Skip (length B + d)) (Leave q)) ∷ settle e d B)
  leave_law true F q f g y = hit (F (Leave q)) (F (Skip (length B + d))) y (ltb 255 (length B + d)) refl g
  leave_law false F q f g y = keep (F (Leave q)) f

  line_law : (l : Line) → far_line l ≡ false
      → resolve (patches e p (l ∷ B)) T (pre ++ (assemble l ∷ (assembled B ++ rest))) ≡ image pre rest (swap_line e (Skip (length B + d)) l ∷ settle e d B)
  line_law (Plain o) f = keep (Plain o) f
  line_law (Branch t k s (Skip n)) f = keep (Branch t k s (Skip n)) f
  line_law (Branch t k s (Leave q)) f = leave_law (same e q) (λ x. Branch t k s x) q f refl (puts_branch t k s q p (length B + d))
  line_law (Jump (Skip n)) f = keep (Jump (Skip n)) f
  line_law (Jump (Leave q)) f = leave_law (same e q) (λ x. Jump x) q f refl (puts_jump q p (length B + d))

pub law : (e : Side) (pre rest : List Insn) (B : Block) (p T d : ℕ) → far B ≡ false → length pre ≡ p → T ≡ p + length B + d
    → resolve (patches e p B) T (pre ++ (assembled B ++ rest)) ≡ image pre rest (settle e d B)
unfolding settle resolve far
law e pre rest [] p T d f e₁ e₂ = refl
law e pre rest (l ∷ B) p T d f e₁ e₂ =
    let c = near_cut l B f in
    line_law e pre rest B p T d e₁ e₂
    (λ w. law e (pre ++ (w ∷ [])) rest B (p + 1) T d c.1 (length-append pre (w ∷ []) ∙ ap (λ (n : ℕ). n + 1) e₁) (omega arith))
    l c.0

-- ---- whether it is too far, whatever the row

abbrev pub verdict : {A : Type 0} → Out A → Out (Unit {0})
verdict (Ok a) = Ok tt
verdict (Err r) = Err r

verdict_cond : (b : Bool) (P Q : Out (List Insn)) → verdict P ≡ verdict Q → verdict (cond b (Err FarJump) P) ≡ verdict (cond b (Err FarJump) Q)
verdict_cond true P Q h = refl
verdict_cond false P Q h = h

verdict_any : (ps : List Patch) (T : ℕ) (I K : List Insn) → verdict (resolve ps T I) ≡ verdict (resolve ps T K)
unfolding resolve
verdict_any [] T I K = refl
verdict_any (p ∷ ps) T I K = verdict_cond (ltb 255 (T - place_of p - 1)) _ _ (verdict_any ps T _ _)

verdict_image : (b : Bool) (J : List Insn) → verdict (cond b (Err FarJump) (Ok J)) ≡ cond b (Err FarJump) (Ok tt)
verdict_image true J = refl
verdict_image false J = refl

pub far_law : (e : Side) (B : Block) (p T d : ℕ) (I : List Insn) → far B ≡ false → T ≡ p + length B + d
    → verdict (resolve (patches e p B) T I) ≡ cond (far (settle e d B)) (Err FarJump) (Ok tt)
far_law e B p T d I f q =
    verdict_any (patches e p B) T I (replicate p no_insn ++ (assembled B ++ []))
    ∙ ap verdict (law e (replicate p no_insn) [] B p T d f (length-replicate p no_insn) q)
    ∙ verdict_image (far (settle e d B)) _

settles_verdict : (o : Out (List Insn)) (xs : List Insn) (r : Out (Unit {0})) → Answers o (λ ys. xs ≡ ys) r → r ≡ verdict o
settles_verdict (Ok J) xs (Ok u) h = refl
settles_verdict (Ok J) xs (Err q) h = absurd h
settles_verdict (Err p) xs (Ok u) h = absurd h
settles_verdict (Err p) xs (Err q) h = ap Err h

settles_lines : (b : Bool) (J xs : List Insn) (r : Out (Unit {0})) → b ≡ false → Answers (cond b (Err FarJump) (Ok J)) (λ ys. xs ≡ ys) r → xs ≡ J
settles_lines true J xs r e h = absurd (true≢false e)
settles_lines false J xs (Ok u) e h = h
settles_lines false J xs (Err q) e h = absurd h

-- ---- pending jumps stand before a block's end

below_exit : (e : Side) (q : Patch) (T : ℕ) (x : Exit) (ps : List Patch) → place_of q < T → Below T ps → Below T (pending e q x ps)
below_exit e q T (Skip n) ps h b = b
below_exit e q T (Leave p) ps h b = go (same e p)
  where
    go : (c : Bool) → Below T (cond c (q ∷ ps) ps)
    go true = (h, b)
    go false = b

pub below_patches : (e : Side) (i T : ℕ) (B : Block) → i + length B ≤ T → Below T (patches e i B)
below_patches e i T [] h = tt
below_patches e i T (l ∷ B) h =
    below_exit e (patch_of l i) T (exit_of l) (patches e (i + 1) B) (omega (arith, place_of_line l i)) (below_patches e (i + 1) T B (omega arith))

pub below_more : (T U : ℕ) (ps : List Patch) → T ≤ U → Below T ps → Below U ps
below_more T U [] h b = tt
below_more T U (p ∷ ps) h b = (omega (arith, b.0), below_more T U ps h b.1)

-- ---- a block that was added

-- what waits by a side, and its patches there
waits : {c : Code} {e f : Emitter} (s : Side) → Grew c e f → waiting (len_of s f) (row_of s f) ≡ waiting (len_of s e) (row_of s e) ++ patches s e.count c.block
waits Success g = g.won
waits Failure g = g.lost

-- a stack that reaches no further than its row
abbrev pub Held : Side → Emitter → Type 0
Held s e = len_of s e ≤ length (row_of s e)

module _ {c : Code} {e f : Emitter} (g : Grew c e f) (s : Side) (h : Held s e) where
  pub segment : drop (len_of s e) (waiting (len_of s f) (row_of s f)) ≡ patches s e.count c.block
  segment =
      ap (drop (len_of s e)) (waits s g)
      ∙ drop_at (waiting (len_of s e) (row_of s e)) (patches s e.count c.block) (len_of s e) (length-take-le (len_of s e) (row_of s e) h)

  pub before_end : (over : ℕ) → Below (f.count + over) (drop (len_of s e) (waiting (len_of s f) (row_of s f)))
  before_end over = rw segment (below_patches s e.count (f.count + over) c.block (omega (arith, g.insns)))

  -- where the row reaches to its end
  module _ (k : f.count ≤ length f.insns.now) where
    whole : f.insns.now ≡ take e.count e.insns.now ++ (assembled c.block ++ drop f.count f.insns.now)
    whole =
        sym (take-append-drop f.count f.insns.now)
        ∙ ap (λ (x : List Insn). x ++ drop f.count f.insns.now) (g.lines k)
        ∙ append_assoc (take e.count e.insns.now) (assembled c.block) (drop f.count f.insns.now)

    before : length (take e.count e.insns.now) ≡ e.count
    before = length-take-le e.count e.insns.now (reached g k)

    row_law : (over : ℕ) → resolve (patches s e.count c.block) (f.count + over) f.insns.now
        ≡ image (take e.count e.insns.now) (drop f.count f.insns.now) (settle s over c.block)
    row_law over =
        ap (resolve (patches s e.count c.block) (f.count + over)) whole
        ∙ law s (take e.count e.insns.now) (drop f.count f.insns.now) c.block e.count (f.count + over) over g.near before (omega (arith, g.insns))

-- a stack cut back to what it was before the block
cut_back : (S S' : List Patch) (x : List Patch) (m n : ℕ) → m ≤ length S → m ≤ n → take n S' ≡ take m S ++ x → take m S' ≡ take m S
cut_back S S' x m n h k e = sym (take-take m n S' k) ∙ ap (take m) e ∙ take_at (take m S) x m (length-take-le m S h)

-- what is cut, and what is not
module _ {c : Code} {d e f : Emitter} (g : Grew c d e) (over : ℕ) {r : Out (Unit {0})} where
  module _ (s : Side) (h : Held s d) (z : Settled s (len_of s d) over e f r) where
    row : Answers (resolve (patches s d.count c.block) (e.count + over) e.insns.now) (λ ys. f.insns.now ≡ ys) r
    row = subst (λ (x : List Patch). Answers (resolve x (e.count + over) e.insns.now) (λ ys. f.insns.now ≡ ys) r) (segment g s h) z.row.is

    pub told : r ≡ cond (far (settle s over c.block)) (Err FarJump) (Ok tt)
    told = settles_verdict _ _ r row ∙ far_law s c.block d.count (e.count + over) over e.insns.now g.near (omega (arith, g.insns))

    lines_of : far (settle s over c.block) ≡ false → f.count ≤ length f.insns.now
        → take f.count f.insns.now ≡ take d.count d.insns.now ++ assembled (settle s over c.block)
    lines_of near k =
        let C = settle s over c.block in
        let h' : e.count ≤ length e.insns.now = omega (arith, z.count, z.kept.row) in
        let w = settles_lines (far C) _ f.insns.now r near (subst (λ x. Answers x (λ ys. f.insns.now ≡ ys) r) (row_law g s h h' over) row) in
        let n : length (take d.count d.insns.now ++ assembled C) ≡ f.count =
        simp (length-append, assembled_length, before g s h h', length_settle) (omega (arith, g.insns, z.count)) in
        ap (take f.count) (w ∙ sym (append_assoc (take d.count d.insns.now) (assembled C) (drop e.count e.insns.now)))
        ∙ take_at (take d.count d.insns.now ++ assembled C) (drop e.count e.insns.now) f.count n

  pub settled_success : Held Success d → (z : Settled Success d.successes over e f r) → far (settle Success over c.block) ≡ false
      → Cut Success d.successes e f → Grew (code (settle Success over c.block) e.facts) d f
  settled_success h z near q = record {
    insns = rw (length_settle Success over c.block) (z.count ∙ g.insns);
    successes = rw (settle_gone Success over d.count c.block) (omega (arith, q.0));
    failures = rw (settle_kept Success over d.count c.block) (q.1 ∙ g.failures);
    writings = rw (settle_writes Success over c.block) (z.x_writes ∙ g.writings);
    near = near;
    lines = lines_of Success h z near;
    won = rw (settle_gone Success over d.count c.block, append-nil, q.0, z.won)
        (cut_back d.success.now e.success.now (patches Success d.count c.block) d.successes e.successes h (omega (arith, g.successes)) g.won);
    lost = rw (settle_kept Success over d.count c.block, q.1, z.lost) g.lost;
    facts = z.facts;
    kept = kept_then g.kept z.kept;
  }

  pub settled_failure : Held Failure d → (z : Settled Failure d.failures over e f r) → far (settle Failure over c.block) ≡ false
      → Cut Failure d.failures e f → Grew (code (settle Failure over c.block) e.facts) d f
  settled_failure h z near q = record {
    insns = rw (length_settle Failure over c.block) (z.count ∙ g.insns);
    successes = rw (settle_kept Failure over d.count c.block) (q.0 ∙ g.successes);
    failures = rw (settle_gone Failure over d.count c.block) (omega (arith, q.1));
    writings = rw (settle_writes Failure over c.block) (z.x_writes ∙ g.writings);
    near = near;
    lines = lines_of Failure h z near;
    won = rw (settle_kept Failure over d.count c.block, q.0, z.won) g.won;
    lost = rw (settle_gone Failure over d.count c.block, append-nil, q.1, z.lost)
        (cut_back d.failure.now e.failure.now (patches Failure d.count c.block) d.failures e.failures h (omega (arith, g.failures)) g.lost);
    facts = z.facts;
    kept = kept_then g.kept z.kept;
  }

  settled_side : (s : Side) → Held s d → Settled s (len_of s d) over e f r → far (settle s over c.block) ≡ false
      → Cut s (len_of s d) e f → Grew (code (settle s over c.block) e.facts) d f
  settled_side Success h z near q = settled_success h z near q
  settled_side Failure h z near q = settled_failure h z near q

  pub settled : (s : Side) → Held s d → Settled s (len_of s d) over e f r → Replies (coded e.facts (in_range (settle s over c.block))) d f r
  settled s h z = go (far (settle s over c.block)) refl
    where
      go : (b : Bool) → far (settle s over c.block) ≡ b → Replies (coded e.facts (in_range (settle s over c.block))) d f r
      go true q = let t = told s h z ∙ ap (λ (x : Bool). cond x (Err FarJump) (Ok tt)) q in rw (q, t) (turned_down (kept_then g.kept z.kept))
      go false q =
          let t = told s h z ∙ ap (λ (x : Bool). cond x (Err FarJump) (Ok tt)) q in
          let k = rw t at z.cut in
          rw (q, t) (answer (settled_side s h z q k))

-- what `otherwise` does to a block that was added: a `ja` after it, and its failures settled
pub otherwise_open : {e f : Emitter} (mark : ℕ) → Grows (Jump (Leave Success) ∷ []) e f → Open Failure mark 0 e → e.count + 1 ≤ 65536 → Open Failure mark 0 f
otherwise_open {e} {f} mark g o h = record {
  most = omega (arith, g.insns);
  mark = omega (arith, g.failures, o.mark);
  room = omega (arith, g.failures, o.room, g.kept.lost_room);
  below = rw (g.lost, append-nil) (below_more (e.count + 0) (f.count + 0) (drop mark (waiting e.failures e.failure.now)) (omega (arith, g.insns)) o.below);
}

pub otherwise_of : {e f k : Emitter} {r : Out (Unit {0})} (mark : ℕ) → Grows (Jump (Leave Success) ∷ []) e f → Settled Failure mark 0 f k r → Otherwise mark e k r
unfolding otherwise
otherwise_of {e} {f} {k} {r} mark j z = record {
  of = λ b d g m h. rw (← j.facts) (settled (then g j) 0 Failure h (rw (← m) at z));
  kept = kept_then j.kept z.kept;
}

-- a block was added since a stack was so long
more : {c : Code} {e f : Emitter} (s : Side) → Grew c e f → len_of s e ≤ len_of s f
more Success g = omega (arith, g.successes)
more Failure g = omega (arith, g.failures)

pub opened : {c : Code} {e f : Emitter} (s : Side) (over : ℕ) → Grew c e f → Held s e → Held s f → f.count + over < 2 ^ 64 → Open s (len_of s e) over f
opened s over g h k n = record { most = n; mark = more s g; room = k; below = before_end g s h over }

-- a block with the facts that hold after it
pub refacts : {c : Code} {e f : Emitter} → Grew c e f → Grew (code c.block f.facts) e f
refacts g = knowing refl g

-- a block that is short and the jump out of it: every distance is within 255
otherwise_short : {c : Code} {e f : Emitter} → Grew c e f → length c.block ≤ 17 → far (otherwise c.block) ≡ false
otherwise_short {c} g h = near_short c.block g.near (omega arith)

module _ {c : Code} {d e f : Emitter} {r : Out (Unit {0})} (g : Grew c d e) (h : length c.block ≤ 17) (o : Otherwise d.failures e f r) (k : Held Failure d) where
  tried : Replies (Ok (code (otherwise c.block) e.facts)) d f r
  tried = rw (otherwise_short g h) at (o.of c.block d (refacts g) refl k)

  pub tried_ok : r ≡ Ok tt
  tried_ok = ok_of r tried.is
    where
      ok_of : (q : Out (Unit {0})) → Answers (Ok (code (otherwise c.block) e.facts)) (λ x. Grew x d f) q → q ≡ Ok tt
      ok_of (Ok u) a = refl
      ok_of (Err x) a = absurd a

  pub tried_grew : Grew (code (otherwise c.block) e.facts) d f
  tried_grew = rw tried_ok at tried.is

pub otherwise_size : (n : ℕ) (B : Block) → length B ≤ n → length (otherwise B) ≤ n + 1
unfolding otherwise
otherwise_size n B h = rw (length_settle Failure 0 (B ++ (Jump (Leave Success) ∷ [])), length-append B (Jump (Leave Success) ∷ [])) (omega arith)

-- ---- turning, after `otherwise`: the two stacks were lent exchanged

turn_exit : (n : ℕ) (p : Patch) (q : Exit) (x : List Patch)
    → pending Failure p (swap Success (Leave Failure) (swap Failure (Skip n) q)) x ≡ pending Success p (swap Failure (Skip n) q) x
turn_exit n p (Skip m) x = refl
turn_exit n p (Leave Success) x = refl
turn_exit n p (Leave Failure) x = refl

turned_exit : (p : Patch) (q : Exit) (x : List Patch) → pending Success p (swap Success (Leave Failure) q) x ≡ x
turned_exit p (Skip m) x = refl
turned_exit p (Leave Success) x = refl
turned_exit p (Leave Failure) x = refl

turn_distance : (q : Exit) → distance (swap Success (Leave Failure) q) ≡ distance q
turn_distance (Skip m) = refl
turn_distance (Leave Success) = refl
turn_distance (Leave Failure) = refl

turn_assemble : (l : Line) → assemble (swap_line Success (Leave Failure) l) ≡ assemble l
unfolding assemble
turn_assemble (Plain o) = refl
turn_assemble (Branch t k Jt q) = rw (turn_distance q)
turn_assemble (Branch t k Jf q) = rw (turn_distance q)
turn_assemble (Jump q) = rw (turn_distance q)

turn_far_line : (l : Line) → far_line (swap_line Success (Leave Failure) l) ≡ far_line l
turn_far_line (Plain o) = refl
turn_far_line (Branch t k s q) = rw (turn_distance q)
turn_far_line (Jump q) = rw (turn_distance q)

pub turn_assembled : (C : Block) → assembled (turn C) ≡ assembled C
unfolding turn
turn_assembled [] = refl
turn_assembled (l ∷ C) = rw (turn_assemble l, turn_assembled C)

pub turn_far : (C : Block) → far (turn C) ≡ far C
unfolding turn far
turn_far [] = refl
turn_far (l ∷ C) = rw (turn_far_line l, turn_far C)

pub turn_writes : (C : Block) → writes (turn C) ≡ writes C
unfolding turn
turn_writes [] = refl
turn_writes (l ∷ C) = rw (sets_swap Success (Leave Failure) l, turn_writes C)

turn_success : (p : ℕ) (C : Block) → patches Success p (turn C) ≡ []
unfolding turn
turn_success p [] = refl
turn_success p (l ∷ C) =
    rw (patch_swap Success (Leave Failure) l p, exit_swap Success (Leave Failure) l) (turned_exit (patch_of l p) (exit_of l) (patches Success (p + 1) (turn C)) ∙ turn_success (p + 1) C)

turn_failure : (d p : ℕ) (B : Block) → patches Failure p (turn (settle Failure d B)) ≡ patches Success p (settle Failure d B)
unfolding turn settle
turn_failure d p [] = refl
turn_failure d p (l ∷ B) =
    let n = length B + d in
    rw (patch_swap Success (Leave Failure) (swap_line Failure (Skip n) l) p, patch_swap Failure (Skip n) l p, exit_swap Success (Leave Failure) (swap_line Failure (Skip n) l), exit_swap Failure (Skip n) l, turn_failure d (p + 1) B)
    (turn_exit n (patch_of l p) (exit_of l) (patches Success (p + 1) (settle Failure d B)))

-- what stays between two exchanges stays before and after them
pub turned_kept : {d e f k : Emitter} → Turned d e → Kept e f → Turned f k → Kept d k
turned_kept p g q = record {
  same_insns = q.same_insns ∙ g.same_insns ∙ p.same_insns;
  same_won = q.same_won ∙ g.same_lost ∙ p.same_lost;
  same_lost = q.same_lost ∙ g.same_won ∙ p.same_won;
  row = ap length q.insns ∙ g.row ∙ ap length p.insns;
  won_room = ap length q.won ∙ g.lost_room ∙ ap length p.lost;
  lost_room = ap length q.lost ∙ g.won_room ∙ ap length p.won;
  link = q.link ∙ g.link ∙ p.link;
}

-- a block that was added between two exchanges is turned, after `otherwise`
pub turn_grew : (B : Block) {d e f k : Emitter} → Turned d e → Grew (code (otherwise B) f.facts) e f → Turned f k → Grew (code (turn (otherwise B)) k.facts) d k
unfolding otherwise
turn_grew B {d} {e} {f} {k} p g q =
    let D = B ++ (Jump (Leave Success) ∷ []) in
    let C = settle Failure 0 D in
    let y = turn_success d.count C ∙ sym (settle_gone Failure 0 d.count D) in
    let n = turn_failure 0 d.count D in
    record {
      insns = rw (length_turn C) (q.count ∙ g.insns ∙ ap (λ (i : ℕ). i + length C) p.count);
      successes = rw (y, ← p.count) (q.success ∙ g.failures ∙ ap (λ (i : ℕ). i + length (patches Failure e.count C)) p.failure);
      failures = rw (n, ← p.count) (q.failure ∙ g.successes ∙ ap (λ (i : ℕ). i + length (patches Success e.count C)) p.success);
      writings = rw (turn_writes C) (q.x_writes ∙ g.writings ∙ ap (λ (i : ℕ). i + writes C) p.x_writes);
      near = rw (turn_far C) g.near;
      lines = λ h. rw (turn_assembled C, q.count, q.insns, ← p.count, ← p.insns) (g.lines (omega (arith, h, q.count, ap length q.insns)));
      won = rw (y, ← p.count, q.success, q.won, ← p.failure, ← p.lost) g.lost;
      lost = rw (n, ← p.count, q.failure, q.lost, ← p.success, ← p.won) g.won;
      facts = refl;
      kept = turned_kept p g.kept q;
    }
