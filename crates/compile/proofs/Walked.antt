-- A walk's parts, and how much each adds.
use Rattle.std.proofs.Common.{◌≡◌, refl, sym, ap, ◌∙◌, subst, List, ◌++◌, length, get_or, Bool, true, false, cond, not, ℕ, ◌+◌, ◌<◌, ◌≤◌, arith, Ok, Err}
use lib.Dec.{eqb}
use Rattle.error.specs.declared.Refusal.{Refusal}
use Rattle.error.specs.declared.Refusal.TheVariants.{FarJump}
use Rattle.error.specs.Answer.{Out, ◌>>=◌}
use Rattle.error.proofs.All.{All}
use Rattle.ast.specs.declared.LinkType.{LinkType}
use Rattle.ast.specs.Tree.{Expr, And, Or, Not}
use Rattle.ast.specs.File.{count_of}
use Rattle.ast.proofs.Proper.{Proper}
use Rattle.codegen.specs.declared.Facts.{Facts}
use Rattle.codegen.specs.declared.Side.{Side}
use Rattle.codegen.specs.declared.Side.TheVariants.{Success, Failure}
use Rattle.codegen.specs.Guards.{required_guards}
use Rattle.codegen.specs.Facts.{no_guards, restored, meet}
use Rattle.codegen.specs.Block.{Block, turn, otherwise, resolved, far}
use Rattle.codegen.specs.Emit.{Code, code, or_hoist, restored_after, emit}
use Rattle.codegen.proofs.Shape.{Fits, weight, guards_small, tree_shape, hoist_shape}
use Rattle.emit.specs.declared.Emitter.{Emitter}
use Rattle.emit.specs.Grown.{Room, Kept, Grew, Turned, Replies, Open, Otherwise, coded, len_of, row_of}
use Rattle.emit.proofs.Grow.{kept_then, Sized, sized, knowing}
use Rattle.emit.proofs.Settling.{opened, refacts, turn_far, turned_kept, turn_grew}
use Rattle.emit.proofs.Outcome.{Went, reply_done, answer, turned_down, bind_refused, after, after_reply}
use Rattle.emit.proofs.Joins.{Near, settled_near, settled_far, settled_refused, after_facts, wrote}
use Rattle.guards.specs.declared.Note.{Note}
use Rattle.reader.specs.Reader.{tree_of, end_of, Here}
use Rattle.reader.proofs.Here.{TwoParts, OnePart}
use Rattle.compile.specs.Walks.{Walk, right_of, arms}

-- a join has two parts
pub many : {join : Expr → Expr → Expr} {s : List ℕ} {i : ℕ} → TwoParts join s i → 2 < count_of s
many p = omega (arith, p.left.later, p.right.within)

module _ {s : List ℕ} {M : List Note} {i : ℕ} (w : Walk s M i) where
  at : (j : ℕ) → Here s j → Proper (tree_of s j) → Walk s M j
  at j h p = record { here = h; proper = p; joined = w.joined }

  pub and_left : TwoParts And s i → Walk s M (i + 1)
  and_left p = at (i + 1) p.left (subst Proper p.tree w.proper).0

  pub and_right : TwoParts And s i → Walk s M (end_of s (i + 1))
  and_right p = at (end_of s (i + 1)) p.right (subst Proper p.tree w.proper).1

  pub or_left : TwoParts Or s i → Walk s M (i + 1)
  or_left p = at (i + 1) p.left (subst Proper p.tree w.proper).0

  pub or_right : TwoParts Or s i → Walk s M (end_of s (i + 1))
  or_right p = at (end_of s (i + 1)) p.right (subst Proper p.tree w.proper).1

  pub not_part : OnePart s i → Walk s M (i + 1)
  not_part p = at (i + 1) p.part (subst Proper p.tree w.proper)

-- ---- sizes

module _ (L : LinkType) (t : Expr) (g : Facts) {e f : Emitter} (h : Proper t) (w : Went (emit L t g) e f) where
  pub tree_length : length w.code.block ≤ weight t
  tree_length = (subst (All (Fits L (weight t))) w.eq (tree_shape L t g h)).size

  pub tree_sized : Sized (weight t) e f
  tree_sized = sized (weight t) tree_length w.grew

pub hoist_sized : (L : LinkType) (t : Expr) (g : Facts) {e f : Emitter} → Proper t → Went (or_hoist L (required_guards t) g) e f → Sized 24 e f
hoist_sized L t g h w = sized 24 (subst (All (Fits L 24)) w.eq (hoist_shape L (required_guards t) g (guards_small t h))).size w.grew

-- ---- and

-- what settles a block that was added with room to spare
pub room_open : {c : Code} {e f : Emitter} (s : Side) {n m : ℕ} → Grew c e f → Room n e → Room m f → Open s (len_of s e) 0 f
room_open Success g r q = opened Success 0 g (omega (arith, r.successes)) (omega (arith, q.successes)) (omega (arith, q.insns))
room_open Failure g r q = opened Failure 0 g (omega (arith, r.failures)) (omega (arith, q.failures)) (omega (arith, q.insns))

-- ---- or

module _ (L : LinkType) (l r : Expr) (g : Facts) {e f k : Emitter} {q : Out (Unit {0})} (w : Went (emit L l g) e f) (o : Otherwise e.failures f k q)
    (h : e.failures ≤ length e.failure.now) where
  left : Replies (coded f.facts (resolved (otherwise w.code.block))) e k q
  left = o.of w.code.block e (refacts w.grew) refl h

  pub arms_refused : {x : Refusal} → q ≡ Err x → Replies (arms L l r g) e k (Err x)
  arms_refused p = settled_refused w otherwise f.facts left p (λ c C. emit L r (restored_after c.block g) >>= λ y. Ok (code (C ++ y.block) (meet c.facts y.facts)))

  -- the left of an or, settled
  pub arms_left : {u : Unit {0}} → q ≡ Ok u → Near (otherwise w.code.block) f.facts e k
  arms_left p = settled_near (otherwise w.code.block) f.facts e k left p

  -- and then its right from the facts before
  pub arms_done : {u : Unit {0}} {j : Emitter} {z : Out (Unit {0})} {v : Facts} → q ≡ Ok u → v ≡ restored (not (eqb f.x_writes e.x_writes)) g
      → Replies (right_of L r f.facts v) (record k { facts = v }) j z → Replies (arms L l r g) e j z
  arms_done {z = z} {v} p b y =
      let n = arms_left p in
      let x : v ≡ restored_after w.code.block g = b ∙ ap (λ (c : Bool). restored c g) (wrote w.grew) in
      rw (w.eq, n.near, ← after_facts (otherwise w.code.block) (meet w.code.facts) (emit L r (restored_after w.code.block g)))
      (after_reply (right_of L r w.code.facts (restored_after w.code.block g)) z (knowing {h = v} {h' = v} refl n.grew) (rw (← w.grew.facts, ← x) y))

-- hoisted guards before the two sides
on_right : (A C : Block) (m : Code → Facts) (o : Out Code)
    → after A (o >>= λ c. Ok (code (C ++ c.block) (m c))) ≡ (o >>= λ c. Ok (code (A ++ (C ++ c.block)) (m c)))
on_right A C m (Err x) = refl
on_right A C m (Ok c) = refl

on_settled : (A : Block) (m : Code → Facts) (o : Out Block) (q : Out Code)
    → after A (o >>= λ C. q >>= λ c. Ok (code (C ++ c.block) (m c))) ≡ (o >>= λ C. q >>= λ c. Ok (code (A ++ (C ++ c.block)) (m c)))
on_settled A m (Err x) q = refl
on_settled A m (Ok C) q = on_right A C m q

on_arms : (A : Block) (o : Out Code) (f : Code → Out Block) (q : Code → Out Code) (m : Code → Code → Facts)
    → after A (o >>= λ b. f b >>= λ C. q b >>= λ c. Ok (code (C ++ c.block) (m b c))) ≡ (o >>= λ b. f b >>= λ C. q b >>= λ c. Ok (code (A ++ (C ++ c.block)) (m b c)))
on_arms A (Err x) f q m = refl
on_arms A (Ok b) f q m = on_settled A (m b) (f b) (q b)

pub or_done : (L : LinkType) (l r : Expr) (g : Facts) {e f k : Emitter} {q : Out (Unit {0})}
    → Went (or_hoist L (required_guards (Or l r)) g) e f → Replies (arms L l r f.facts) f k q → Replies (emit L (Or l r) g) e k q
unfolding emit required_guards
or_done L l r g {e} {f} {k} {q} w h =
    let c = w.code in
    rw w.eq
    (subst (λ o. Replies o e k q)
    (on_arms c.block (emit L l c.facts) (λ b. resolved (otherwise b.block)) (λ b. emit L r (restored_after b.block c.facts)) (λ b y. meet b.facts y.facts))
    (after_reply (arms L l r c.facts) q w.grew (rw (← w.grew.facts) h)))

pub or_refused : (L : LinkType) (l r : Expr) (g : Facts) {e f : Emitter} {x : Refusal} → or_hoist L (required_guards (Or l r)) g ≡ Err x → Kept e f → Replies (emit L (Or l r) g) e f (Err x)
unfolding emit required_guards
or_refused L l r g p k = rw p (turned_down k)

-- ---- not: the two stacks change places

-- an answer that is no refusal
pub done_unless : (r : Out (Unit {0})) → ((q : Refusal) → r ≡ Err q → ⊥) → r ≡ Ok tt
done_unless (Ok u) h = refl
done_unless (Err q) h = absurd (h q refl)

module _ (L : LinkType) (t : Expr) (g : Facts) {d e f k : Emitter} {q : Out (Unit {0})} (p : Turned d e) (w : Went (emit L t g) e f) (o : Otherwise e.failures f k q)
    (h : e.failures ≤ length e.failure.now) where
  inner : Replies (coded f.facts (resolved (otherwise w.code.block))) e k q
  inner = o.of w.code.block e (refacts w.grew) refl h

  pub not_refused : {x : Refusal} {j : Emitter} → q ≡ Err x → Turned k j → Replies (emit L (Not t) g) d j (Err x)
  unfolding emit
  not_refused y r = rw w.eq (turned_refused (otherwise w.code.block) (settled_far (otherwise w.code.block) f.facts e k inner y) (turned_kept p (kept_then w.grew.kept o.kept) r))
    where
      turned_refused : (b : Block) {x : Refusal} {j : Emitter} → resolved b ≡ Err x → Kept d j → Replies (resolved (turn b) >>= λ b'. Ok (code b' (restored_after w.code.block g))) d j (Err x)
      turned_refused b {x} {j} y s = rw (turn_far b) (by (far b) y)
        where
          by : (z : Bool) → ◌≡◌ {A = Out Block} (cond z (Err FarJump) (Ok b)) (Err x)
              → Replies (cond z (Err FarJump) (Ok (turn b)) >>= λ b'. Ok (code b' (restored_after w.code.block g))) d j (Err x)
          by true h = record { is = cc; kept = s }
          by false h = cc

  pub not_done : {u : Unit {0}} {j : Emitter} {wrote_x : Bool} → q ≡ Ok u → Turned k j → wrote_x ≡ not (eqb f.x_writes d.x_writes)
      → Replies (emit L (Not t) g) d (record j { facts = restored wrote_x g }) (Ok tt)
  unfolding emit
  not_done y r b =
      let B = w.code.block in
      let n = settled_near (otherwise B) f.facts e k inner y in
      let x = ap (λ (v : Bool). restored v g) (b ∙ ap (λ (m : ℕ). not (eqb f.x_writes m)) (sym p.x_writes) ∙ wrote w.grew) in
      rw (w.eq, turn_far (otherwise B), n.near) (answer (knowing x (turn_grew B p (refacts n.grew) r)))

-- ---- the same tree, link and facts by other names

pub emitted : {L M : LinkType} {t u : Expr} {g h : Facts} {e f : Emitter} {r : Out (Unit {0})} → L ≡ M → t ≡ u → g ≡ h → Replies (emit L t g) e f r → Replies (emit M u h) e f r
emitted p q s x = rw (← p, ← q, ← s) x

pub arms_by : {L M : LinkType} (l r : Expr) (g : Facts) {e f : Emitter} {q : Out (Unit {0})} → L ≡ M → Replies (arms L l r g) e f q → Replies (arms M l r g) e f q
arms_by l r g p x = rw (← p) x

-- a note out of range
abbrev blank : Note
blank = record { guards = no_guards; end = 0 }

module _ {join : Expr → Expr → Expr} {s : List ℕ} {M : List Note} {i : ℕ} (w : Walk s M i) (p : TwoParts join s i) where
  -- where the left part of a join ends, by its note
  pub noted_end : (get_or M (i + 1) blank).end ≡ end_of s (i + 1)
  noted_end = ap (λ (n : Note). n.end) ((w.joined.noted (many p)).note (i + 1) blank (omega arith) p.left.within)

  -- what a join requires
  pub noted_guards : (get_or M i blank).guards ≡ required_guards (tree_of s i)
  noted_guards = ap (λ (n : Note). n.guards) ((w.joined.noted (many p)).note i blank (omega arith) w.here.within)

-- ---- the right side of an or, whose facts meet those of the left

module _ {L M : LinkType} {t u : Expr} {g h : Facts} (m : Facts) {e f : Emitter} {r : Out (Unit {0})} (a : L ≡ M) (b : t ≡ u) (c : g ≡ h) (x : Replies (emit L t g) e f r) where
  pub right_refused : {q : Refusal} → r ≡ Err q → Replies (right_of M u m h) e f (Err q)
  right_refused p = bind_refused (emitted a b c x) p _

  pub right_done : {v : Unit {0}} {n : Facts} → r ≡ Ok v → n ≡ meet m f.facts → Replies (right_of M u m h) e (record f { facts = n }) (Ok tt)
  right_done p q =
      let w = reply_done (emitted a b c x) p in
      rw w.eq (answer (knowing (q ∙ ap (meet m) w.grew.facts) w.grew))

-- ---- an exchanged emitter

pub turned_room : {n : ℕ} {e f : Emitter} → Turned e f → Room n e → Room n f
turned_room p r = record {
  insns = omega (arith, p.count, r.insns);
  writings = omega (arith, p.x_writes, r.writings);
  failures = omega (arith, p.failure, ap length p.lost, r.successes);
  successes = omega (arith, p.success, ap length p.won, r.failures);
}

pub turned_emit : (t : Expr) {e f k : Emitter} {r : Out (Unit {0})} → Turned e f → Replies (emit f.link t f.facts) f k r → Replies (emit e.link t e.facts) f k r
turned_emit t p x = emitted p.link refl p.facts x
