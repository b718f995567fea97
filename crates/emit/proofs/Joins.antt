-- and, or, not: a block that was added, settled, and what follows it.
use Rattle.std.proofs.Common.{◌≡◌, refl, sym, ap, Bool, true, false, not, cond, ◌++◌, arith, Ok, Err}
use lib.Dec.{eqb}
use borrow.Author.Tests.{eqb-true, eqb-false}
use Rattle.error.specs.declared.Refusal.{Refusal}
use Rattle.error.specs.declared.Refusal.TheVariants.{FarJump}
use Rattle.error.specs.Answer.{Out, ◌>>=◌}
use Rattle.codegen.specs.declared.Facts.{Facts}
use Rattle.codegen.specs.Block.{Block, far, resolved, writes_x}
use Rattle.codegen.specs.Emit.{Code, code}
use Rattle.emit.specs.declared.Emitter.{Emitter}
use Rattle.emit.specs.Grown.{Grew, Answers, Replies, coded}
use Rattle.emit.proofs.Grow.{writes_none, writes_some}
use Rattle.emit.proofs.Outcome.{Went, turned_down, after, after_reply}

-- ---- a block that was settled

module _ (b : Block) (g : Facts) (e f : Emitter) where
  -- it is within 255, and was added
  pub record Near : Type 0 where
    pub near : far b ≡ false
    pub grew : Grew (code b g) e f

  near_by : (x : Bool) → far b ≡ x → (u : Unit {0}) → Answers (coded g (cond x (Err FarJump) (Ok b))) (λ c. Grew c e f) (Ok u) → Near
  near_by true q u h = absurd h
  near_by false q u h = record { near = q; grew = h }

  far_by : (x : Bool) (q : Refusal) → Answers (coded g (cond x (Err FarJump) (Ok b))) (λ c. Grew c e f) (Err q) → cond x (Err FarJump) (Ok b) ≡ Err q
  far_by true q h = ap Err (sym h)
  far_by false q h = absurd h

  module _ {r : Out (Unit {0})} (d : Replies (coded g (resolved b)) e f r) where
    pub settled_near : {u : Unit {0}} → r ≡ Ok u → Near
    settled_near {u} p = near_by (far b) refl u (rw p at d.is)

    pub settled_far : {q : Refusal} → r ≡ Err q → resolved b ≡ Err q
    settled_far {q} p = far_by (far b) q (rw p at d.is)

-- ---- an answer whose block is settled by s

module _ {o : Out Code} {e f : Emitter} (w : Went o e f) (s : Block → Block) (g : Facts) {k : Emitter} {r : Out (Unit {0})}
    (d : Replies (coded g (resolved (s w.code.block))) e k r) where
  -- and what follows the settled block
  pub settled_then : {u : Unit {0}} → r ≡ Ok u → (next : Code → Out Code) {j : Emitter} {q : Out (Unit {0})}
      → Replies (next w.code) k j q → Replies (o >>= λ b. resolved (s b.block) >>= λ b'. after b' (next b)) e j q
  settled_then p next {q = q} h =
      let n = settled_near (s w.code.block) g e k d p in
      rw (w.eq, n.near) (after_reply (next w.code) q n.grew h)

  pub settled_refused : {q : Refusal} → r ≡ Err q → (next : Code → Block → Out Code)
      → Replies (o >>= λ b. resolved (s b.block) >>= next b) e k (Err q)
  settled_refused p next = rw (w.eq, settled_far (s w.code.block) g e k d p) (turned_down d.kept)

-- ---- the facts after a block, changed

pub after_facts : (B : Block) (m : Facts → Facts) (o : Out Code)
    → after B (o >>= λ c. Ok (code c.block (m c.facts))) ≡ (o >>= λ c. Ok (code (B ++ c.block) (m c.facts)))
after_facts B m (Err r) = refl
after_facts B m (Ok c) = refl

-- ---- whether a block wrote X

pub wrote : {c : Code} {e f : Emitter} → Grew c e f → not (eqb f.x_writes e.x_writes) ≡ writes_x c.block
wrote {c} {e} {f} g = by (eqb f.x_writes e.x_writes) refl
  where
    by : (b : Bool) → eqb f.x_writes e.x_writes ≡ b → not b ≡ writes_x c.block
    by true h = sym (writes_none c.block (omega (arith, g.writings, eqb-true f.x_writes e.x_writes h)))
    by false h = sym (writes_some c.block (λ z. eqb-false f.x_writes e.x_writes h (omega (arith, g.writings))))
