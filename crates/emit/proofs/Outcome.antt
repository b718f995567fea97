-- Answers against what the definition gives: refused, or made; and one part after another.
use Rattle.std.proofs.Common.{◌≡◌, refl, sym, ap, subst, [], ◌++◌, Ok, Err}
use Rattle.std.specs.Result.{IsErrAnd}
use Rattle.std.proofs.lemmas.Result.{err_from_is_err_and}
use Rattle.error.specs.declared.Refusal.{Refusal}
use Rattle.error.specs.Answer.{Out, ◌>>=◌}
use Rattle.codegen.specs.declared.Facts.{Facts}
use Rattle.codegen.specs.Block.{Block}
use Rattle.codegen.specs.Emit.{Code, code}
use Rattle.emit.specs.declared.Emitter.{Emitter}
use Rattle.emit.specs.Grown.{Kept, Grew, Grows, Answers, Replies}
use Rattle.emit.proofs.Grow.{kept_self, kept_then, none, then}

-- ---- an answer that was a refusal, and one that was not

pub record Went (o : Out Code) (e f : Emitter) : Type 0 where
  pub code : Code
  pub eq : o ≡ Ok code
  pub grew : Grew code e f

refused_of : (o : Out Code) (e f : Emitter) (q : Refusal) → Answers o (λ c. Grew c e f) (Err q) → o ≡ Err q
refused_of (Ok c) e f q h = absurd h
refused_of (Err r) e f q h = ap Err (sym h)

done_of : (o : Out Code) (e f : Emitter) (u : Unit {0}) → Answers o (λ c. Grew c e f) (Ok u) → Went o e f
done_of (Ok c) e f u h = record { code = c; eq = refl; grew = h }
done_of (Err r) e f u h = absurd h

module _ {o : Out Code} {e f : Emitter} {r : Out (Unit {0})} (h : Replies o e f r) where
  pub reply_refused : {q : Refusal} → r ≡ Err q → o ≡ Err q
  reply_refused {q} p = refused_of o e f q (subst (λ x. Answers o (λ c. Grew c e f) x) p h.is)

  pub reply_done : {u : Unit {0}} → r ≡ Ok u → Went o e f
  reply_done {u} p = done_of o e f u (subst (λ x. Answers o (λ c. Grew c e f) x) p h.is)

-- ---- answers made

pub answer : {c : Code} {e f : Emitter} → Grew c e f → Replies (Ok c) e f (Ok tt)
answer h = record { is = h; kept = h.kept }

-- nothing was added
pub unchanged : (e : Emitter) → Replies (Ok (code [] e.facts)) e e (Ok tt)
unchanged e = record { is = none e; kept = kept_self e }

pub turned_down : {q : Refusal} {e f : Emitter} → Kept e f → Replies (Err q) e f (Err q)
turned_down k = record { is = refl; kept = k }

-- a refusal that a `?` hands on
pub handed_on : {o : Out Code} {e f : Emitter} {r : Out (Unit {0})} {q : Refusal} → IsErrAnd r (λ y. y ≡ q) → Replies o e f (Err q) → Replies o e f r
handed_on {r = r} p h = let z = err_from_is_err_and r p in rw (z.1, z.2) h

-- ---- one part after another

-- an answer that follows a block
abbrev pub after : Block → Out Code → Out Code
after b o = o >>= λ c. Ok (code (b ++ c.block) c.facts)

pub after_reply : {A : Block} {g : Facts} {e f k : Emitter} (o : Out Code) (r : Out (Unit {0}))
    → Grew (code A g) e f → Replies o f k r → Replies (after A o) e k r
after_reply (Ok c) (Ok u) g h = record { is = then g h.is; kept = kept_then g.kept h.kept }
after_reply (Ok c) (Err q) g h = record { is = h.is; kept = kept_then g.kept h.kept }
after_reply (Err p) (Ok u) g h = record { is = h.is; kept = kept_then g.kept h.kept }
after_reply (Err p) (Err q) g h = record { is = h.is; kept = kept_then g.kept h.kept }

module _ {o : Out Code} {e f : Emitter} where
  pub bind_refused : {r : Out (Unit {0})} {q : Refusal} → Replies o e f r → r ≡ Err q → (k : Code → Out Code) → Replies (o >>= k) e f (Err q)
  bind_refused h p k = rw (reply_refused h p) (turned_down h.kept)

  -- a known block follows
  pub bind_grew : {k : Emitter} {b : Block} → Went o e f → Grows b f k → Replies (o >>= λ c. Ok (code (c.block ++ b) c.facts)) e k (Ok tt)
  bind_grew w g = let z = then w.grew g in rw (w.eq, ← w.grew.facts) (answer z)
