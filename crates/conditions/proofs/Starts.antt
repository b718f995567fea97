-- What a condition starts with: the ethertype, and what follows it.
use Rattle.std.proofs.Common.{◌≡◌, sym, ap, ◌∙◌, ℕ, ◌+◌, ◌≤◌, Bool, true, false, Ok, Err, length, arith}
use lib.Dec.{eqb}
use Rattle.error.specs.declared.Refusal.{Refusal}
use Rattle.error.specs.Answer.{Out}
use Rattle.error.proofs.All.{All, either}
use Rattle.ast.specs.declared.LinkType.{LinkType}
use Rattle.ast.specs.declared.LinkType.TheVariants.{Ethernet, RawIp, LinuxSll}
use Rattle.codegen.specs.declared.Facts.{Facts}
use Rattle.codegen.specs.declared.Width.TheVariants.{Byte}
use Rattle.codegen.specs.Facts.{holds}
use Rattle.codegen.specs.Block.{Block}
use Rattle.codegen.specs.Emit.{Code, net_offset, check, emit_ethertype, guarded, emit_l4}
use Rattle.emit.specs.declared.Emitter.{Emitter}
use Rattle.emit.specs.Grown.{Grows, Replies}
use Rattle.emit.proofs.Grow.{Sized, sized, then, knowing}
use Rattle.emit.proofs.Outcome.{Went, reply_done, answer, bind_refused, bind_grew}
use Rattle.conditions.specs.declared.Version.{Version}
use Rattle.conditions.specs.Loads.{ether_of, proto_place, proto_fact, learn_proto, emit_version}

-- ---- how much an ethertype adds at most

-- an answer's block has at most n lines
abbrev pub Short : ℕ → Code → Type 0
Short n c = length c.block ≤ n

pub went_size : {o : Out Code} {e f : Emitter} (n : ℕ) → All (Short n) o → Went o e f → Sized n e f
went_size n h w = sized n (rw w.eq at h) w.grew

pub ethertype_short : (L : LinkType) (et : ℕ) (g : Facts) → All (Short 2) (emit_ethertype L et g)
unfolding emit_ethertype
ethertype_short Ethernet et g = either (All (Short 2)) (holds g.ethertype et) (omega arith) (omega arith)
ethertype_short RawIp et g = either (All (Short 2)) (eqb et 0x0800) (omega arith) tt
ethertype_short LinuxSll et g = either (All (Short 2)) (holds g.ethertype et) (omega arith) (omega arith)

-- ---- a block after an ethertype

module _ (L : LinkType) (et : ℕ) (g : Facts) {e f : Emitter} {r : Out (Unit {0})} (h : Replies (emit_ethertype L et g) e f r) where
  pub ethertype_size : {u : Unit {0}} → r ≡ Ok u → Sized 2 e f
  ethertype_size d = went_size 2 (ethertype_short L et g) (reply_done h d)

  pub ethertype_link : {u : Unit {0}} → r ≡ Ok u → f.link ≡ e.link
  ethertype_link d = (reply_done h d).grew.kept.link

  pub guarded_refused : {q : Refusal} → r ≡ Err q → (b : Block) → Replies (guarded L et b g) e f (Err q)
  unfolding guarded
  guarded_refused d b = bind_refused h d _

  pub guarded_grew : {u : Unit {0}} {b : Block} {k : Emitter} → r ≡ Ok u → Grows b f k → Replies (guarded L et b g) e k (Ok tt)
  unfolding guarded
  guarded_grew d p = bind_grew (reply_done h d) p

-- what the conditions with one block after an ethertype need
pub ruleset guarding = (ethertype_size, ethertype_link, guarded_refused, guarded_grew)

-- ---- a protocol after it

module _ (L : LinkType) (v : Version) (p : ℕ) (g : Facts) {e f : Emitter} {r : Out (Unit {0})} (h : Replies (emit_ethertype L (ether_of v) g) e f r) where
  pub l4_refused : {q : Refusal} → r ≡ Err q → Replies (emit_version L v p g) e f (Err q)
  unfolding emit_l4
  l4_refused d = bind_refused h d _

  module _ {u : Unit {0}} (d : r ≡ Ok u) where
    told : {c : Bool} → holds (proto_fact v f.facts) p ≡ c → holds (proto_fact v (reply_done h d).code.facts) p ≡ c
    told q = ap (λ (x : Facts). holds (proto_fact v x) p) (sym (reply_done h d).grew.facts) ∙ q

    pub l4_known : holds (proto_fact v f.facts) p ≡ true → Replies (emit_version L v p g) e f (Ok tt)
    unfolding emit_l4
    l4_known q = rw ((reply_done h d).eq, told q) (answer (reply_done h d).grew)

    pub l4_tested : {k : Emitter} {n m : ℕ} → holds (proto_fact v f.facts) p ≡ false → n ≡ net_offset L → m ≡ proto_place v → Grows (check Byte (n + m) p) f k
        → Replies (emit_version L v p g) e (record k { facts = learn_proto v k.facts p }) (Ok tt)
    unfolding emit_l4
    l4_tested q a b c =
        let w = reply_done h d in
        rw (w.eq, told q, ← a, ← b) (answer (knowing (ap (λ (x : Facts). learn_proto v x p) (c.facts ∙ w.grew.facts)) (then w.grew c)))
