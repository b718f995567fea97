-- Prologues and hoisted guards: their sizes, and one part after another.
use Rattle.std.proofs.Common.{◌≡◌, ℕ, ◌+◌, ◌≤◌, subst, [], ◌∷◌, ◌++◌, length, Bool, not, cond, Option, None, Some, Ok, Err, arith, length-append}
use denote.Enum.Bare.{sameb}
use Rattle.error.specs.declared.Refusal.{Refusal}
use Rattle.error.specs.Answer.{Out}
use Rattle.error.proofs.All.{All, either, all_bind}
use Rattle.ast.specs.declared.LinkType.{LinkType}
use Rattle.ast.specs.declared.LinkType.TheVariants.{Ethernet, RawIp, LinuxSll}
use Rattle.ast.specs.contracts.LinkType.{the_type}
use Rattle.codegen.specs.declared.L4Set.{L4Set}
use Rattle.codegen.specs.declared.L4Set.TheVariants.{One, TcpOrUdp}
use Rattle.codegen.specs.declared.Facts.{Facts}
use Rattle.codegen.specs.declared.GuardSet.{GuardSet}
use Rattle.codegen.specs.Facts.{contains, holds, ready_for}
use Rattle.codegen.specs.declared.Width.TheVariants.{Half}
use Rattle.codegen.specs.declared.Op.TheVariants.{LdAbs}
use Rattle.codegen.specs.declared.Test.TheVariants.{Jeq}
use Rattle.codegen.specs.declared.Exit.TheVariants.{Skip}
use Rattle.codegen.specs.declared.Slot.TheVariants.{Jt}
use Rattle.codegen.specs.declared.Line.TheVariants.{Plain, Branch, Jump}
use Rattle.codegen.specs.Block.{Block}
use Rattle.codegen.specs.Emit.{net_offset, ether_proto_offset, Code, code, need, l4_set_check, l4_check, header4, header6, fork, dual_path, Prologue, version, dual, emit_ethertype, emit_l4, port_prereqs, is_raw, hoist_known, hoist_ports, or_hoist}
use Rattle.emit.specs.declared.Emitter.{Emitter}
use Rattle.emit.specs.Grown.{Grew, Grows, Replies}
use Rattle.emit.proofs.Grow.{Sized, sized, none, then}
use Rattle.emit.proofs.Outcome.{Went, reply_done, answer, after_reply, bind_refused}
use Rattle.conditions.specs.declared.Version.{Version}
use Rattle.conditions.specs.declared.Version.TheVariants.{V4, V6}
use Rattle.conditions.specs.Loads.{ether_of, proto_fact, header, emit_version}
use Rattle.conditions.proofs.Starts.{Short, went_size, ethertype_short}
use Rattle.ports.specs.Hoist.{hoist_ethertype, hoist_l4, Follows}

-- ---- sizes

set_short : (want : L4Set) → length (l4_set_check want) ≤ 2
unfolding l4_set_check
set_short (One n) = omega arith
set_short TcpOrUdp = omega arith

pub l4_short : (at : ℕ) (want : L4Set) → length (l4_check at want) ≤ 3
unfolding l4_check
l4_short at want = omega (arith, set_short want)

header_short : (v : Version) (n : ℕ) → length (header v n) ≤ 3
unfolding header4 header6
header_short V4 n = omega arith
header_short V6 n = omega arith

pub path_short : (at n : ℕ) (want : L4Set) (v : Version) → length (l4_check at want ++ header v n) ≤ 6
path_short at n want v = rw length-append (omega (arith, l4_short at want, header_short v n))

module _ (at n : ℕ) (want : L4Set) (v : Version) where
  version_short : (r : Option L4Set) (q : Option ℕ) → length (version r q at want (header v n)).block ≤ 14
  version_short None None = omega (arith, path_short at n want v)
  version_short None (Some p) =
      either (λ (p : Prologue). length p.block ≤ 14) (contains want p) (omega (arith, header_short v n)) (omega (arith, path_short at n want v))
  version_short (Some r) q = omega (arith, l4_short at want)

dual_short : (off : Option ℕ) (n : ℕ) (want : L4Set) (g : Facts) → length (dual off n want g).block ≤ 14
unfolding dual_path fork l4_check l4_set_check header4 header6
dual_short None n want g = omega arith
dual_short (Some off) n (One p) g = omega arith
dual_short (Some off) n TcpOrUdp g = omega arith

prereqs_short : (L : LinkType) (want : L4Set) (g : Facts) → length (port_prereqs L want g).block ≤ 14
unfolding port_prereqs
prereqs_short L want g =
    let n = net_offset L in
    either (Short 14) (ready_for g.ports_ready want) (omega arith)
    (either (Short 14) (holds g.ethertype 0x0800) (version_short (n + 9) n want V4 g.ports_ready g.ip4_proto)
    (either (Short 14) (holds g.ethertype 0x86dd) (version_short (n + 6) n want V6 g.ports_ready g.ip6_nh)
    (dual_short (ether_proto_offset L) n want g)))

module _ (L : LinkType) where
  version_l4_short : (v : Version) (n : ℕ) (g : Facts) → All (Short 4) (emit_version L v n g)
  unfolding emit_l4
  version_l4_short v n g =
      all_bind (Short 2) (Short 4) (emit_ethertype L (ether_of v) g) _ (ethertype_short L (ether_of v) g)
      (λ c h. either (All (Short 4)) (holds (proto_fact v c.facts) n) (omega arith) (rw length-append (omega arith)))

  -- a guard after nothing
  known_short : (n : ℕ) (k : Option ℕ) (emit : ℕ → Facts → Out Code) (g : Facts) → ((v : ℕ) → All (Short n) (emit v g)) → All (Short n) (hoist_known L k emit (code [] g))
  known_short n None emit g h = omega arith
  known_short n (Some v) emit g h = all_bind (Short n) (Short n) (emit v g) _ (h v) (λ d j. j)

-- what a prologue adds at most
pub prereqs_size : (L : LinkType) (want : L4Set) (g : Facts) {e f : Emitter} → Grew (port_prereqs L want g) e f → Sized 14 e f
prereqs_size L want g h = sized 14 (prereqs_short L want g) h

-- ---- the parts of a prologue

-- a block by the link's offset after other code
pub then_at : {c : Code} {e f k : Emitter} (B : ℕ → Block) → Grew c e f → Grows (B (net_offset f.link)) f k
    → Grew (code (c.block ++ B (net_offset e.link)) c.facts) e k
then_at {c} {e} {f} {k} B p q =
    let s = subst (λ (L : LinkType). Grows (B (net_offset L)) f k) p.kept.link q in
    subst (λ (g : Facts). Grew (code (c.block ++ B (net_offset e.link)) g) e k) p.facts (then p s)

-- the dual path as the code has it
pub dual_parts : (off n d : ℕ) (want : L4Set) → d ≡ length (l4_set_check want)
    → (Plain (LdAbs Half off) ∷ Branch Jeq 0x86dd Jt (Skip (d + 6)) ∷ need 0x0800 ∷ []) ++ (l4_check (n + 9) want ++ header4 n) ++ (Jump (Skip (d + 2)) ∷ []) ++ l4_check (n + 6) want ++ header6
    ≡ dual_path off n want
unfolding dual_path fork l4_check l4_set_check header4 header6
dual_parts off n d (One p) e = rw e
dual_parts off n d TcpOrUdp e = rw e

-- ---- hoisted guards

-- the test for a raw link
pub raw : (L : LinkType) {b : Bool} → b ≡ not (sameb the_type L RawIp) → is_raw L ≡ not b
raw Ethernet e = rw e
raw RawIp e = rw e
raw LinuxSll e = rw e

-- a guard that is known, and ports that are required
module _ (L : LinkType) {e f : Emitter} where
  pub known_follows : {k : Option ℕ} {v : ℕ} (emit : ℕ → Facts → Out Code) {r : Out (Unit {0})} → k ≡ Some v → Replies (emit v e.facts) e f r
      → Follows (hoist_known L k emit) e f r
  known_follows {v = v} emit {r} q h =
      rw q (record { on = λ c d p. after_reply (emit v c.facts) r p (subst (λ (g : Facts). Replies (emit v g) e f r) p.facts h) })

  pub ports_follow : {k : Option L4Set} {want : L4Set} → k ≡ Some want → Grew (port_prereqs L want e.facts) e f → Follows (hoist_ports L k) e f (Ok tt)
  ports_follow {want = want} q h =
      rw q (record { on = λ c d p. answer (then p (subst (λ (g : Facts). Grew (port_prereqs L want g) e f) p.facts h)) })

-- a step's size, by what it adds to nothing
step_size : {step : Code → Out Code} {e f : Emitter} {r : Out (Unit {0})} {u : Unit {0}} (n : ℕ) → Follows step e f r → All (Short n) (step (code [] e.facts)) → r ≡ Ok u → Sized n e f
step_size {e = e} n h s d = went_size n s (reply_done (h.on _ e (none e)) d)

pub ethertype_size : (et : Option ℕ) {e f : Emitter} {r : Out (Unit {0})} {u : Unit {0}} → Follows (hoist_ethertype et e.link) e f r → r ≡ Ok u → Sized 2 e f
ethertype_size et {e} h d = step_size 2 h (known_short e.link 2 (cond (is_raw e.link) None et) (emit_ethertype e.link) e.facts (λ v. ethertype_short e.link v e.facts)) d

pub l4_size : (v : Version) (n : Option ℕ) {e f : Emitter} {r : Out (Unit {0})} {u : Unit {0}} → Follows (hoist_l4 v n e.link) e f r → r ≡ Ok u → Sized 4 e f
l4_size v n {e} h d = step_size 4 h (known_short e.link 4 n (emit_version e.link v) e.facts (λ p. version_l4_short e.link v p e.facts)) d

-- a step after an answer
follow : {o : Out Code} {d e f : Emitter} {r : Out (Unit {0})} (step : LinkType → Code → Out Code) (w : Went o d e) → Follows (step e.link) e f r
    → Replies (step d.link w.code) d f r
follow {d = d} {e} {f} {r} step w h = subst (λ (L : LinkType). Replies (step L w.code) d f r) w.grew.kept.link (h.on w.code d w.grew)

-- the steps of `or_hoist`, one after another
module _ (g : GuardSet) {e e₁ : Emitter} {r₁ : Out (Unit {0})} (h₁ : Follows (hoist_ethertype g.ethertype e.link) e e₁ r₁) where
  first : Replies (hoist_ethertype g.ethertype e.link (code [] e.facts)) e e₁ r₁
  first = h₁.on _ e (none e)

  pub first_refused : {q : Refusal} → r₁ ≡ Err q → Replies (or_hoist e.link g e.facts) e e₁ (Err q)
  unfolding or_hoist
  first_refused d = bind_refused first d _

  module _ {u₁ : Unit {0}} {e₂ : Emitter} {r₂ : Out (Unit {0})} (d₁ : r₁ ≡ Ok u₁) (h₂ : Follows (hoist_l4 V4 g.ip4_proto e₁.link) e₁ e₂ r₂) where
    second : Replies (hoist_l4 V4 g.ip4_proto e.link (reply_done first d₁).code) e e₂ r₂
    second = follow (hoist_l4 V4 g.ip4_proto) (reply_done first d₁) h₂

    pub second_refused : {q : Refusal} → r₂ ≡ Err q → Replies (or_hoist e.link g e.facts) e e₂ (Err q)
    unfolding or_hoist
    second_refused d = rw (reply_done first d₁).eq (bind_refused second d _)

    module _ {u₂ : Unit {0}} {e₃ : Emitter} {r₃ : Out (Unit {0})} (d₂ : r₂ ≡ Ok u₂) (h₃ : Follows (hoist_l4 V6 g.ip6_nh e₂.link) e₂ e₃ r₃) where
      third : Replies (hoist_l4 V6 g.ip6_nh e.link (reply_done second d₂).code) e e₃ r₃
      third = follow (hoist_l4 V6 g.ip6_nh) (reply_done second d₂) h₃

      pub third_refused : {q : Refusal} → r₃ ≡ Err q → Replies (or_hoist e.link g e.facts) e e₃ (Err q)
      unfolding or_hoist
      third_refused d = rw ((reply_done first d₁).eq, (reply_done second d₂).eq) (bind_refused third d _)

      pub hoisted : {u₃ : Unit {0}} {f : Emitter} → r₃ ≡ Ok u₃ → Follows (hoist_ports e₃.link g.port_prereqs) e₃ f (Ok tt) → Replies (or_hoist e.link g e.facts) e f (Ok tt)
      unfolding or_hoist
      hoisted d h =
          let z = follow (λ L. hoist_ports L g.port_prereqs) (reply_done third d) h in
          rw ((reply_done first d₁).eq, (reply_done second d₂).eq, (reply_done third d).eq) z
