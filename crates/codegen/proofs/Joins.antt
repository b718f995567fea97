-- The whole tree: its code decides its direct reading.
use Rattle.std.specs.Prelude.{Option, None, Some, IfSome}
use Rattle.std.specs.Prelude.{Ok, Err}
use Prim.Native.Nat.{ℕ}
use mathlib.Core.Path.{◌≡◌, refl, sym, ◌∙◌}
use mathlib.Core.List.{List, []}
use mathlib.Core.Bool.{Bool, true, false, cond, ◌&&◌, ◌||◌, and-true}
use Rattle.std.proofs.lemmas.Bool.{and_parts, and_from}
use Rattle.error.specs.Answer.{Out, ◌>>=◌}
use Rattle.error.proofs.All.{cases, either, All, all_bind}
use Rattle.bpf.specs.Bytes.{AreBytes}
use Rattle.ast.specs.declared.LinkType.{LinkType}
use Rattle.ast.specs.declared.Proto.{Proto}
use Rattle.ast.specs.declared.Proto.TheVariants.{Ip, Ip6, Arp, Rarp, Tcp, Udp, Icmp, Icmp6, Igmp, Sctp, Num, Ip6Proto}
use Rattle.ast.specs.declared.Primitive.{Primitive}
use Rattle.ast.specs.declared.Primitive.TheVariants.{Protocol, Host4, Host6, Net, Net6, Port, PortRange, EtherHost, EtherProto, EtherMulticast, IpBroadcast, IpMulticast, Ip6Multicast, IpProtoChain, Ip6ProtoChain}
use Rattle.ast.specs.Tree.{Expr, Leaf, And, Or, Not}
use Rattle.ast.proofs.Proper.{Proper}
use Rattle.direct.specs.Reading.{port_set, kind, ipv4, ipv6, reads_proto, transport, reads_primitive, reads}
use Rattle.codegen.specs.declared.L4Set.{L4Set}
use Rattle.codegen.specs.declared.Facts.{Facts}
use Rattle.codegen.specs.declared.GuardSet.{GuardSet}
use Rattle.codegen.specs.Facts.{contains, no_guards, intersect}
use Rattle.codegen.specs.Protocols.{l4set_for}
use Rattle.codegen.specs.Guards.{guards, set_of, primitive_guards, required_guards}
use Rattle.codegen.specs.declared.Side.TheVariants.{Success}
use Rattle.codegen.specs.Block.{Block, settle, turn, otherwise, resolved, far, writes_x}
use Rattle.codegen.specs.Emit.{is_raw, Code, code, emit_ethertype, emit_ip4_l4, emit_ip6_l4, hoist_known, hoist_ports, or_hoist, emit, restored_after}
use Rattle.codegen.proofs.Laws.{Never, Maybe, seq, settled, else, negated, equal, allow, learning, known, kept}
use Rattle.codegen.proofs.KnownLaws.{GuardsSay, union_says, intersect_left, intersect_right}
use Rattle.codegen.proofs.FactsHold.{or_cases, Passes, Raw, raw_both, has_ports, header_length, Holds, holds_meet_left, holds_meet_right, holds_restored}
use Rattle.codegen.proofs.Prologue.{prereqs_ready, prereqs_ethertype}
use Rattle.codegen.proofs.Conditions.{set_same, transport_is, Emits, ethertype_emits, ip4_emits, ip6_emits, condition_emits}

-- a block whose jumps fit goes on
pub resolved_then : {A : Type 0} (q : A → Type 0) (b : Block) (k : Block → Out A) → (far b ≡ false → All q (k b)) → All q (resolved b >>= k)
resolved_then q b k h = cases (λ o. All q (o >>= k)) (far b) (λ e. tt) h

absorb : (H Q : Bool) → (Q ≡ true → H ≡ true) → (H && Q) ≡ Q
absorb true Q h = refl
absorb false true h = h refl
absorb false false h = refl

module _ (L : LinkType) (f : List ℕ) where
  -- ---- required guards: a frame on which a tree is true meets them

  abbrev pub Meets : GuardSet → Type 0
  Meets g = GuardsSay (Passes (kind L f)) (Passes (ipv4 L f)) (Passes (ipv6 L f)) (Passes (has_ports L f)) g

  meets_none : Meets no_guards
  meets_none = record { ethertype = tt; ip4 = tt; ip6 = tt; ports = tt }

  meets_kind : (v : ℕ) (q : Bool) → (kind L f v && q) ≡ true → Meets (guards v None None)
  meets_kind v q e = record { ethertype = (and_parts (kind L f v) q e).0; ip4 = tt; ip6 = tt; ports = tt }

  ipv4_kind : (p : ℕ) → ipv4 L f p ≡ true → kind L f 0x0800 ≡ true
  unfolding ipv4
  ipv4_kind p e = (and_parts (kind L f 0x0800) _ e).0

  ipv6_kind : (p : ℕ) → ipv6 L f p ≡ true → kind L f 0x86dd ≡ true
  unfolding ipv6
  ipv6_kind p e = (and_parts (kind L f 0x86dd) _ e).0

  meets_ip4 : (p : ℕ) → ipv4 L f p ≡ true → Meets (guards 0x0800 (Some p) None)
  meets_ip4 p e = record { ethertype = ipv4_kind p e; ip4 = e; ip6 = tt; ports = tt }

  meets_ip6 : (p : ℕ) → ipv6 L f p ≡ true → Meets (guards 0x86dd None (Some p))
  meets_ip6 p e = record { ethertype = ipv6_kind p e; ip4 = tt; ip6 = e; ports = tt }

  meets_only : (v : ℕ) → kind L f v ≡ true → Meets (guards v None None)
  meets_only v e = record { ethertype = e; ip4 = tt; ip6 = tt; ports = tt }

  transport_ports : (p : Option Proto) (ask : ℕ → Bool) → transport L f (port_set p) ask ≡ true → IfSome (set_of (l4set_for p)) (Passes (has_ports L f))
  transport_ports p ask e = go (l4set_for p) (set_same p)
    where
      go : (o : Out L4Set) → All (λ want. (q : ℕ) → port_set p q ≡ contains want q) o → IfSome (set_of o) (Passes (has_ports L f))
      go (Err r) h = tt
      go (Ok want) h = (and_parts (has_ports L f want) (ask (header_length L f)) (sym (transport_is L f (port_set p) want ask h) ∙ e)).0

  proto_meets : (p : Proto) → reads_proto L f p ≡ true → Meets (primitive_guards (Protocol p))
  unfolding primitive_guards reads_proto
  proto_meets Ip e = meets_only 0x0800 e
  proto_meets Ip6 e = meets_only 0x86dd e
  proto_meets Arp e = meets_only 0x0806 e
  proto_meets Rarp e = meets_only 0x8035 e
  proto_meets Tcp e = meets_ip4 6 e
  proto_meets Udp e = meets_ip4 17 e
  proto_meets Icmp e = meets_ip4 1 e
  proto_meets Icmp6 e = meets_ip6 58 e
  proto_meets Igmp e = meets_ip4 2 e
  proto_meets Sctp e = meets_ip4 132 e
  proto_meets (Num n) e = meets_ip4 n e
  proto_meets (Ip6Proto n) e = meets_ip6 n e

  condition_meets : (p : Primitive) → reads_primitive L f p ≡ true → Meets (primitive_guards p)
  unfolding primitive_guards reads_primitive
  condition_meets (Protocol p) e = proto_meets p e
  condition_meets (Host4 d a) e = meets_kind 0x0800 _ e
  condition_meets (Host6 d a) e = meets_kind 0x86dd _ e
  condition_meets (Net d a m) e = meets_kind 0x0800 _ e
  condition_meets (Net6 d p a) e = meets_kind 0x86dd _ e
  condition_meets (Port d p k) e = record { ethertype = tt; ip4 = tt; ip6 = tt; ports = transport_ports p _ e }
  condition_meets (PortRange d p lo hi) e = record { ethertype = tt; ip4 = tt; ip6 = tt; ports = transport_ports p _ e }
  condition_meets (EtherHost d a) e = meets_none
  condition_meets (EtherProto v) e = meets_only v e
  condition_meets EtherMulticast e = meets_none
  condition_meets IpBroadcast e = meets_kind 0x0800 _ e
  condition_meets IpMulticast e = meets_kind 0x0800 _ e
  condition_meets Ip6Multicast e = meets_kind 0x86dd _ e
  condition_meets (IpProtoChain p) e = meets_ip4 p e
  condition_meets (Ip6ProtoChain p) e = meets_ip6 p e

  pub tree_meets : (t : Expr) → reads L f t ≡ true → Meets (required_guards t)
  unfolding required_guards reads
  tree_meets (Leaf p) e = condition_meets p e
  tree_meets (And l r) e =
      union_says (required_guards l) (required_guards r) (tree_meets l (and_parts (reads L f l) (reads L f r) e).0) (tree_meets r (and_parts (reads L f l) (reads L f r) e).1)
  tree_meets (Or l r) e =
      or_cases (reads L f l) (reads L f r) (λ p. intersect_left (required_guards l) (required_guards r) (tree_meets l p))
      (λ p. intersect_right (required_guards l) (required_guards r) (tree_meets r p)) e
  tree_meets (Not t) e = meets_none

  -- ---- hoisting: the tests that both sides of an `or` need

  -- the question that a hoisted test decides
  abbrev asks : {A : Type 0} → Option A → (A → Bool) → Bool
  asks None q = true
  asks (Some a) q = q a

  hoist_known_lem : (k : Option ℕ) (e : ℕ → Facts → Out Code) (q : ℕ → Bool) → ((v : ℕ) (g : Facts) → Raw L g.ethertype → All (Emits L f Never g (q v)) (e v g))
      → (g : Facts) (P : Bool) (c : Code) → Emits L f Never g P c → All (Emits L f Never g (P && asks k q)) (hoist_known L k e c)
  hoist_known_lem None e q h g P c k = record { decides = equal (sym (and-true P)) k.decides; raw = k.raw }
  hoist_known_lem (Some v) e q h g P c k =
      all_bind (Emits L f Never c.facts (q v)) _ (e v c.facts) _ (h v c.facts k.raw) (λ d j. record { decides = seq k.decides j.decides; raw = j.raw })

  hoist_ports_lem : (k : Option L4Set) (g : Facts) (P : Bool) (c : Code) → Emits L f Never g P c → All (Emits L f Never g (P && asks k (has_ports L f))) (hoist_ports L k c)
  hoist_ports_lem None g P c k = record { decides = equal (sym (and-true P)) k.decides; raw = k.raw }
  hoist_ports_lem (Some want) g P c k =
      record {
        decides = seq k.decides (learning (λ a x e h. h.0) (prereqs_ready L f want c.facts k.raw));
        raw = rw (prereqs_ethertype L f want c.facts) k.raw;
      }

  -- all the questions of a hoist
  abbrev wanted : GuardSet → Bool
  wanted r =
      (((true && asks (cond (is_raw L) None r.ethertype) (kind L f)) && asks r.ip4_proto (ipv4 L f)) && asks r.ip6_nh (ipv6 L f))
      && asks r.port_prereqs (has_ports L f)

  hoist_emits : (r : GuardSet) (g : Facts) → Raw L g.ethertype → All (Emits L f Never g (wanted r)) (or_hoist L r g)
  unfolding or_hoist
  hoist_emits r g raw =
      all_bind _ _ (hoist_known L (cond (is_raw L) None r.ethertype) (emit_ethertype L) (code [] g)) _
      (hoist_known_lem (cond (is_raw L) None r.ethertype) (emit_ethertype L) (kind L f) (ethertype_emits L f) g true (code [] g) (record { decides = known (λ a x h. (refl, h)); raw = raw }))
      (λ a h. all_bind _ _ (hoist_known L r.ip4_proto (emit_ip4_l4 L) a) _
      (hoist_known_lem r.ip4_proto (emit_ip4_l4 L) (ipv4 L f) (ip4_emits L f) g _ a h)
      (λ b h. all_bind _ _ (hoist_known L r.ip6_nh (emit_ip6_l4 L) b) _
      (hoist_known_lem r.ip6_nh (emit_ip6_l4 L) (ipv6 L f) (ip6_emits L f) g _ b h)
      (λ c h. hoist_ports_lem r.port_prereqs g _ c h)))

  says_asks : {A : Type 0} (k : Option A) (q : A → Bool) → IfSome k (Passes q) → asks k q ≡ true
  says_asks None q h = refl
  says_asks (Some a) q h = h

  meets_wanted : (r : GuardSet) → Meets r → wanted r ≡ true
  meets_wanted r m =
      and_from _ _
      (and_from _ _
      (and_from _ _ (says_asks (cond (is_raw L) None r.ethertype) (kind L f) (either (λ k. IfSome k (Passes (kind L f))) (is_raw L) tt m.ethertype)) (says_asks r.ip4_proto (ipv4 L f) m.ip4))
      (says_asks r.ip6_nh (ipv6 L f) m.ip6))
      (says_asks r.port_prereqs (has_ports L f) m.ports)

  -- ---- the tree

  pub tree_emits : AreBytes f → (t : Expr) → Proper t → (g : Facts) → Raw L g.ethertype → All (Emits L f Maybe g (reads L f t)) (emit L t g)
  unfolding emit reads required_guards
  tree_emits z (Leaf p) h g raw = condition_emits L f z p h g raw
  tree_emits z (And l r) h g raw =
      all_bind (Emits L f Maybe g (reads L f l)) _ (emit L l g) _ (tree_emits z l h.0 g raw)
      (λ b hb. resolved_then _ (settle Success 0 b.block) _
      (λ e. all_bind (Emits L f Maybe b.facts (reads L f r)) _ (emit L r b.facts) _ (tree_emits z r h.1 b.facts hb.raw)
      (λ c hc. record { decides = seq (settled hb.decides) hc.decides; raw = hc.raw })))
  tree_emits z (Or l r) h g raw =
      all_bind (Emits L f Never g (wanted (intersect (required_guards l) (required_guards r)))) _ (or_hoist L (intersect (required_guards l) (required_guards r)) g) _
      (hoist_emits (intersect (required_guards l) (required_guards r)) g raw)
      (λ a ha. all_bind (Emits L f Maybe a.facts (reads L f l)) _ (emit L l a.facts) _ (tree_emits z l h.0 a.facts ha.raw)
      (λ b hb. resolved_then _ (otherwise b.block) _
      (λ e. all_bind (Emits L f Maybe (restored_after b.block a.facts) (reads L f r)) _ (emit L r (restored_after b.block a.facts)) _
      (tree_emits z r h.1 (restored_after b.block a.facts) ha.raw)
      (λ c hc.
      record {
        decides = equal (absorb (wanted (intersect (required_guards l) (required_guards r))) (reads L f l || reads L f r) (λ t. meets_wanted (intersect (required_guards l) (required_guards r)) (tree_meets (Or l r) t)))
            (seq ha.decides (else hb.decides
            (kept f b.block (Holds L f a.facts) (Holds L f (restored_after b.block a.facts)) (λ x y k s. holds_restored L f (writes_x b.block) a.facts x y k s))
            (λ v x k. holds_meet_left L f b.facts c.facts x k)
            (learning (λ v x t k. holds_meet_right L f b.facts c.facts x k) hc.decides)));
        raw = raw_both L b.facts.ethertype c.facts.ethertype hb.raw hc.raw;
      }))))
  tree_emits z (Not t) h g raw =
      all_bind (Emits L f Maybe g (reads L f t)) _ (emit L t g) _ (tree_emits z t h g raw)
      (λ b hb. resolved_then _ (turn (otherwise b.block)) _
      (λ e.
      record {
        decides = allow (negated hb.decides
            (kept f b.block (Holds L f g) (Holds L f (restored_after b.block g)) (λ x y k s. holds_restored L f (writes_x b.block) g x y k s)));
        raw = raw;
      }))
