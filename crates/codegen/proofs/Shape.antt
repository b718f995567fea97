-- The shape of what the generator emits: its loads, its numbers, its jumps and its length.
use Rattle.std.specs.Prelude.{Option, None, Some, IfSome}
use Rattle.std.specs.Prelude.{Ok, Err}
use Prim.Native.Nat.{ℕ, suc, ◌+◌, ◌*◌, ◌-◌, ◌≤◌}
use mathlib.Core.List.{List, [], ◌∷◌, ◌++◌}
use mathlib.Core.Bool.{cond}
use native.Mathlib.Omega.{arith}
use native.Mathlib.Nat.{le_refl, le_trans}
use lib.ListN.{length, length-append}
use lib.Dec.{eqb, leb}
use lib.Bits.{bit_and, and_le_l}
use borrow.Author.Tests.{leb-false}
use Rattle.error.specs.Answer.{Out}
use Rattle.error.proofs.All.{cases, either, All, all_bind, all_map}
use Rattle.bpf.proofs.Bytes.{be_small}
use Rattle.bpf.specs.Program.{Each}
use Rattle.ast.specs.declared.LinkType.{LinkType}
use Rattle.ast.specs.declared.LinkType.TheVariants.{Ethernet, RawIp, LinuxSll}
use Rattle.ast.specs.declared.Dir.{Dir}
use Rattle.ast.specs.declared.Dir.TheVariants.{SrcOrDst, Src, Dst, SrcAndDst}
use Rattle.ast.specs.declared.Proto.{Proto}
use Rattle.ast.specs.declared.Proto.TheVariants.{Tcp, Udp, Sctp, Ip6Proto}
use Rattle.ast.specs.declared.Primitive.{Primitive}
use Rattle.ast.specs.declared.Primitive.TheVariants.{Protocol, Host4, Host6, Net, Net6, Port, PortRange, EtherHost, EtherProto, EtherMulticast, IpBroadcast, IpMulticast, Ip6Multicast, IpProtoChain, Ip6ProtoChain}
use Rattle.ast.specs.Tree.{Expr, Leaf, And, Or, Not}
use Rattle.ast.proofs.Proper.{Byte, Half, Word, ProperProto, ProperPrimitive, Proper, each_bytes}
use Rattle.codegen.specs.declared.L4Set.{L4Set}
use Rattle.codegen.specs.declared.L4Set.TheVariants.{One, TcpOrUdp}
use Rattle.codegen.specs.declared.Facts.{Facts}
use Rattle.codegen.specs.declared.GuardSet.{GuardSet}
use Rattle.codegen.specs.Facts.{contains, holds, ready_for, learn_ip4, learn_ip6, intersect}
use Rattle.codegen.specs.Protocols.{row_of, small_of, known, l4set_for}
use Rattle.codegen.specs.Guards.{guards, set_of, primitive_guards, required_guards}
use Rattle.codegen.specs.declared.Width.TheVariants as W
use Rattle.codegen.specs.declared.Test.TheVariants.{Jeq}
use Rattle.codegen.specs.declared.Side.{Side}
use Rattle.codegen.specs.declared.Side.TheVariants.{Success, Failure}
use Rattle.codegen.specs.declared.Exit.TheVariants.{Leave}
use Rattle.codegen.specs.declared.Slot.TheVariants.{Jt}
use Rattle.codegen.specs.declared.Line.TheVariants.{Branch}
use Rattle.codegen.specs.Block.{Block, settle, turn, otherwise}
use Rattle.codegen.specs.Emit.{net_offset, ether_proto_offset, is_raw, Code, code, need, check, check_loads, check_blocks, check_ip6_addr, mask16, check_net6, check_range, check_mac, l4_set_check, l4_check, header4, header6, fork, dual_path, Prologue, version, dual, emit_ethertype, guarded, emit_l4, emit_ip4_l4, emit_ip6_l4, emit_row, port_prereqs, ported, turned, by_link, no_address, sender, ether, emit_primitive, hoist_known, hoist_ports, or_hoist, emit, restored_after}
use Rattle.codegen.proofs.Segment.{net_none}
use Rattle.codegen.proofs.Semantics.{length_settle}
use Rattle.codegen.proofs.KnownLaws.{GuardsSay, union_says, intersect_left}
use Rattle.codegen.proofs.Conditions.{by_link_lem}
use Rattle.codegen.proofs.Joins.{resolved_then}
use Rattle.codegen.proofs.Near.{Made, made_append, made_settle, made_turn, length_turn}

-- ---- the numbers of guards have 32 bits

abbrev pub SmallSet : L4Set → Type 0
SmallSet (One n) = Word n
SmallSet TcpOrUdp = Unit {0}

abbrev pub SmallKnown : Option ℕ → Type 0
SmallKnown k = IfSome k Word

abbrev pub SmallPorts : Option L4Set → Type 0
SmallPorts p = IfSome p SmallSet

abbrev pub SmallGuards : GuardSet → Type 0
SmallGuards g = GuardsSay Word Word Word SmallSet g

set_small : (p : Option Proto) → All SmallSet (l4set_for p)
set_small (Some Tcp) = omega arith
set_small (Some Udp) = omega arith
set_small (Some Sctp) = omega arith
set_small p = tt

ports_small : (o : Out L4Set) → All SmallSet o → SmallPorts (set_of o)
ports_small (Err r) h = tt
ports_small (Ok s) h = h

proto_small : (p : Proto) → ProperProto p → SmallGuards (primitive_guards (Protocol p))
unfolding primitive_guards
proto_small (Ip6Proto n) h = omega arith
proto_small p h = omega arith

primitive_small : (p : Primitive) → ProperPrimitive p → SmallGuards (primitive_guards p)
unfolding primitive_guards
primitive_small (Protocol p) h = proto_small p h
primitive_small (Port d p k) h = record { ethertype = tt; ip4 = tt; ip6 = tt; ports = ports_small (l4set_for p) (set_small p) }
primitive_small (PortRange d p lo hi) h = record { ethertype = tt; ip4 = tt; ip6 = tt; ports = ports_small (l4set_for p) (set_small p) }
primitive_small p h = omega arith

pub guards_small : (t : Expr) → Proper t → SmallGuards (required_guards t)
unfolding required_guards
guards_small (Leaf p) h = primitive_small p h
guards_small (And l r) h = union_says (required_guards l) (required_guards r) (guards_small l h.0) (guards_small r h.1)
guards_small (Or l r) h = intersect_left (required_guards l) (required_guards r) (guards_small l h.0)
guards_small (Not t) h = omega arith

-- ---- blocks put together

-- a block of at most n lines, made by the rule with its loads below N
pub record Shaped (N n : ℕ) (b : Block) : Type 0 where
  pub made : Made N 0 b
  pub size : length b ≤ n

module _ {N : ℕ} where
  pub more : {n : ℕ} (m : ℕ) {b : Block} → n ≤ m → Shaped N n b → Shaped N m b
  more m l h = record { made = h.made; size = le_trans h.size l }

  pub joined : {m n : ℕ} {b k : Block} → Shaped N m b → Shaped N n k → Shaped N (m + n) (b ++ k)
  joined {m} {n} {b} {k} h j = record { made = made_append N 0 b k h.made j.made; size = omega (arith, length-append b k) }

  pub settles : {n : ℕ} {b : Block} (e : Side) → Shaped N n b → Shaped N n (settle e 0 b)
  settles {n} {b} e h = record { made = made_settle N 0 0 e b (le_refl 0) h.made; size = rw (length_settle e 0 b) h.size }

  pub turns : {n : ℕ} {b : Block} → Shaped N n b → Shaped N n (turn b)
  turns {n} {b} h = record { made = made_turn N 0 b h.made; size = rw (length_turn b) h.size }

  pub others : {n : ℕ} {b : Block} → Shaped N n b → Shaped N (n + 1) (otherwise b)
  unfolding otherwise
  others h = settles Failure (joined {n = 1} h (omega arith))

  -- ---- conditions

  loads_shape : (d : Dir) (k : ℕ) {s t : Block} → Word k → Shaped N 2 s → Shaped N 2 t → Shaped N 6 (check_loads d k s t)
  unfolding check_loads
  loads_shape SrcOrDst k i h j = joined h (joined {m = 1} {b = Branch Jeq k Jt (Leave Success) ∷ []} (omega arith) (joined {n = 1} j (omega arith)))
  loads_shape Src k i h j = more 6 (omega arith) (joined {n = 1} h (omega arith))
  loads_shape Dst k i h j = more 6 (omega arith) (joined {n = 1} j (omega arith))
  loads_shape SrcAndDst k i h j = joined h (joined {m = 1} {b = need k ∷ []} (omega arith) (joined {n = 1} j (omega arith)))

  blocks_shape : {n : ℕ} (d : Dir) {s t : Block} → Shaped N n s → Shaped N n t → Shaped N (n + 1 + n) (check_blocks d s t)
  unfolding check_blocks
  blocks_shape SrcOrDst h j = joined (others h) j
  blocks_shape Src h j = more _ (omega arith) h
  blocks_shape Dst h j = more _ (omega arith) j
  blocks_shape SrcAndDst h j = more _ (omega arith) (joined h j)

  addr_shape : (at : ℕ) (ss : List ℕ) → at + 2 * length ss ≤ N → Each Half ss → Shaped N (2 * length ss) (check_ip6_addr at ss)
  unfolding check_ip6_addr
  addr_shape at [] h i = omega arith
  addr_shape at (s ∷ ss) h i = more _ (omega arith) (joined {m = 2} {b = check W.Half at s} (omega arith) (addr_shape (at + 2) ss (omega arith) i.1))

  -- only a last segment is masked
  net6_shape : (p at : ℕ) (ss : List ℕ) → at + 2 * length ss ≤ N → Each Half ss → Shaped N (2 * length ss + 1) (check_net6 p at ss)
  unfolding check_net6
  net6_shape p at [] h i = omega arith
  net6_shape p at (s ∷ ss) h i =
      let k = net6_shape (p - 16) (at + 2) ss (omega arith) i.1 in
      either (Shaped N (2 * suc (length ss) + 1)) (eqb p 0) (omega arith)
      (cases (λ b. Shaped N (2 * suc (length ss) + 1) (b ++ check_net6 (p - 16) (at + 2) ss)) (leb 16 p)
      (λ e. more _ (omega arith) (joined {m = 2} {b = check W.Half at s} (omega arith) k))
      (λ e. rw (net_none (p - 16) (at + 2) ss (omega (arith, leb-false 16 p e))) (omega (arith, and_le_l s (mask16 p)))))

  mac_shape : (a : List ℕ) (at : ℕ) → at + 6 ≤ N → Each Byte a → Shaped N 4 (check_mac a at)
  unfolding check_mac
  mac_shape a at h i = omega (arith, be_small 4 0 a (each_bytes a i), be_small 2 4 a (each_bytes a i))

  -- ---- prologues

  l4_check_shape : (at : ℕ) (s : L4Set) → at + 1 ≤ N → SmallSet s → Shaped N 3 (l4_check at s)
  unfolding l4_check l4_set_check
  l4_check_shape at (One n) h i = omega arith
  l4_check_shape at TcpOrUdp h i = omega arith

  version_shape : (r : Option L4Set) (q : Option ℕ) (at : ℕ) (s : L4Set) {header : Block} → at + 1 ≤ N → SmallSet s → Shaped N 3 header
      → Shaped N 6 (version r q at s header).block
  version_shape None None at s h i j = joined (l4_check_shape at s h i) j
  version_shape None (Some p) at s h i j = either (λ (p : Prologue). Shaped N 6 p.block) (contains s p) (more 6 (omega arith) j) (joined (l4_check_shape at s h i) j)
  version_shape (Some r) q at s h i j = more 6 (omega arith) (l4_check_shape at s h i)

-- at most so many lines for a tree
abbrev pub weight : Expr → ℕ
weight (Leaf p) = 37
weight (And l r) = weight l + weight r
weight (Or l r) = 24 + (weight l + 1 + weight r)
weight (Not t) = weight t + 1

-- an answer's block has at most n lines
abbrev pub Fits : LinkType → ℕ → Code → Type 0
Fits L n c = Shaped (net_offset L + 64) n c.block

pub ethertype_shape : (L : LinkType) (v : ℕ) (g : Facts) → Word v → All (Fits L 2) (emit_ethertype L v g)
unfolding emit_ethertype
ethertype_shape Ethernet v g i = either (All (Fits Ethernet 2)) (holds g.ethertype v) (omega arith) (omega arith)
ethertype_shape RawIp v g i = either (All (Fits RawIp 2)) (eqb v 0x0800) (omega arith) tt
ethertype_shape LinuxSll v g i = either (All (Fits LinuxSll 2)) (holds g.ethertype v) (omega arith) (omega arith)

dual_shape : (L : LinkType) (s : L4Set) (g : Facts) → SmallSet s → Fits L 14 (dual (ether_proto_offset L) (net_offset L) s g)
unfolding dual_path fork l4_check l4_set_check header4 header6
dual_shape Ethernet (One p) g i = omega arith
dual_shape LinuxSll (One p) g i = omega arith
dual_shape L s g i = omega arith

module _ (L : LinkType) where
  guarded_shape : (v : ℕ) (g : Facts) {n : ℕ} {b : Block} → Shaped (net_offset L + 64) n b → Word v × (n ≤ 35) → All (Fits L 37) (guarded L v b g)
  unfolding guarded
  guarded_shape v g h i = all_bind (Fits L 2) (Fits L 37) (emit_ethertype L v g) _ (ethertype_shape L v g i.0) (λ c k. more 37 (omega arith) (joined k h))

  emit_l4_shape : (v at : ℕ) (get : Facts → Option ℕ) (learn : Facts → ℕ → Facts) (p : ℕ) (g : Facts) → Word v × (at + 1 ≤ net_offset L + 64) × Word p
      → All (Fits L 4) (emit_l4 L v at get learn p g)
  unfolding emit_l4
  emit_l4_shape v at get learn p g i =
      all_bind (Fits L 2) (Fits L 4) (emit_ethertype L v g) _ (ethertype_shape L v g i.0)
      (λ c k. either (All (Fits L 4)) (holds (get c.facts) p) (more 4 (omega arith) k) (joined {n = 2} k (omega arith)))

  pub ip4_shape : (p : ℕ) (g : Facts) → Word p → All (Fits L 4) (emit_ip4_l4 L p g)
  ip4_shape p g i = emit_l4_shape 0x0800 (net_offset L + 9) (λ g. g.ip4_proto) learn_ip4 p g (omega arith)

  pub ip6_shape : (p : ℕ) (g : Facts) → Word p → All (Fits L 4) (emit_ip6_l4 L p g)
  ip6_shape p g i = emit_l4_shape 0x86dd (net_offset L + 6) (λ g. g.ip6_nh) learn_ip6 p g (omega arith)

  pub prereqs_shape : (s : L4Set) (g : Facts) → SmallSet s → Fits L 14 (port_prereqs L s g)
  unfolding port_prereqs header4 header6
  prereqs_shape s g i =
      either (Fits L 14) (ready_for g.ports_ready s) (omega arith)
      (either (Fits L 14) (holds g.ethertype 0x0800) (more 14 (omega arith) (version_shape g.ports_ready g.ip4_proto (net_offset L + 9) s (omega arith) i (omega arith)))
      (either (Fits L 14) (holds g.ethertype 0x86dd) (more 14 (omega arith) (version_shape g.ports_ready g.ip6_nh (net_offset L + 6) s (omega arith) i (omega arith)))
      (dual_shape L s g i)))

  ported_shape : (p : Option Proto) (g : Facts) {n : ℕ} {b : Block} → Shaped (net_offset L + 64) n b → n ≤ 23 → All (Fits L 37) (ported L p b g)
  unfolding ported
  ported_shape p g h l = all_bind SmallSet (Fits L 37) (l4set_for p) _ (set_small p) (λ s i. more 37 (omega arith) (joined (prereqs_shape s g i) h))

  ether_shape : (g : Facts) {n : ℕ} {b : Block} (cooked : Out Block) → Shaped (net_offset L + 64) n b → n ≤ 37
      → All (Shaped (net_offset L + 64) 37) cooked → All (Fits L 37) (ether L b cooked g)
  unfolding ether
  ether_shape g {b = b} cooked h l j =
      all_bind (Shaped (net_offset L + 64) 37) _ (by_link L b cooked) _ (by_link_lem (λ l. Shaped (net_offset L + 64) 37) L b cooked (more 37 l h) j) (λ k s. s)

  sender_shape : (d : Dir) (a : List ℕ) → Each Byte a → All (Shaped (net_offset L + 64) 37) (sender d (check_mac a 6))
  sender_shape Src a h = more 37 (omega arith) (joined {m = 2} {b = check W.Half 4 6} (omega arith) (mac_shape a 6 (omega arith) h))
  sender_shape d a h = tt

  -- ---- primitives

  up : (n : ℕ) (o : Out Code) → n ≤ 37 → All (Fits L n) o → All (Fits L 37) o
  up n o l h = all_map (Fits L n) (Fits L 37) o (λ c k. more 37 l k) h

  row_shape : (v : ℕ) (p n : Option ℕ) (g : Facts) → SmallGuards (guards v p n) → All (Fits L 37) (emit_row L v p n g)
  row_shape v None None g s = up 2 (emit_ethertype L v g) (omega arith) (ethertype_shape L v g s.ethertype)
  row_shape v None (Some n) g s = up 4 (emit_ip6_l4 L n g) (omega arith) (ip6_shape n g s.ip6)
  row_shape v (Some p) n g s = up 4 (emit_ip4_l4 L p g) (omega arith) (ip4_shape p g s.ip4)

  pub primitive_shape : (p : Primitive) (g : Facts) → ProperPrimitive p → All (Fits L 37) (emit_primitive L p g)
  unfolding emit_primitive primitive_guards check_range
  primitive_shape (Protocol p) g h =
      row_shape (row_of p).ethertype (known (row_of p).ip4_proto (small_of p)) (known (row_of p).ip6_nh (small_of p)) g (proto_small p h)
  primitive_shape (Host4 d a) g h = guarded_shape 0x0800 g (loads_shape d a h (omega arith) (omega arith)) (omega arith)
  primitive_shape (Host6 d a) g h =
      guarded_shape 0x86dd g (blocks_shape d (addr_shape (net_offset L + 8) a (omega arith) h.1) (addr_shape (net_offset L + 24) a (omega arith) h.1)) (omega arith)
  primitive_shape (Net d a m) g h = guarded_shape 0x0800 g (loads_shape d (bit_and a m) (omega (arith, and_le_l a m)) (omega arith) (omega arith)) (omega arith)
  primitive_shape (Net6 d p a) g h =
      guarded_shape 0x86dd g (blocks_shape d (net6_shape p (net_offset L + 8) a (omega arith) h.1) (net6_shape p (net_offset L + 24) a (omega arith) h.1)) (omega arith)
  primitive_shape (Port d p k) g h = ported_shape p g (loads_shape d k (omega arith) (omega arith) (omega arith)) (omega arith)
  primitive_shape (PortRange d p lo hi) g h = ported_shape p g (blocks_shape {n = 3} d (omega arith) (omega arith)) (omega arith)
  primitive_shape (EtherHost d a) g h =
      ether_shape g (sender d (check_mac a 6)) (blocks_shape (turned d) (mac_shape a 0 (omega arith) h.1) (mac_shape a 6 (omega arith) h.1)) (omega arith) (sender_shape d a h.1)
  primitive_shape (EtherProto v) g h = row_shape v None None g (omega arith)
  primitive_shape EtherMulticast g h = ether_shape g {n = 2} no_address (omega arith) (omega arith) tt
  primitive_shape IpBroadcast g h = guarded_shape 0x0800 g {n = 2} (omega arith) (omega arith)
  primitive_shape IpMulticast g h = guarded_shape 0x0800 g {n = 3} (omega arith) (omega arith)
  primitive_shape Ip6Multicast g h = guarded_shape 0x86dd g {n = 2} (omega arith) (omega arith)
  primitive_shape (IpProtoChain n) g h = row_shape 0x0800 (Some n) None g (omega arith)
  primitive_shape (Ip6ProtoChain n) g h = row_shape 0x86dd None (Some n) g (omega arith)

  -- ---- joins

  known_shape : (m n : ℕ) (k : Option ℕ) (e : ℕ → Facts → Out Code) → SmallKnown k → ((v : ℕ) (g : Facts) → Word v → All (Fits L n) (e v g))
      → (c : Code) → Fits L m c → All (Fits L (m + n)) (hoist_known L k e c)
  known_shape m n None e i h c k = more (m + n) (omega arith) k
  known_shape m n (Some v) e i h c k = all_bind (Fits L n) (Fits L (m + n)) (e v c.facts) _ (h v c.facts i) (λ d j. joined k j)

  ports_shape : (m : ℕ) (p : Option L4Set) → IfSome p SmallSet → (c : Code) → Fits L m c → All (Fits L (m + 14)) (hoist_ports L p c)
  ports_shape m None i c k = more (m + 14) (omega arith) k
  ports_shape m (Some s) i c k = joined k (prereqs_shape s c.facts i)

  pub hoist_shape : (r : GuardSet) (g : Facts) → SmallGuards r → All (Fits L 24) (or_hoist L r g)
  unfolding or_hoist
  hoist_shape r g s =
      let e = cond (is_raw L) None r.ethertype in
      all_bind (Fits L 2) _ (hoist_known L e (emit_ethertype L) (code [] g)) _
      (known_shape 0 2 e (emit_ethertype L) (either SmallKnown (is_raw L) tt s.ethertype) (ethertype_shape L) (code [] g) (omega arith))
      (λ a h. all_bind (Fits L 6) _ (hoist_known L r.ip4_proto (emit_ip4_l4 L) a) _ (known_shape 2 4 r.ip4_proto (emit_ip4_l4 L) s.ip4 ip4_shape a h)
      (λ b h. all_bind (Fits L 10) _ (hoist_known L r.ip6_nh (emit_ip6_l4 L) b) _ (known_shape 6 4 r.ip6_nh (emit_ip6_l4 L) s.ip6 ip6_shape b h)
      (λ c h. ports_shape 10 r.port_prereqs s.ports c h)))

  pub tree_shape : (t : Expr) (g : Facts) → Proper t → All (Fits L (weight t)) (emit L t g)
  unfolding emit required_guards
  tree_shape (Leaf p) g h = primitive_shape p g h
  tree_shape (And l r) g h =
      all_bind (Fits L (weight l)) _ (emit L l g) _ (tree_shape l g h.0)
      (λ b hb. resolved_then _ (settle Success 0 b.block) _
      (λ e. all_bind (Fits L (weight r)) _ (emit L r b.facts) _ (tree_shape r b.facts h.1) (λ c hc. joined (settles Success hb) hc)))
  tree_shape (Or l r) g h =
      let q = intersect (required_guards l) (required_guards r) in
      all_bind (Fits L 24) _ (or_hoist L q g) _ (hoist_shape q g (guards_small (Or l r) h))
      (λ a ha. all_bind (Fits L (weight l)) _ (emit L l a.facts) _ (tree_shape l a.facts h.0)
      (λ b hb. resolved_then _ (otherwise b.block) _
      (λ e. let k = restored_after b.block a.facts in
      all_bind (Fits L (weight r)) _ (emit L r k) _ (tree_shape r k h.1) (λ c hc. joined ha (joined (others hb) hc)))))
  tree_shape (Not t) g h =
      all_bind (Fits L (weight t)) _ (emit L t g) _ (tree_shape t g h)
      (λ b hb. resolved_then _ (turn (otherwise b.block)) _ (λ e. turns (others hb)))
