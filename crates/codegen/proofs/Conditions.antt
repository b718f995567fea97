-- Every condition: what the generator emits for it decides what the direct reading says of it.
use Rattle.std.specs.Prelude.{Option, None, Some, IfSome}
use Prim.Native.Nat.{ℕ, ◌+◌, ◌*◌, ◌%◌, ◌≤◌}
use mathlib.Core.Path.{◌≡◌, refl, sym, ap, ◌∙◌}
use mathlib.Core.List.{List}
use mathlib.Core.Bool.{Bool, true, false, cond, ◌&&◌, ◌||◌, and-true, and_comm, and_assoc, or_comm, or-false}
use native.Mathlib.Omega.{arith}
use native.Mathlib.Nat.{mod-lt}
use lib.Dec.{eqb, leb, lit<}
use lib.Bits.{bit_and}
use Rattle.error.specs.Answer.{Out}
use Rattle.error.proofs.All.{either, All, all_bind, all_cond, all_map}
use Rattle.bpf.specs.Bytes.{be, AreBytes}
use Rattle.bpf.proofs.Bytes.{be_small}
use Rattle.ast.specs.declared.LinkType.{LinkType}
use Rattle.ast.specs.declared.LinkType.TheVariants.{Ethernet, RawIp, LinuxSll}
use Rattle.ast.specs.declared.Dir.{Dir}
use Rattle.ast.specs.declared.Dir.TheVariants.{SrcOrDst, Src, Dst, SrcAndDst}
use Rattle.ast.specs.declared.Proto.{Proto}
use Rattle.ast.specs.declared.Proto.TheVariants.{Ip, Ip6, Arp, Rarp, Tcp, Udp, Icmp, Icmp6, Igmp, Sctp, Num, Ip6Proto}
use Rattle.ast.specs.declared.Primitive.{Primitive}
use Rattle.ast.specs.declared.Primitive.TheVariants.{Protocol, Host4, Host6, Net, Net6, Port, PortRange, EtherHost, EtherProto, EtherMulticast, IpBroadcast, IpMulticast, Ip6Multicast, IpProtoChain, Ip6ProtoChain}
use Rattle.ast.proofs.Proper.{ProperPrimitive}
use Rattle.direct.specs.Reading.{network_start, sides, port_set, kind, ipv4, ipv6, reads_proto, transport, port_test, bytes_are, from_station, to_station, to_many, reads_primitive}
use Rattle.codegen.specs.declared.L4Set.{L4Set}
use Rattle.codegen.specs.declared.Facts.{Facts}
use Rattle.codegen.specs.Facts.{contains, holds, learn_ip4, learn_ip6}
use Rattle.codegen.specs.Protocols.{l4set_for}
use Rattle.codegen.specs.declared.Width.TheVariants.{Byte, Half, Word}
use Rattle.codegen.specs.declared.Test.TheVariants.{Jeq, Jset}
use Rattle.codegen.specs.Block.{Block}
use Rattle.codegen.specs.Emit.{net_offset, ether_proto_offset, Code, ethertype_at, emit_ethertype, guarded, emit_l4, emit_ip4_l4, emit_ip6_l4, emit_proto, port_prereqs, ported, turned, check_mac, by_link, no_address, sender, ether, emit_primitive}
use Rattle.codegen.proofs.Semantics.{indexed}
use Rattle.codegen.proofs.Laws.{OfX, Never, Maybe, Decides, seq, equal, allow, learning, also, known, load, masked, lastly}
use Rattle.codegen.proofs.Numbers.{low_one, top_bits}
use Rattle.codegen.proofs.KnownLaws.{says_holds}
use Rattle.codegen.proofs.FactsHold.{Passes, Raw, raw_fill, first_part, has_ports, header_length, Holds, holds_ethertype, holds_ip4, holds_ip6}
use Rattle.codegen.proofs.Checks.{fetched, fetched_masked, fetched_indexed, checked, two_loads, two_blocks, range_decides, range_keeps, addr_keeps, net_keeps, addr_decides, net_decides, mac_keeps, mac_decides}
use Rattle.codegen.proofs.Prologue.{kind_at, Ported, prereqs_ready, prereqs_ethertype, kind_other}

-- the generator's places are those of the direct reading
pub start : (L : LinkType) → network_start L ≡ net_offset L
start RawIp = refl
start L = refl

pub start_small : (L : LinkType) → net_offset L ≤ 16
start_small RawIp = omega arith
start_small L = omega arith

kind_none : (L : LinkType) (f : List ℕ) (v : ℕ) → ether_proto_offset L ≡ None → eqb v 0x0800 ≡ kind L f v
unfolding kind
kind_none RawIp f v e = refl
kind_none L f v e = cc

-- a test of the destination and then of the source
sides_turned : (d : Dir) (s t : Bool) → sides (turned d) t s ≡ sides d s t
sides_turned SrcOrDst s t = or_comm t s
sides_turned Src s t = refl
sides_turned Dst s t = refl
sides_turned SrcAndDst s t = and_comm t s

-- what holds of the block on Ethernet, and of that on LinuxSll where there is one, holds by link
pub by_link_lem : (q : LinkType → Block → Type 0) (L : LinkType) (b : Block) (cooked : Out Block) → q Ethernet b → All (q LinuxSll) cooked → All (q L) (by_link L b cooked)
by_link_lem q Ethernet b cooked h j = h
by_link_lem q RawIp b cooked h j = tt
by_link_lem q LinuxSll b cooked h j = j

-- the generator's sets are those of the direct reading
pub set_same : (p : Option Proto) → All (λ want. (q : ℕ) → port_set p q ≡ contains want q) (l4set_for p)
set_same None = λ q. refl
set_same (Some Tcp) = λ q. refl
set_same (Some Udp) = λ q. refl
set_same (Some Sctp) = λ q. refl
set_same p = tt

-- a version's conditions and its test, gathered
gather : (k4 k6 s4 z s6 t4 t6 : Bool) → (k4 ≡ true → k6 ≡ false)
    → ((k4 && (s4 && (z && t4))) || (k6 && (s6 && t6))) ≡ (((k4 && (s4 && z)) || (k6 && (s6 && true))) && cond k4 t4 t6)
gather true k6 s4 z s6 t4 t6 h = rw (h refl) (or-false _ ∙ sym (and_assoc s4 z t4) ∙ ap (λ b. b && t4) (sym (or-false (s4 && z))))
gather false k6 s4 z s6 t4 t6 h = rw (and-true s6) (sym (and_assoc k6 s6 t6))

cond_ap : (ask : ℕ → Bool) (b : Bool) (x y : ℕ) → cond b (ask x) (ask y) ≡ ask (cond b x y)
cond_ap ask true x y = refl
cond_ap ask false x y = refl

module _ (L : LinkType) (f : List ℕ) where
  -- from the facts g, a block decides P and leaves the facts after it
  pub record Emits (S : Type 0) (g : Facts) (P : Bool) (c : Code) : Type 0 where
    pub decides : Decides f S (OfX (Holds L f g)) c.block P (OfX (Holds L f c.facts))
    pub raw : Raw L c.facts.ethertype

  pub loosely : (P : Bool) (g : Facts) (o : Out Code) → All (Emits Never g P) o → All (Emits Maybe g P) o
  loosely P g o h = all_map _ _ o (λ c e. record { decides = allow e.decides; raw = e.raw }) h

  -- ---- ethertypes and protocol bytes

  pub ethertype_emits : (v : ℕ) (g : Facts) → Raw L g.ethertype → All (Emits Never g (kind L f v)) (emit_ethertype L v g)
  unfolding emit_ethertype
  ethertype_emits v g r = go (ether_proto_offset L) refl
    where
      go : (o : Option ℕ) → ether_proto_offset L ≡ o → All (Emits Never g (kind L f v)) (ethertype_at o v g)
      go None e = all_cond _ (eqb v 0x0800) _ _ (λ t. record { decides = known (λ a x h. (sym (kind_none L f v e) ∙ t, h)); raw = r }) (λ t. tt)
      go (Some off) e =
          all_cond _ (holds g.ethertype v) _ _
          (λ t. record { decides = known (λ a x h. (says_holds g.ethertype v (Passes (kind L f)) h.ethertype t, h)); raw = r })
          (λ t. record { decides = learning (λ a x p h. holds_ethertype L f g v x h p) (equal (kind_at L f off v e) (checked Half off v)); raw = raw_fill L g.ethertype v r })

  guarded_emits : (S : Type 0) (v : ℕ) (b : Block) (Q : Bool) (g : Facts) → Raw L g.ethertype
      → ((G : ℕ → Type 0) → Decides f S (OfX G) b Q (OfX G)) → All (Emits S g (kind L f v && Q)) (guarded L v b g)
  unfolding guarded
  guarded_emits S v b Q g r h =
      all_bind (Emits Never g (kind L f v)) (Emits S g (kind L f v && Q)) (emit_ethertype L v g) _ (ethertype_emits v g r)
      (λ c k. record { decides = seq k.decides (h (Holds L f c.facts)); raw = k.raw })

  l4_emits : (v at : ℕ) (get : Facts → Option ℕ) (learn : Facts → ℕ → Facts) (p : ℕ) (g : Facts) → Raw L g.ethertype
      → ((g : Facts) (x : ℕ) → Holds L f g x → IfSome (get g) (Passes (eqb (be 1 at f))))
      → ((g : Facts) (p x : ℕ) → Holds L f g x → eqb (be 1 at f) p ≡ true → Holds L f (learn g p) x)
      → ((g : Facts) (p : ℕ) → (learn g p).ethertype ≡ g.ethertype)
      → All (Emits Never g (kind L f v && eqb (be 1 at f) p)) (emit_l4 L v at get learn p g)
  unfolding emit_l4
  l4_emits v at get learn p g r has adds keeps =
      all_bind (Emits Never g (kind L f v)) _ (emit_ethertype L v g) _ (ethertype_emits v g r)
      (λ c k. all_cond _ (holds (get c.facts) p) _ _
      (λ e. record { decides = also (eqb (be 1 at f) p) (λ a x h. says_holds (get c.facts) p (Passes (eqb (be 1 at f))) (has c.facts x h) e) k.decides; raw = k.raw })
      (λ e. record { decides = seq k.decides (learning (λ a x q h. adds c.facts p x h q) (checked Byte at p)); raw = rw (keeps c.facts p) k.raw }))

  pub ip4_emits : (p : ℕ) (g : Facts) → Raw L g.ethertype → All (Emits Never g (ipv4 L f p)) (emit_ip4_l4 L p g)
  unfolding ipv4
  ip4_emits p g r =
      rw (start L) (l4_emits 0x0800 (net_offset L + 9) (λ g. g.ip4_proto) learn_ip4 p g r (λ g x h. h.ip4) (λ g p x h. holds_ip4 L f g p x h) (λ g p. refl))

  pub ip6_emits : (p : ℕ) (g : Facts) → Raw L g.ethertype → All (Emits Never g (ipv6 L f p)) (emit_ip6_l4 L p g)
  unfolding ipv6
  ip6_emits p g r =
      rw (start L) (l4_emits 0x86dd (net_offset L + 6) (λ g. g.ip6_nh) learn_ip6 p g r (λ g x h. h.ip6) (λ g p x h. holds_ip6 L f g p x h) (λ g p. refl))

  proto_emits : (p : Proto) (g : Facts) → Raw L g.ethertype → All (Emits Never g (reads_proto L f p)) (emit_proto L p g)
  unfolding reads_proto
  proto_emits Ip g r = ethertype_emits 0x0800 g r
  proto_emits Ip6 g r = ethertype_emits 0x86dd g r
  proto_emits Arp g r = ethertype_emits 0x0806 g r
  proto_emits Rarp g r = ethertype_emits 0x8035 g r
  proto_emits Tcp g r = ip4_emits 6 g r
  proto_emits Udp g r = ip4_emits 17 g r
  proto_emits Icmp g r = ip4_emits 1 g r
  proto_emits Icmp6 g r = ip6_emits 58 g r
  proto_emits Igmp g r = ip4_emits 2 g r
  proto_emits Sctp g r = ip4_emits 132 g r
  proto_emits (Num n) g r = ip4_emits n g r
  proto_emits (Ip6Proto n) g r = ip6_emits n g r

  -- ---- ports

  length_small : header_length L f ≤ 60
  unfolding header_length
  length_small = either (λ (n : ℕ). n ≤ 60) (kind L f 0x0800) (omega (arith, mod-lt (be 1 (net_offset L) f) (lit< {m = 0} {n = 16} tt))) (omega arith)

  at_port : (k x y : ℕ) → k ≤ 18 → y ≡ header_length L f + k → x ≡ header_length L f → indexed x k ≡ y
  at_port k x y s p e = let h = length_small in omega arith

  pub transport_is : (set : ℕ → Bool) (want : L4Set) (ask : ℕ → Bool) → ((q : ℕ) → set q ≡ contains want q)
      → transport L f set ask ≡ (has_ports L f want && ask (header_length L f))
  unfolding transport has_ports header_length
  transport_is set want ask same =
      rw (start L, same (be 1 (net_offset L + 9) f), same (be 1 (net_offset L + 6) f))
      (gather (kind L f 0x0800) (kind L f 0x86dd) (contains want (be 1 (net_offset L + 9) f)) (first_part L f) (contains want (be 1 (net_offset L + 6) f))
      (ask (4 * (be 1 (net_offset L) f % 16))) (ask 40) (kind_other L f 0x0800 0x86dd refl)
      ∙ ap (λ b. has_ports L f want && b) (cond_ap ask (kind L f 0x0800) (4 * (be 1 (net_offset L) f % 16)) 40))

  ported_emits : (p : Option Proto) (b : Block) (ask : ℕ → Bool) (g : Facts) → Raw L g.ethertype
      → ((h : Facts) → Decides f Maybe (OfX (Ported L f h)) b (ask (header_length L f)) (OfX (Ported L f h)))
      → All (Emits Maybe g (transport L f (port_set p) ask)) (ported L p b g)
  unfolding ported
  ported_emits p b ask g r h =
      all_bind (λ want. (q : ℕ) → port_set p q ≡ contains want q) _ (l4set_for p) _ (set_same p)
      (λ want same.
      record {
        decides = learning (λ a x e k. k.0) (equal (sym (transport_is (port_set p) want ask same)) (seq (prereqs_ready L f want g r) (h (port_prereqs L want g).facts)));
        raw = rw (prereqs_ethertype L f want g) r;
      })

  -- the places of the ports
  source : (x : ℕ) → x ≡ header_length L f → indexed x (net_offset L) ≡ network_start L + header_length L f
  source x e = at_port (net_offset L) x _ (omega (arith, start_small L)) (omega (arith, start L)) e

  destination : (x : ℕ) → x ≡ header_length L f → indexed x (net_offset L + 2) ≡ network_start L + header_length L f + 2
  destination x e = at_port (net_offset L + 2) x _ (omega (arith, start_small L)) (omega (arith, start L)) e

  -- ---- the conditions

  ether_emits : (b : Block) (cooked : Out Block) (P : LinkType → Bool) (g : Facts) → Raw L g.ethertype
      → Decides f Maybe (OfX (Holds L f g)) b (P Ethernet) (OfX (Holds L f g))
      → All (λ k. Decides f Maybe (OfX (Holds L f g)) k (P LinuxSll) (OfX (Holds L f g))) cooked → All (Emits Maybe g (P L)) (ether L b cooked g)
  unfolding ether
  ether_emits b cooked P g r h j =
      all_bind _ _ (by_link L b cooked) _ (by_link_lem (λ l k. Decides f Maybe (OfX (Holds L f g)) k (P l) (OfX (Holds L f g))) L b cooked h j) (λ k d. record { decides = d; raw = r })

  sender_decides : AreBytes f → (d : Dir) (a : List ℕ) → ProperPrimitive (EtherHost d a) → (G : ℕ → Type 0)
      → All (λ k. Decides f Maybe (OfX G) k (sides d (from_station LinuxSll f a) (to_station LinuxSll f a)) (OfX G)) (sender d (check_mac a 6))
  sender_decides z Src a h G = allow (seq (checked Half 4 6) (mac_decides f z a 6 h.0 h.1))
  sender_decides z d a h G = tt

  pub condition_emits : AreBytes f → (p : Primitive) → ProperPrimitive p → (g : Facts) → Raw L g.ethertype
      → All (Emits Maybe g (reads_primitive L f p)) (emit_primitive L p g)
  unfolding reads_primitive emit_primitive
  condition_emits z (Protocol p) h g r = loosely (reads_proto L f p) g (emit_proto L p g) (proto_emits p g r)
  condition_emits z (Host4 d a) h g r =
      rw (start L) (guarded_emits Maybe 0x0800 _ _ g r (λ G. two_loads d a (fetched Word (net_offset L + 12)) (fetched Word (net_offset L + 16))))
  condition_emits z (Host6 d a) h g r =
      rw (start L)
      (guarded_emits Maybe 0x86dd _ _ g r
      (λ G. two_blocks d (addr_keeps (net_offset L + 8) a) (addr_decides f z 128 (net_offset L + 8) a (omega (arith, h.0))) (addr_decides f z 128 (net_offset L + 24) a (omega (arith, h.0)))))
  condition_emits z (Net d a m) h g r =
      rw (start L)
      (guarded_emits Maybe 0x0800 _ _ g r (λ G. two_loads d (bit_and a m) (fetched_masked Word (net_offset L + 12) m) (fetched_masked Word (net_offset L + 16) m)))
  condition_emits z (Net6 d p a) h g r =
      rw (start L)
      (guarded_emits Maybe 0x86dd _ _ g r
      (λ G. two_blocks d (net_keeps p (net_offset L + 8) a) (net_decides f z p (net_offset L + 8) a h.1) (net_decides f z p (net_offset L + 24) a h.1)))
  condition_emits z (Port d p k) h g r =
      ported_emits p _ (port_test L f d (λ v. eqb v k)) g r
      (λ j. two_loads d k (fetched_indexed (net_offset L) _ (λ x q. source x q.1)) (fetched_indexed (net_offset L + 2) _ (λ x q. destination x q.1)))
  condition_emits z (PortRange d p lo hi) h g r =
      ported_emits p _ (port_test L f d (λ v. leb lo v && leb v hi)) g r
      (λ j. two_blocks d (range_keeps lo hi (net_offset L)) (range_decides (net_offset L) _ lo hi (λ x q. source x q.1)) (range_decides (net_offset L + 2) _ lo hi (λ x q. destination x q.1)))
  condition_emits z (EtherHost d a) h g r =
      ether_emits _ (sender d (check_mac a 6)) (λ l. sides d (from_station l f a) (to_station l f a)) g r
      (equal (sides_turned d (bytes_are f 6 a) (bytes_are f 0 a)) (two_blocks (turned d) (mac_keeps a 0) (mac_decides f z a 0 h.0 h.1) (mac_decides f z a 6 h.0 h.1)))
      (sender_decides z d a h (Holds L f g))
  condition_emits z (EtherProto v) h g r = loosely (kind L f v) g (emit_ethertype L v g) (ethertype_emits v g r)
  condition_emits z EtherMulticast h g r = ether_emits _ no_address (λ l. to_many l f) g r (equal (low_one (be 1 0 f)) (load Byte 0 (lastly Jset 1))) tt
  condition_emits z IpBroadcast h g r = rw (start L) (guarded_emits Maybe 0x0800 _ _ g r (λ G. allow (checked Word (net_offset L + 16) 0xffff_ffff)))
  condition_emits z IpMulticast h g r =
      rw (start L)
      (guarded_emits Maybe 0x0800 _ _ g r
      (λ G. equal (top_bits (be 4 (net_offset L + 16) f) (be_small 4 (net_offset L + 16) f z)) (load Word (net_offset L + 16) (masked 0xf000_0000 (lastly Jeq 0xe000_0000)))))
  condition_emits z Ip6Multicast h g r = rw (start L) (guarded_emits Maybe 0x86dd _ _ g r (λ G. allow (checked Byte (net_offset L + 24) 0xff)))
  condition_emits z (IpProtoChain p) h g r = loosely (ipv4 L f p) g (emit_ip4_l4 L p g) (ip4_emits p g r)
  condition_emits z (Ip6ProtoChain p) h g r = loosely (ipv6 L f p) g (emit_ip6_l4 L p g) (ip6_emits p g r)
