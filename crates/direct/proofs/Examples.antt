-- The direct reading on worked frames: for each link, kind, protocol and direction a frame on which it is true and near ones on which it
-- is false. The expected truths come from document 01's sentences, not from the definition.
use Rattle.std.specs.Prelude.{None, Some}
use Prim.Native.Nat.{ℕ, ◌+◌, ◌*◌, ◌-◌, ◌^◌}
use mathlib.Core.List.{List, [], ◌∷◌, ◌++◌, map}
use mathlib.Core.Bool.{Bool, true, cond, ◌&&◌}
use lib.ListN.{set, take, replicate}
use lib.Dec.{eqb, T}
use lib.Bits.{bit_xor}
use Rattle.bpf.specs.Bytes.{be}
use Rattle.ast.specs.declared.LinkType.{LinkType}
use Rattle.ast.specs.declared.LinkType.TheVariants.{Ethernet, RawIp, LinuxSll}
use Rattle.ast.specs.declared.Dir.{Dir}
use Rattle.ast.specs.declared.Dir.TheVariants.{SrcOrDst, Src, Dst, SrcAndDst}
use Rattle.ast.specs.declared.Proto.TheVariants.{Ip, Ip6, Arp, Rarp, Tcp, Udp, Icmp, Icmp6, Igmp, Sctp, Num, Ip6Proto}
use Rattle.ast.specs.declared.Primitive.{Primitive}
use Rattle.ast.specs.declared.Primitive.TheVariants.{Protocol, Host4, Host6, Net, Net6, Port, PortRange, EtherHost, EtherProto, EtherMulticast, IpBroadcast, IpMulticast, Ip6Multicast, IpProtoChain, Ip6ProtoChain}
use Rattle.ast.specs.Tree.{Expr, Leaf, And, Or, Not}
use Rattle.direct.specs.Reading.{bytes_are, segments_agree, kind, ipv4, ipv6, reads_proto, transport, reads_primitive, reads}
use Rattle.direct.proofs.Frames.{out, eth, sll, mac_a, mac_b, a4, b4, a6, b6, flip, seg, ether, cooked, raw, ip4, ip6, ports, arp, proto4, proto6, hosts4, hosts6, tcp4, tcp6}

-- a condition under a link, frames, and its truth on each: a binary numeral whose digits stand in the order of the frames
record Row : Type 0 where
  link : LinkType
  tree : Expr
  frames : List (List ℕ)
  truths : ℕ

abbrev joined : LinkType → Expr → List (List ℕ) → ℕ → Row
joined L t fs n = record { link = L; tree = t; frames = fs; truths = n }

abbrev row : LinkType → Primitive → List (List ℕ) → ℕ → Row
row L p fs n = joined L (Leaf p) fs n

abbrev said : LinkType → Expr → List (List ℕ) → ℕ → ℕ
said L t [] n = n
said L t (f ∷ fs) n = said L t fs (2 * n + cond (reads L f t) 1 0)

test : List Row → Bool
test [] = true
test (r ∷ rs) = eqb (said r.link r.tree r.frames 0) r.truths && test rs

-- ---- protocols, ether protocols, chains

-- IPv4: 6, 17, 1, 2; 132, 58, 47, 0. IPv6: 6, 17, 58, 132; 47, 1, 2, 0. ARP, RARP and two near kinds; near kinds of IPv4 and of IPv6
abbrev samples : (ℕ → List ℕ → List ℕ) → List (List ℕ)
samples on =
    map (λ q. on 0x0800 (proto4 q)) (6 ∷ 17 ∷ 1 ∷ 2 ∷ 132 ∷ 58 ∷ 47 ∷ 0 ∷ [])
    ++ map (λ q. on 0x86dd (proto6 q)) (6 ∷ 17 ∷ 58 ∷ 132 ∷ 47 ∷ 1 ∷ 2 ∷ 0 ∷ [])
    ++ map (λ v. on v arp) (0x0806 ∷ 0x8035 ∷ 0x0807 ∷ 0x8135 ∷ [])
    ++ (on 0x0801 (proto4 6) ∷ on 0x0900 (proto4 6) ∷ on 0x86dc (proto6 58) ∷ on 0x87dd (proto6 58) ∷ [])

protocols : LinkType → (ℕ → List ℕ → List ℕ) → List Row
protocols L on =
    row L (Protocol Ip) (samples on) 0b1111_1111_0000_0000_0000_0000
    ∷ row L (Protocol Ip6) (samples on) 0b0000_0000_1111_1111_0000_0000
    ∷ row L (Protocol Arp) (samples on) 0b0000_0000_0000_0000_1000_0000
    ∷ row L (Protocol Rarp) (samples on) 0b0000_0000_0000_0000_0100_0000
    ∷ row L (Protocol Tcp) (samples on) 0b1000_0000_0000_0000_0000_0000
    ∷ row L (Protocol Udp) (samples on) 0b0100_0000_0000_0000_0000_0000
    ∷ row L (Protocol Icmp) (samples on) 0b0010_0000_0000_0000_0000_0000
    ∷ row L (Protocol Igmp) (samples on) 0b0001_0000_0000_0000_0000_0000
    ∷ row L (Protocol Sctp) (samples on) 0b0000_1000_0000_0000_0000_0000
    ∷ row L (Protocol Icmp6) (samples on) 0b0000_0000_0010_0000_0000_0000
    ∷ row L (Protocol (Num 6)) (samples on) 0b1000_0000_0000_0000_0000_0000
    ∷ row L (Protocol (Num 58)) (samples on) 0b0000_0100_0000_0000_0000_0000
    ∷ row L (Protocol (Num 0)) (samples on) 0b0000_0001_0000_0000_0000_0000
    ∷ row L (Protocol (Num 255)) (samples on) 0
    ∷ row L (Protocol (Ip6Proto 6)) (samples on) 0b0000_0000_1000_0000_0000_0000
    ∷ row L (Protocol (Ip6Proto 47)) (samples on) 0b0000_0000_0000_1000_0000_0000
    ∷ row L (Protocol (Ip6Proto 0)) (samples on) 0b0000_0000_0000_0001_0000_0000
    ∷ row L (IpProtoChain 17) (samples on) 0b0100_0000_0000_0000_0000_0000
    ∷ row L (IpProtoChain 47) (samples on) 0b0000_0010_0000_0000_0000_0000
    ∷ row L (Ip6ProtoChain 17) (samples on) 0b0000_0000_0100_0000_0000_0000
    ∷ row L (Ip6ProtoChain 0) (samples on) 0b0000_0000_0000_0001_0000_0000
    ∷ row L (EtherProto 0x0800) (samples on) 0b1111_1111_0000_0000_0000_0000
    ∷ row L (EtherProto 0x86dd) (samples on) 0b0000_0000_1111_1111_0000_0000
    ∷ row L (EtherProto 0x0806) (samples on) 0b0000_0000_0000_0000_1000_0000
    ∷ row L (EtherProto 0x0900) (samples on) 0b0000_0000_0000_0000_0000_0100
    ∷ row L (EtherProto 0) (samples on) 0
    ∷ []

-- RawIp knows no kind: every frame is IPv4, and what stands at byte 9 of another packet is its protocol
raw_protocols : List Row
raw_protocols =
    row RawIp (Protocol Ip) (samples raw) 0b1111_1111_1111_1111_1111_1111
    ∷ row RawIp (Protocol Ip6) (samples raw) 0
    ∷ row RawIp (Protocol Arp) (samples raw) 0
    ∷ row RawIp (Protocol Rarp) (samples raw) 0
    ∷ row RawIp (Protocol Tcp) (samples raw) 0b1000_0000_0000_0000_0000_1100
    ∷ row RawIp (Protocol Udp) (samples raw) 0b0100_0000_0000_0000_0000_0000
    ∷ row RawIp (Protocol Icmp) (samples raw) 0b0010_0000_1111_1111_0000_0011
    ∷ row RawIp (Protocol Igmp) (samples raw) 0b0001_0000_0000_0000_0000_0000
    ∷ row RawIp (Protocol Sctp) (samples raw) 0b0000_1000_0000_0000_0000_0000
    ∷ row RawIp (Protocol Icmp6) (samples raw) 0
    ∷ row RawIp (Protocol (Num 0)) (samples raw) 0b0000_0001_0000_0000_1111_0000
    ∷ row RawIp (Protocol (Ip6Proto 6)) (samples raw) 0
    ∷ row RawIp (IpProtoChain 47) (samples raw) 0b0000_0010_0000_0000_0000_0000
    ∷ row RawIp (Ip6ProtoChain 58) (samples raw) 0
    ∷ row RawIp (EtherProto 0x0800) (samples raw) 0b1111_1111_1111_1111_1111_1111
    ∷ row RawIp (EtherProto 0x86dd) (samples raw) 0
    ∷ row RawIp (EtherProto 0x0801) (samples raw) 0
    ∷ []

-- the ethertype's place: a frame of another link, and frames with an ethertype at another link's place
places : List Row
places =
    row LinuxSll (Protocol Ip) (ether 0x0800 (proto4 6) ∷ ether 0x86dd (0x08 ∷ 0x00 ∷ proto4 6) ∷ []) 0b01
    ∷ row LinuxSll (EtherProto 0x45b8) (ether 0x0800 (proto4 6) ∷ []) 0b1
    ∷ row Ethernet (Protocol Ip) (cooked 0x0800 (proto4 6) ∷ sll 0 mac_a 0x0800 0x86dd (proto6 6) ∷ []) 0b01
    ∷ row Ethernet (EtherProto 0) (cooked 0x0800 (proto4 6) ∷ []) 0b1
    ∷ row Ethernet (EtherProto 0x0a00) (raw 0x0800 (proto4 6) ∷ []) 0b1
    ∷ row LinuxSll (Protocol Ip) (sll 0 mac_a 0x0800 0x86dd (proto6 6) ∷ sll 0 mac_a 0x86dd 0x0800 (proto4 6) ∷ []) 0b01
    ∷ row LinuxSll (Protocol Ip6) (sll 0 mac_a 0x0800 0x86dd (proto6 6) ∷ sll 0 mac_a 0x86dd 0x0800 (proto4 6) ∷ []) 0b10
    ∷ row Ethernet (Protocol Ip6) (ether 0x86dd (0x08 ∷ 0x00 ∷ proto4 6) ∷ ether 0x0800 (0x86 ∷ 0xdd ∷ proto4 6) ∷ []) 0b10
    ∷ row LinuxSll (Protocol Tcp) (cooked 0x0800 (proto4 6) ∷ cooked 0x0800 (0 ∷ 0 ∷ proto4 6) ∷ []) 0b10
    ∷ []

protocols_hold : T (test (protocols Ethernet ether))
unfolding test protocols reads reads_primitive reads_proto ipv4 ipv6 kind be
protocols_hold = tt

cooked_protocols_hold : T (test (protocols LinuxSll cooked))
unfolding test protocols reads reads_primitive reads_proto ipv4 ipv6 kind be
cooked_protocols_hold = tt

raw_protocols_hold : T (test raw_protocols && test places)
unfolding test raw_protocols places reads reads_primitive reads_proto ipv4 ipv6 kind be
raw_protocols_hold = tt

-- ---- directions

-- A condition in its four directions, on the packets from a to b, b to a, a to a, b to b, c to c, and a to a in the wrong place
abbrev sided : LinkType → (Dir → Primitive) → (List ℕ → List ℕ) → (List ℕ → List ℕ) → (ℕ → ℕ → List ℕ) → ℕ → ℕ → ℕ → List Row
sided L p right wrong packet a b c =
    let fs : List (List ℕ) = map right (packet a b ∷ packet b a ∷ packet a a ∷ packet b b ∷ packet c c ∷ []) ++ (wrong (packet a a) ∷ [])
    in row L (p SrcOrDst) fs 0b111000 ∷ row L (p Src) fs 0b101000 ∷ row L (p Dst) fs 0b011000 ∷ row L (p SrcAndDst) fs 0b001000 ∷ []

-- UDP with options in the header; UDP on IPv6
abbrev udp4 : ℕ → ℕ → List ℕ
udp4 s d = ip4 8 0x4000 17 a4 b4 (ports s d)

abbrev udp6 : ℕ → ℕ → List ℕ
udp6 s d = ip6 17 a6 b6 (ports s d)

-- a source and a destination station
abbrev stations : ℕ → ℕ → List ℕ
stations s d = eth d s 0x0800 (proto4 6)

-- a cooked capture of a sender, with this address length
abbrev sent : ℕ → ℕ → List ℕ
sent long s = sll (0x0000_0001_0000 + long) s 0 0x0800 (proto4 6)

abbrev whole : List ℕ → List ℕ
whole f = f

abbrev shifted : List ℕ → List ℕ
shifted f = 0 ∷ f

directions : List Row
directions =
    sided Ethernet (λ d. Host4 d a4) (ether 0x0800) (ether 0x86dd) hosts4 a4 b4 0x0a00_0002
    ++ sided LinuxSll (λ d. Host4 d a4) (cooked 0x0800) (ether 0x0800) hosts4 a4 b4 0x0b00_0001
    ++ sided RawIp (λ d. Host4 d a4) whole (ether 0x0800) hosts4 a4 b4 0x0a01_0001
    ++ sided Ethernet (λ d. Host6 d (seg a6)) (ether 0x86dd) (ether 0x0800) hosts6 a6 b6 (flip 128 a6)
    ++ sided LinuxSll (λ d. Host6 d (seg a6)) (cooked 0x86dd) (ether 0x86dd) hosts6 a6 b6 (flip 1 a6)
    ++ sided Ethernet (λ d. Net d 0x0a00_0000 0xff00_0000) (ether 0x0800) (ether 0x0806) hosts4 a4 b4 0x0b00_0001
    ++ sided LinuxSll (λ d. Net d 0x0a00_0000 0xff00_0000) (cooked 0x0800) (cooked 0x86dd) hosts4 a4 b4 0x1a00_0001
    ++ sided RawIp (λ d. Net d 0x0a00_0000 0xff00_0000) whole shifted hosts4 a4 b4 0x0800_0001
    ++ sided Ethernet (λ d. Net6 d 32 (seg a6)) (ether 0x86dd) (cooked 0x86dd) hosts6 (flip 33 a6) b6 (flip 32 a6)
    ++ sided LinuxSll (λ d. Net6 d 32 (seg a6)) (cooked 0x86dd) (cooked 0x0800) hosts6 (flip 33 a6) b6 (flip 32 a6)
    ++ sided Ethernet (λ d. Port d None 80) (ether 0x0800) (ether 0x0806) tcp4 80 1234 81
    ++ sided LinuxSll (λ d. Port d (Some Tcp) 80) (cooked 0x0800) (cooked 0x86dd) tcp4 80 1234 0x5000
    ++ sided RawIp (λ d. Port d (Some Udp) 53) whole shifted udp4 53 1234 54
    ++ sided Ethernet (λ d. Port d (Some Udp) 53) (ether 0x86dd) (ether 0x0800) udp6 53 1234 0x0135
    ++ sided LinuxSll (λ d. Port d None 53) (cooked 0x86dd) (ether 0x86dd) udp6 53 1234 52
    ++ sided Ethernet (λ d. PortRange d None 100 200) (ether 0x0800) (ether 0x86dd) tcp4 100 99 201
    ++ sided LinuxSll (λ d. PortRange d (Some Udp) 100 200) (cooked 0x0800) (ether 0x0800) udp4 200 201 99
    ++ sided RawIp (λ d. PortRange d (Some Tcp) 100 200) whole shifted tcp4 150 99 0x6400
    ++ sided Ethernet (λ d. PortRange d (Some Tcp) 100 200) (ether 0x86dd) (ether 0x0806) tcp6 150 201 99
    ++ sided LinuxSll (λ d. PortRange d None 100 200) (cooked 0x86dd) (cooked 0x0800) udp6 101 0 65535
    ++ sided Ethernet (λ d. EtherHost d (out 6 mac_a)) whole shifted stations mac_a mac_b 0x0200_5e10_010a
    ++ sided RawIp (λ d. EtherHost d (out 6 mac_a)) whole shifted stations mac_a mac_b 0x0200_5e11_000a

-- IPv6 addresses are never there on RawIp
raw_sides : List Row
raw_sides =
    row RawIp (Host6 SrcOrDst (seg a6)) (hosts6 a6 b6 ∷ hosts6 b6 a6 ∷ hosts6 a6 a6 ∷ []) 0
    ∷ row RawIp (Net6 SrcOrDst 32 (seg a6)) (hosts6 a6 b6 ∷ hosts6 b6 a6 ∷ hosts6 a6 a6 ∷ []) 0
    ∷ row RawIp (Net6 SrcAndDst 0 (seg a6)) (hosts6 a6 a6 ∷ []) 0
    ∷ []

directions_hold : T (test directions && test raw_sides)
unfolding test directions raw_sides reads reads_primitive transport bytes_are segments_agree kind be
directions_hold = tt

-- ---- masks and prefixes

-- Ethernet frames by source, and by destination
abbrev from4 : ℕ → List ℕ
from4 s = ether 0x0800 (hosts4 s b4)

abbrev to4 : ℕ → List ℕ
to4 d = ether 0x0800 (hosts4 a4 d)

abbrev from6 : ℕ → List ℕ
from6 s = ether 0x86dd (hosts6 s b6)

abbrev to6 : ℕ → List ℕ
to6 d = ether 0x86dd (hosts6 a6 d)

masks : List Row
masks =
    row Ethernet (Net Src a4 0) (from4 0 ∷ from4 a4 ∷ from4 0xffff_ffff ∷ ether 0x86dd (hosts4 a4 b4) ∷ []) 0b1110
    ∷ row Ethernet (Net SrcAndDst a4 0) (from4 0 ∷ to4 0xffff_ffff ∷ ether 0x0806 (hosts4 a4 a4) ∷ []) 0b110
    ∷ row Ethernet (Net Src a4 0xffff_ffff) (map from4 (a4 ∷ 0x0a00_0000 ∷ 0x8a00_0001 ∷ b4 ∷ [])) 0b1000
    ∷ row Ethernet (Net Dst 0xffff_ffff 0xffff_ffff) (to4 0xffff_ffff ∷ to4 0xffff_fffe ∷ to4 0x7fff_ffff ∷ from4 0xffff_ffff ∷ []) 0b1000
    ∷ row Ethernet (Net Src 0 0xffff_ffff) (map from4 (0 ∷ 1 ∷ 0x8000_0000 ∷ [])) 0b100
    ∷ row Ethernet (Net Src 0x0a00_0000 0xff00_0000) (map from4 (0x0a00_0000 ∷ 0x0aff_ffff ∷ 0x09ff_ffff ∷ 0x0b00_0000 ∷ [])) 0b1100
    ∷ row Ethernet (Net Dst 0x0a00_0080 0xffff_ff80) (map to4 (0x0a00_0080 ∷ 0x0a00_00ff ∷ 0x0a00_007f ∷ 0x0a00_0100 ∷ [])) 0b1100
    -- masks that are not one run of ones
    ∷ row Ethernet (Net Src 0x0a00_0001 0xff00_00ff) (map from4 (0x0a00_0001 ∷ 0x0aff_ff01 ∷ 0x0a00_0002 ∷ 0x0b00_0001 ∷ [])) 0b1100
    ∷ row Ethernet (Net Src 1 1) (map from4 (0x0a00_0001 ∷ 0xffff_ffff ∷ 0x0a00_0002 ∷ 0 ∷ [])) 0b1100
    ∷ row Ethernet (Net Dst 0x5555_5555 0x5555_5555) (map to4 (0x5555_5555 ∷ 0xffff_ffff ∷ 0xaaaa_aaaa ∷ 0x5555_5554 ∷ [])) 0b1100
    -- address bits outside the mask do not count
    ∷ row Ethernet (Net Src 0x0a01_0203 0xff00_0000) (map from4 (0x0a00_0000 ∷ 0x0aff_ffff ∷ 0x0a01_0203 ∷ 0x0b01_0203 ∷ [])) 0b1110
    ∷ row LinuxSll (Net Src 0xffff_ff01 0x0000_00ff) (cooked 0x0800 (hosts4 a4 b4) ∷ cooked 0x0800 (hosts4 b4 a4) ∷ []) 0b10
    ∷ row RawIp (Net Dst 0xffff_ff01 0x0000_00ff) (hosts4 a4 b4 ∷ hosts4 b4 a4 ∷ []) 0b01
    ∷ row RawIp (Net SrcOrDst 0 0) (hosts4 a4 b4 ∷ hosts6 a6 b6 ∷ []) 0b11
    -- both sides in the net, at different addresses
    ∷ row Ethernet (Net SrcAndDst 0x0a00_0000 0xff00_0000) (map to4 (0x0a02_0304 ∷ 0x0b00_0001 ∷ [])) 0b10
    -- a host's four bytes
    ∷ row Ethernet (Host4 Src a4) (map from4 (a4 ∷ 0x0b00_0001 ∷ 0x0a01_0001 ∷ 0x0a00_0101 ∷ 0x0a00_0081 ∷ [])) 0b10000
    ∷ row Ethernet (Host4 Dst b4) (map to4 (b4 ∷ 0x40a8_0102 ∷ 0xc0a9_0102 ∷ 0xc0a8_0002 ∷ 0xc0a8_0103 ∷ [])) 0b10000
    ∷ []

-- a source, and the same with its first bit, the prefix's last bit, the first bit past the prefix, and all bits past it changed
abbrev near : ℕ → ℕ → List (List ℕ)
near p x = map from6 (x ∷ flip 1 x ∷ flip p x ∷ flip (p + 1) x ∷ bit_xor x (2 ^ (128 - p) - 1) ∷ [])

-- a source, and the same with one of its bits changed
abbrev one : ℕ → List (List ℕ)
one x = map from6 (x ∷ flip 1 x ∷ flip 64 x ∷ flip 113 x ∷ flip 127 x ∷ flip 128 x ∷ [])

prefixes : List Row
prefixes =
    row Ethernet (Net6 Src 0 (seg a6)) (map from6 (a6 ∷ flip 1 a6 ∷ 0 ∷ (2 ^ 128 - 1) ∷ []) ++ (ether 0x0800 (hosts6 a6 b6) ∷ [])) 0b11110
    ∷ row Ethernet (Net6 Src 1 (seg a6)) (near 1 a6) 0b10011
    ∷ row Ethernet (Net6 Src 15 (seg a6)) (near 15 a6) 0b10011
    ∷ row Ethernet (Net6 Src 16 (seg a6)) (near 16 a6) 0b10011
    ∷ row Ethernet (Net6 Src 17 (seg a6)) (near 17 a6) 0b10011
    ∷ row Ethernet (Net6 Src 31 (seg a6)) (near 31 a6) 0b10011
    ∷ row Ethernet (Net6 Src 33 (seg a6)) (near 33 a6) 0b10011
    ∷ row Ethernet (Net6 Src 56 (seg a6)) (near 56 a6) 0b10011
    ∷ row Ethernet (Net6 Src 64 (seg a6)) (near 64 a6) 0b10011
    ∷ row Ethernet (Net6 Src 65 (seg a6)) (near 65 a6) 0b10011
    ∷ row Ethernet (Net6 Src 112 (seg a6)) (near 112 a6) 0b10011
    ∷ row Ethernet (Net6 Src 127 (seg a6)) (near 127 a6) 0b10011
    -- "over 128 counts as 128"
    ∷ row Ethernet (Net6 Src 128 (seg a6)) (one a6) 0b100000
    ∷ row Ethernet (Net6 Src 129 (seg a6)) (one a6) 0b100000
    ∷ row Ethernet (Net6 Src 255 (seg a6)) (one a6) 0b100000
    -- address bits past the prefix do not count
    ∷ row Ethernet (Net6 Src 1 (seg (2 ^ 127 - 1))) (near 1 a6) 0b10011
    ∷ row Ethernet (Net6 Src 17 (seg (bit_xor a6 (2 ^ 111 - 1)))) (near 17 a6) 0b10011
    ∷ row Ethernet (Net6 Src 127 (seg (flip 128 a6))) (near 127 a6) 0b10011
    -- the destination; both sides, at different addresses
    ∷ row Ethernet (Net6 Dst 10 (seg b6)) (map to6 (b6 ∷ flip 10 b6 ∷ flip 11 b6 ∷ a6 ∷ [])) 0b1010
    ∷ row LinuxSll (Net6 Dst 64 (seg b6)) (map (λ d. cooked 0x86dd (hosts6 a6 d)) (b6 ∷ flip 64 b6 ∷ flip 65 b6 ∷ [])) 0b101
    ∷ row LinuxSll (Net6 SrcAndDst 47 (seg a6)) (map (λ d. cooked 0x86dd (hosts6 a6 d)) (flip 48 a6 ∷ flip 47 a6 ∷ [])) 0b10
    -- a host's eight segments
    ∷ row Ethernet (Host6 Src (seg a6)) (map (λ i. from6 (flip i a6)) (9 ∷ 25 ∷ 41 ∷ 57 ∷ 73 ∷ 89 ∷ 105 ∷ 121 ∷ [])) 0
    ∷ row Ethernet (Host6 Dst (seg b6)) (map (λ i. to6 (flip i b6)) (16 ∷ 32 ∷ 48 ∷ 64 ∷ 80 ∷ 96 ∷ 112 ∷ 128 ∷ [])) 0
    ∷ []

masks_hold : T (test masks && test prefixes)
unfolding test masks prefixes reads reads_primitive segments_agree kind be
masks_hold = tt

-- ---- ports

-- IPv4 with protocols 6, 17, 132, 1; IPv6 with next headers 6, 17, 132, 58; 44, 0, 43, 60; other kinds. The ports are 1234 and 80
abbrev carriers : (ℕ → List ℕ → List ℕ) → List (List ℕ)
carriers on =
    map (λ q. on 0x0800 (proto4 q)) (6 ∷ 17 ∷ 132 ∷ 1 ∷ [])
    ++ map (λ q. on 0x86dd (proto6 q)) (6 ∷ 17 ∷ 132 ∷ 58 ∷ 44 ∷ 0 ∷ 43 ∷ 60 ∷ [])
    ++ (on 0x0806 (proto4 6) ∷ on 0x0801 (proto4 17) ∷ on 0x86dc (proto6 6) ∷ on 0 (proto4 132) ∷ [])

sets : LinkType → (ℕ → List ℕ → List ℕ) → List Row
sets L on =
    row L (Port Dst None 80) (carriers on) 0b1100_1100_0000_0000
    ∷ row L (Port Dst (Some Tcp) 80) (carriers on) 0b1000_1000_0000_0000
    ∷ row L (Port Dst (Some Udp) 80) (carriers on) 0b0100_0100_0000_0000
    ∷ row L (Port Dst (Some Sctp) 80) (carriers on) 0b0010_0010_0000_0000
    ∷ row L (PortRange Src None 1234 1234) (carriers on) 0b1100_1100_0000_0000
    ∷ row L (PortRange Src (Some Tcp) 1234 1234) (carriers on) 0b1000_1000_0000_0000
    ∷ row L (PortRange Src (Some Udp) 1234 1234) (carriers on) 0b0100_0100_0000_0000
    ∷ row L (PortRange Src (Some Sctp) 1234 1234) (carriers on) 0b0010_0010_0000_0000
    -- the other protocols: number 6 turns these trees down, and the set is empty
    ∷ row L (Port Dst (Some Ip) 80) (carriers on) 0
    ∷ row L (Port Dst (Some Ip6) 80) (carriers on) 0
    ∷ row L (Port Dst (Some Arp) 80) (carriers on) 0
    ∷ row L (Port Dst (Some Rarp) 80) (carriers on) 0
    ∷ row L (Port Dst (Some Icmp) 80) (carriers on) 0
    ∷ row L (Port Dst (Some Icmp6) 80) (carriers on) 0
    ∷ row L (Port Dst (Some Igmp) 80) (carriers on) 0
    ∷ row L (Port Dst (Some (Num 6)) 80) (carriers on) 0
    ∷ row L (Port Dst (Some (Ip6Proto 6)) 80) (carriers on) 0
    ∷ row L (PortRange Dst (Some Icmp) 0 65535) (carriers on) 0
    ∷ row L (PortRange Dst (Some (Num 17)) 0 65535) (carriers on) 0
    -- the same on protocols of their own: IGMP is 2, and 4 and 41 are IPv4 and IPv6 within IPv4
    ∷ row L (Port Dst (Some Igmp) 80) (on 0x0800 (proto4 2) ∷ on 0x86dd (proto6 2) ∷ []) 0
    ∷ row L (Port Dst (Some Ip) 80) (on 0x0800 (proto4 4) ∷ on 0x86dd (proto6 4) ∷ []) 0
    ∷ row L (Port Dst (Some Ip6) 80) (on 0x0800 (proto4 41) ∷ on 0x86dd (proto6 41) ∷ []) 0
    ∷ []

raw_sets : List Row
raw_sets =
    row RawIp (Port Dst None 80) (carriers raw) 0b1100_0000_0000_1100
    ∷ row RawIp (Port Dst (Some Tcp) 80) (carriers raw) 0b1000_0000_0000_1000
    ∷ row RawIp (Port Dst (Some Udp) 80) (carriers raw) 0b0100_0000_0000_0100
    ∷ row RawIp (PortRange Src (Some Sctp) 1234 1234) (carriers raw) 0b0010_0000_0000_0001
    ∷ row RawIp (Port Dst (Some Icmp) 80) (carriers raw) 0
    ∷ []

-- Ethernet frames by header length, and by flags and fragment offset
abbrev sized : ℕ → List ℕ
sized ihl = ether 0x0800 (ip4 ihl 0 6 a4 b4 (ports 1234 80))

abbrev frag : ℕ → List ℕ
frag n = ether 0x0800 (ip4 5 n 6 a4 b4 (ports 1234 80))

-- IPv6 with a byte of the header changed, and with an extension header before TCP
abbrev with6 : ℕ → ℕ → List ℕ
with6 i v = ether 0x86dd (set (tcp6 1234 80) i v)

abbrev extended : ℕ → List ℕ
extended q = ether 0x86dd (ip6 q a6 b6 (out 8 0x0600_0001_0000_0007 ++ ports 1234 80))

-- by destination port, on IPv4 and on IPv6
abbrev to : ℕ → List ℕ
to d = ether 0x0800 (tcp4 1234 d)

abbrev to_by6 : ℕ → List ℕ
to_by6 d = cooked 0x86dd (udp6 1234 d)

port_places : List Row
port_places =
    row Ethernet (Port Dst None 80) (map sized (5 ∷ 6 ∷ 7 ∷ 8 ∷ 9 ∷ 10 ∷ 11 ∷ 12 ∷ 13 ∷ 14 ∷ 15 ∷ [])) 0b111_1111_1111
    -- the options (bytes 1) are no ports
    ∷ row Ethernet (Port SrcOrDst None 0x0101) (map sized (5 ∷ 6 ∷ 7 ∷ 8 ∷ 9 ∷ 10 ∷ 11 ∷ 12 ∷ 13 ∷ 14 ∷ 15 ∷ [])) 0
    ∷ row LinuxSll (Port Dst None 80) (map (λ ihl. cooked 0x0800 (ip4 ihl 0 17 a4 b4 (ports 1234 80))) (5 ∷ 6 ∷ 15 ∷ [])) 0b111
    ∷ row RawIp (Port Dst None 80) (map (λ ihl. ip4 ihl 0 17 a4 b4 (ports 1234 80)) (5 ∷ 6 ∷ 15 ∷ [])) 0b111
    -- a header length below 5: what stands there in the header is read
    ∷ row Ethernet (Port Dst None 80) (map sized (0 ∷ 1 ∷ 2 ∷ 3 ∷ 4 ∷ [])) 0
    ∷ row Ethernet (Port Src None 0x40b8) (map sized (0 ∷ 1 ∷ 2 ∷ 3 ∷ 4 ∷ [])) 0b10000
    ∷ row Ethernet (Port Src None 0x1c46) (map sized (0 ∷ 1 ∷ 2 ∷ 3 ∷ 4 ∷ [])) 0b01000
    ∷ row Ethernet (Port Dst None 0xb1e6) (map sized (0 ∷ 1 ∷ 2 ∷ 3 ∷ 4 ∷ [])) 0b00100
    ∷ row Ethernet (Port Src None 0x0a00) (map sized (0 ∷ 1 ∷ 2 ∷ 3 ∷ 4 ∷ [])) 0b00010
    ∷ row Ethernet (Port Dst None 0x0102) (map sized (0 ∷ 1 ∷ 2 ∷ 3 ∷ 4 ∷ [])) 0b00001
    -- the first byte's upper half does not count, its lower half does
    ∷ row Ethernet (Port Dst None 80) (map (λ v. set (sized 5) 14 v) (0x45 ∷ 0x05 ∷ 0xf5 ∷ 0x46 ∷ 0x44 ∷ 0x54 ∷ [])) 0b111000
    ∷ row Ethernet (Port Dst None 0x68b1) (map (λ v. set (sized 5) 14 v) (0x45 ∷ 0x46 ∷ [])) 0b01
    -- on IPv6 the place is 40 whatever the first byte
    ∷ row Ethernet (Port Dst None 80) (map (with6 0) (0x60 ∷ 0x6f ∷ 0x65 ∷ 0x45 ∷ [])) 0b1111
    -- fragments: the flags do not count, the offset does
    ∷ row Ethernet (Port Dst None 80) (map frag (0 ∷ 0x4000 ∷ 0x2000 ∷ 0x8000 ∷ 0xe000 ∷ [])) 0b11111
    ∷ row Ethernet (Port Dst None 80) (map frag (1 ∷ 0x0010 ∷ 0x0100 ∷ 0x1000 ∷ 0x1fff ∷ 0x2001 ∷ 0x5000 ∷ 0xffff ∷ [])) 0
    ∷ row Ethernet (PortRange SrcOrDst (Some Tcp) 0 65535) (map frag (0x6000 ∷ 1 ∷ 0x3000 ∷ [])) 0b100
    ∷ row LinuxSll (Port Dst None 80) (map (λ n. cooked 0x0800 (ip4 5 n 6 a4 b4 (ports 1234 80))) (0x2000 ∷ 0x2001 ∷ [])) 0b10
    ∷ row RawIp (Port Dst None 80) (map (λ n. ip4 5 n 6 a4 b4 (ports 1234 80)) (0x4000 ∷ 0x1000 ∷ [])) 0b10
    ∷ row Ethernet (Protocol Tcp) (map frag (1 ∷ 0x1fff ∷ [])) 0b11
    ∷ row Ethernet (Host4 Src a4) (map frag (1 ∷ 0x1fff ∷ [])) 0b11
    -- no fragment field on IPv6: next header and hop limit stand there
    ∷ row Ethernet (Port Dst None 80) (map (with6 7) (0 ∷ 1 ∷ 64 ∷ 255 ∷ [])) 0b1111
    ∷ row LinuxSll (PortRange Dst (Some Sctp) 80 80) (cooked 0x86dd (proto6 132) ∷ cooked 0x86dd (set (proto6 132) 7 255) ∷ []) 0b11
    -- extension headers are not followed: hop-by-hop, routing, fragment, destination options
    ∷ row Ethernet (Port Dst None 80) (map extended (0 ∷ 43 ∷ 44 ∷ 60 ∷ [])) 0
    ∷ row Ethernet (Ip6ProtoChain 6) (map extended (0 ∷ 43 ∷ 44 ∷ 60 ∷ 6 ∷ [])) 0b00001
    ∷ row Ethernet (IpProtoChain 6) (map (λ q. ether 0x0800 (ip4 5 0 q a4 b4 (out 4 0x0604_0000 ++ ports 1234 80))) (51 ∷ 6 ∷ [])) 0b01
    -- an IPv6 packet under the IPv4 kind and the other way round
    ∷ row Ethernet (Port SrcOrDst None 80) (ether 0x0800 (tcp6 1234 80) ∷ ether 0x86dd (tcp4 1234 80) ∷ []) 0
    ∷ []

port_numbers : List Row
port_numbers =
    row Ethernet (Port Dst None 80) (map to (80 ∷ 79 ∷ 81 ∷ 0x5000 ∷ 0x0150 ∷ 0xff50 ∷ 0 ∷ [])) 0b1000000
    ∷ row Ethernet (Port Dst None 0) (map to (0 ∷ 1 ∷ 0x0100 ∷ 65535 ∷ [])) 0b1000
    ∷ row Ethernet (Port Dst None 65535) (map to (65535 ∷ 65534 ∷ 0x7fff ∷ 0 ∷ [])) 0b1000
    ∷ row LinuxSll (Port Dst None 0x1f90) (map to_by6 (0x1f90 ∷ 0x901f ∷ 0x1f91 ∷ 0x1e90 ∷ [])) 0b1000
    -- the bytes after the ports are no ports
    ∷ row Ethernet (Port SrcOrDst None 0x3ade) (map to (80 ∷ 0x3ade ∷ [])) 0b01
    ∷ row Ethernet (PortRange Dst None 100 200) (map to (99 ∷ 100 ∷ 101 ∷ 150 ∷ 199 ∷ 200 ∷ 201 ∷ [])) 0b0111110
    ∷ row LinuxSll (PortRange Dst None 100 200) (map to_by6 (99 ∷ 100 ∷ 101 ∷ 150 ∷ 199 ∷ 200 ∷ 201 ∷ [])) 0b0111110
    ∷ row RawIp (PortRange Dst None 100 200) (map (tcp4 0) (99 ∷ 100 ∷ 200 ∷ 201 ∷ []) ++ (tcp4 100 0 ∷ [])) 0b01100
    -- low = high, and low > high
    ∷ row Ethernet (PortRange Dst None 80 80) (map to (79 ∷ 80 ∷ 81 ∷ [])) 0b010
    ∷ row Ethernet (PortRange Dst None 200 100) (map to (99 ∷ 100 ∷ 150 ∷ 200 ∷ 201 ∷ 0 ∷ 65535 ∷ [])) 0
    ∷ row Ethernet (PortRange SrcOrDst None 81 80) (ether 0x0800 (tcp4 80 81) ∷ ether 0x0800 (tcp4 81 80) ∷ []) 0
    -- the ends of 16 bits, and numbers whose bytes exchanged lie elsewhere
    ∷ row Ethernet (PortRange Dst None 0 65535) (map to (0 ∷ 80 ∷ 65535 ∷ []) ++ (ether 0x0806 (tcp4 1234 80) ∷ [])) 0b1110
    ∷ row Ethernet (PortRange Dst None 0 0) (map to (0 ∷ 1 ∷ 65535 ∷ [])) 0b100
    ∷ row Ethernet (PortRange Dst None 65535 65535) (map to (65535 ∷ 65534 ∷ 0 ∷ [])) 0b100
    ∷ row Ethernet (PortRange Dst None 0x0100 0x01ff) (map to (0x0100 ∷ 0x01ff ∷ 0x0001 ∷ 0xff01 ∷ 0x00ff ∷ 0x0200 ∷ [])) 0b110000
    -- either: one port within both ends; both: each of them
    ∷ row Ethernet (PortRange SrcOrDst None 100 200) (map (ether 0x0800) (tcp4 99 201 ∷ tcp4 201 99 ∷ tcp4 99 150 ∷ tcp4 150 201 ∷ [])) 0b0011
    ∷ row Ethernet (PortRange SrcAndDst None 100 200) (map (ether 0x0800) (tcp4 100 200 ∷ tcp4 200 100 ∷ tcp4 100 201 ∷ tcp4 99 200 ∷ [])) 0b1100
    ∷ []

sets_hold : T (test (sets Ethernet ether) && test raw_sets)
unfolding test sets raw_sets reads reads_primitive transport kind be
sets_hold = tt

cooked_sets_hold : T (test (sets LinuxSll cooked))
unfolding test sets reads reads_primitive transport kind be
cooked_sets_hold = tt

ports_hold : T (test port_places && test port_numbers)
unfolding test port_places port_numbers reads reads_primitive reads_proto transport ipv4 ipv6 kind be
ports_hold = tt

-- ---- broadcast, multicast, stations

-- By destination: 255.255.255.255, two near it, 0.0.0.0; 192.168.1.255, 224.0.0.0, 239.255.255.255, 223.255.255.255; 240.0.0.0, 96.0.0.1.
-- By source: 255.255.255.255, 224.0.0.1. By destination under other kinds: 255.255.255.255 twice, 224.0.0.1 twice
abbrev castings : (ℕ → List ℕ → List ℕ) → List (List ℕ)
castings on =
    map (λ d. on 0x0800 (hosts4 a4 d)) (0xffff_ffff ∷ 0xffff_fffe ∷ 0x7fff_ffff ∷ 0 ∷ 0xc0a8_01ff ∷ [])
    ++ map (λ d. on 0x0800 (hosts4 a4 d)) (0xe000_0000 ∷ 0xefff_ffff ∷ 0xdfff_ffff ∷ 0xf000_0000 ∷ 0x6000_0001 ∷ [])
    ++ map (λ s. on 0x0800 (hosts4 s b4)) (0xffff_ffff ∷ 0xe000_0001 ∷ [])
    ++ map (λ v. on v (hosts4 a4 0xffff_ffff)) (0x86dd ∷ 0x0806 ∷ [])
    ++ map (λ v. on v (hosts4 a4 0xe000_0001)) (0x86dd ∷ 0x0806 ∷ [])

-- IPv6 by destination: ff02::1, all ones, fe80::1, feff::, ff::; by source: ff02::1; under the IPv4 kind: ff02::1, and IPv4 with 0xff at byte 24
abbrev castings6 : (ℕ → List ℕ → List ℕ) → List (List ℕ)
castings6 on =
    map (λ d. on 0x86dd (hosts6 a6 d)) ((0xff02 * 2 ^ 112 + 1) ∷ (2 ^ 128 - 1) ∷ (0xfe80 * 2 ^ 112 + 1) ∷ (0xfeff * 2 ^ 112) ∷ (0x00ff * 2 ^ 112) ∷ [])
    ++ (on 0x86dd (hosts6 (0xff02 * 2 ^ 112 + 1) a6) ∷ on 0x0800 (hosts6 a6 (0xff02 * 2 ^ 112 + 1)) ∷ on 0x0800 (set (tcp4 1234 80) 24 0xff) ∷ [])

casts : LinkType → (ℕ → List ℕ → List ℕ) → List Row
casts L on =
    row L IpBroadcast (castings on) 0b1000_0000_0000_0000
    ∷ row L IpMulticast (castings on) 0b0000_0110_0000_0000
    ∷ row L Ip6Multicast (castings6 on) 0b1100_0000
    ∷ []

-- Ethernet by destination, and a frame with one byte changed
abbrev station : ℕ → List ℕ
station d = eth d mac_a 0x0800 (proto4 6)

abbrev changed : ℕ → List ℕ
changed i = set (station mac_b) i 1

others : List Row
others =
    row RawIp IpBroadcast (castings raw) 0b1000_0000_0000_1100
    ∷ row RawIp IpMulticast (castings raw) 0b0000_0110_0000_0011
    ∷ row RawIp Ip6Multicast (castings6 raw) 0
    -- ether multicast: the first byte odd
    ∷ row Ethernet EtherMulticast (map station (0x0100_5e00_0001 ∷ 0x3333_0000_0001 ∷ 0xffff_ffff_ffff ∷ [])) 0b111
    ∷ row Ethernet EtherMulticast (map station (0x0000_0000_0001 ∷ 0x0201_0101_0101 ∷ 0xfeff_ffff_ffff ∷ []) ++ (eth mac_b 0x0100_5e00_0001 0x0800 [] ∷ [])) 0
    -- T-03: a cooked capture has no destination, whatever its packet type is and its sender
    ∷ row LinuxSll EtherMulticast (map (λ d. sll d 0x0100_5e00_0001 0 0x0800 []) (0x0100_0001_0006 ∷ 0x0001_0001_0006 ∷ 0x0002_0001_0006 ∷ [])) 0
    ∷ row RawIp EtherMulticast (map (λ ihl. ip4 ihl 0 6 a4 b4 []) (5 ∷ 6 ∷ [])) 0b10
    -- ether hosts: each of the six bytes counts, and no other
    ∷ row Ethernet (EtherHost Dst (out 6 mac_b)) (map changed (0 ∷ 1 ∷ 2 ∷ 3 ∷ 4 ∷ 5 ∷ [])) 0
    ∷ row Ethernet (EtherHost Dst (out 6 mac_b)) (map changed (6 ∷ 7 ∷ 8 ∷ 9 ∷ 10 ∷ 11 ∷ 12 ∷ [])) 0b111_1111
    ∷ row Ethernet (EtherHost Src (out 6 mac_a)) (map changed (6 ∷ 7 ∷ 8 ∷ 9 ∷ 10 ∷ 11 ∷ [])) 0
    ∷ row Ethernet (EtherHost Src (out 6 mac_a)) (map changed (0 ∷ 1 ∷ 2 ∷ 3 ∷ 4 ∷ 5 ∷ 12 ∷ [])) 0b111_1111
    -- T-03: of a cooked capture the sender, whose address has the length 6
    ∷ row LinuxSll (EtherHost Src (out 6 mac_a)) (cooked 0x0800 [] ∷ map (λ i. set (cooked 0x0800 []) i 1) (0 ∷ 2 ∷ 6 ∷ 11 ∷ 12 ∷ [])) 0b111001
    ∷ row LinuxSll (EtherHost Src (out 6 mac_a)) (sent 6 mac_a ∷ sent 6 mac_b ∷ sent 5 mac_a ∷ sent 7 mac_a ∷ sent 0x0106 mac_a ∷ sent 0x0600 mac_a ∷ sent 0 mac_a ∷ []) 0b1000000
    ∷ row LinuxSll (EtherHost Dst (out 6 0x0000_0001_0006)) (cooked 0x0800 [] ∷ sent 6 mac_a ∷ []) 0
    ∷ row LinuxSll (EtherHost SrcAndDst (out 6 mac_a)) (sll mac_a mac_a 0 0x0800 [] ∷ sent 6 mac_a ∷ []) 0
    ∷ row LinuxSll (EtherHost SrcOrDst (out 6 mac_a)) (sent 6 mac_a ∷ sent 8 mac_a ∷ sll mac_a mac_b 0 0x0800 [] ∷ []) 0b100
    ∷ []

casts_hold : T (test (casts Ethernet ether) && (test (casts LinuxSll cooked) && test others))
unfolding test casts others reads reads_primitive bytes_are kind be
casts_hold = tt

-- ---- short frames: "bytes past the end zero"

-- a frame cut after n bytes
abbrev cut_to : List ℕ → ℕ → List ℕ
cut_to f n = take n f

shorts : List Row
shorts =
    -- an empty frame
    row Ethernet (EtherProto 0) ([] ∷ []) 0b1
    ∷ row LinuxSll (EtherProto 0) ([] ∷ []) 0b1
    ∷ row RawIp (EtherProto 0) ([] ∷ []) 0
    ∷ row Ethernet (Protocol Ip) ([] ∷ []) 0
    ∷ row RawIp (Protocol Ip) ([] ∷ []) 0b1
    ∷ row RawIp (Protocol (Num 0)) ([] ∷ []) 0b1
    ∷ row RawIp (Protocol Tcp) ([] ∷ []) 0
    ∷ row RawIp (Host4 SrcAndDst 0) ([] ∷ []) 0b1
    ∷ row RawIp (Port SrcOrDst None 0) ([] ∷ []) 0
    ∷ row Ethernet (EtherHost SrcAndDst (out 6 0)) ([] ∷ replicate 12 0 ∷ replicate 5 0 ∷ (0 ∷ 1 ∷ []) ∷ []) 0b1110
    -- the address length cut in two, and the sender's address
    ∷ row LinuxSll (EtherHost Src (out 6 0)) ([] ∷ map (cut_to (sent 6 0)) (5 ∷ 6 ∷ 11 ∷ [])) 0b0011
    ∷ row Ethernet EtherMulticast ([] ∷ (1 ∷ []) ∷ []) 0b01
    ∷ row RawIp IpBroadcast ([] ∷ []) 0
    -- the ethertype cut in two
    ∷ row Ethernet (Protocol Ip) (map (cut_to (to 80)) (12 ∷ 13 ∷ 14 ∷ [])) 0b011
    ∷ row LinuxSll (Protocol Ip) (map (cut_to (cooked 0x0800 [])) (14 ∷ 15 ∷ 16 ∷ [])) 0b011
    ∷ row Ethernet (EtherProto 0x8600) (map (cut_to (from6 a6)) (12 ∷ 13 ∷ 14 ∷ [])) 0b010
    -- a link header and nothing more
    ∷ row Ethernet (Protocol (Num 0)) (ether 0x0800 [] ∷ ether 0x86dd [] ∷ []) 0b10
    ∷ row Ethernet (Protocol (Ip6Proto 0)) (ether 0x0800 [] ∷ ether 0x86dd [] ∷ []) 0b01
    ∷ row LinuxSll (Ip6ProtoChain 0) (cooked 0x86dd [] ∷ cooked 0x0800 [] ∷ []) 0b10
    ∷ row Ethernet (Host4 SrcAndDst 0) (ether 0x0800 [] ∷ ether 0x86dd [] ∷ []) 0b10
    ∷ row Ethernet (Host6 SrcAndDst (seg 0)) (ether 0x86dd [] ∷ ether 0x0800 [] ∷ []) 0b10
    ∷ row Ethernet (Net6 Src 127 (seg 1)) (ether 0x86dd [] ∷ ether 0x0800 [] ∷ []) 0b10
    ∷ row Ethernet (Net Dst 0x0000_00ff 0xffff_ff00) (ether 0x0800 [] ∷ ether 0x86dd [] ∷ []) 0b10
    ∷ row Ethernet (Port SrcOrDst None 0) (ether 0x0800 [] ∷ ether 0x86dd [] ∷ []) 0
    -- an address cut: 192.168.0.0, 255.255.255.0; an IPv6 address without its last byte
    ∷ row RawIp (Host4 Dst 0xc0a8_0000) (map (cut_to (hosts4 a4 b4)) (17 ∷ 18 ∷ 19 ∷ [])) 0b010
    ∷ row RawIp IpBroadcast (map (cut_to (hosts4 a4 0xffff_ffff)) (19 ∷ 20 ∷ [])) 0b01
    ∷ row RawIp IpMulticast (map (cut_to (hosts4 a4 0xe000_0001)) (16 ∷ 17 ∷ [])) 0b01
    ∷ row Ethernet (Host6 Dst (seg (b6 - 0x56))) (map (cut_to (to6 b6)) (52 ∷ 53 ∷ 54 ∷ [])) 0b010
    ∷ row Ethernet Ip6Multicast (map (cut_to (to6 (2 ^ 128 - 1))) (38 ∷ 39 ∷ [])) 0b01
    -- ports past the end, and one cut in two
    ∷ row Ethernet (Port SrcAndDst None 0) (map (cut_to (to 80)) (23 ∷ 24 ∷ 34 ∷ 36 ∷ [])) 0b0110
    ∷ row Ethernet (Port Src None 0x0400) (map (cut_to (to 80)) (34 ∷ 35 ∷ 36 ∷ [])) 0b010
    ∷ row Ethernet (PortRange Dst None 0 79) (map (cut_to (to 80)) (36 ∷ 37 ∷ 38 ∷ [])) 0b110
    ∷ row LinuxSll (Port Dst (Some Udp) 0) (map (cut_to (to_by6 80)) (22 ∷ 23 ∷ 59 ∷ 60 ∷ [])) 0b0110
    ∷ []

shorts_hold : T (test shorts)
unfolding test shorts reads reads_primitive reads_proto transport bytes_are segments_agree ipv4 ipv6 kind be
shorts_hold = tt

-- ---- and, or, not

abbrev ip : Expr
ip = Leaf (Protocol Ip)

abbrev tcp : Expr
tcp = Leaf (Protocol Tcp)

abbrev udp : Expr
udp = Leaf (Protocol Udp)

abbrev http : Expr
http = Leaf (Port Dst None 80)

abbrev from_a : Expr
from_a = Leaf (Host4 Src a4)

-- TCP to 80, TCP to 81, UDP to 80, ICMP from B; TCP to 80 on IPv6, ARP
abbrev mixed : List (List ℕ)
mixed = to 80 ∷ to 81 ∷ ether 0x0800 (udp4 1234 80) ∷ ether 0x0800 (hosts4 b4 a4) ∷ ether 0x86dd (tcp6 1234 80) ∷ ether 0x0806 arp ∷ []

joins : List Row
joins =
    joined Ethernet tcp mixed 0b110000
    ∷ joined Ethernet http mixed 0b101010
    ∷ joined Ethernet from_a mixed 0b111000
    ∷ joined Ethernet (And tcp http) mixed 0b100000
    ∷ joined Ethernet (And http tcp) mixed 0b100000
    ∷ joined Ethernet (Or tcp http) mixed 0b111010
    ∷ joined Ethernet (Or http tcp) mixed 0b111010
    ∷ joined Ethernet (Not tcp) mixed 0b001111
    ∷ joined Ethernet (Not (Not http)) mixed 0b101010
    ∷ joined Ethernet (Not (And tcp http)) mixed 0b011111
    ∷ joined Ethernet (Not (Or tcp http)) mixed 0b000101
    ∷ joined Ethernet (And (Not tcp) (Not http)) mixed 0b000101
    ∷ joined Ethernet (And (Or tcp udp) http) mixed 0b101000
    ∷ joined Ethernet (Or tcp (And udp http)) mixed 0b111000
    ∷ joined Ethernet (And ip (Not from_a)) mixed 0b000100
    ∷ joined Ethernet (Or (And tcp http) (And (Not ip) (Not http))) mixed 0b100001
    ∷ joined Ethernet (And tcp (Not tcp)) mixed 0
    ∷ joined Ethernet (Or tcp (Not tcp)) mixed 0b111111
    -- a port stands on either kind, and the two kinds exclude each other
    ∷ joined Ethernet (And (Leaf (Protocol Ip6)) http) mixed 0b000010
    ∷ joined Ethernet (And ip (Leaf (Protocol Ip6))) mixed 0
    -- not of a condition past the end of the frame, and of one that never holds on RawIp
    ∷ joined Ethernet (Not http) ([] ∷ ether 0x0800 [] ∷ []) 0b11
    ∷ joined RawIp (Not (Leaf (Protocol Ip6))) ([] ∷ hosts6 a6 b6 ∷ []) 0b11
    ∷ joined RawIp (And (Not udp) (Or http from_a)) (tcp4 1234 80 ∷ udp4 1234 80 ∷ hosts4 b4 a4 ∷ hosts4 a4 b4 ∷ []) 0b1001
    ∷ joined LinuxSll (And (Not udp) (Or http from_a)) (cooked 0x0800 (udp4 1234 80) ∷ cooked 0x86dd (tcp6 1234 80) ∷ cooked 0x0800 (hosts4 a4 b4) ∷ []) 0b011
    ∷ []

joins_hold : T (test joins)
unfolding test joins reads reads_primitive reads_proto transport ipv4 ipv6 kind be
joins_hold = tt
