-- The direct reading, from document 01, "The verdict on a frame", with RFC 791 and RFC 8200 for the fields' places. Every place, number
-- and mask here is this file's own: nothing comes from the generator. "bytes past the end zero" is `be`.
use Rattle.std.specs.Prelude.{Option, None, Some}
use Rattle.std.specs.Prelude.{ℕ, ◌+◌, ◌*◌, ◌-◌, ◌/◌, ◌%◌, ◌^◌, List, [], ◌∷◌, Bool, true, false, not, ◌&&◌, ◌||◌, eqb, leb}
use Rattle.std.specs.Int.Bits.{bit_and}
use Rattle.bpf.specs.Bytes.{be}
use Rattle.ast.specs.declared.LinkType.{LinkType}
use Rattle.ast.specs.declared.LinkType.TheVariants.{Ethernet, RawIp, LinuxSll}
use Rattle.ast.specs.declared.Dir.{Dir}
use Rattle.ast.specs.declared.Dir.TheVariants.{SrcOrDst, Src, Dst, SrcAndDst}
use Rattle.ast.specs.declared.Proto.{Proto}
use Rattle.ast.specs.declared.Proto.TheVariants.{Ip, Ip6, Arp, Rarp, Tcp, Udp, Icmp, Icmp6, Igmp, Sctp, Num, Ip6Proto}
use Rattle.ast.specs.declared.Primitive.{Primitive}
use Rattle.ast.specs.declared.Primitive.TheVariants.{Protocol, Host4, Host6, Net, Net6, Port, PortRange, EtherHost, EtherProto, EtherMulticast, IpBroadcast, IpMulticast, Ip6Multicast, IpProtoChain, Ip6ProtoChain}
use Rattle.ast.specs.Tree.{Expr, Leaf, And, Or, Not}

-- "n is 14, 0, 16 .. by link": where the network header starts
abbrev pub network_start : LinkType → ℕ
network_start Ethernet = 14
network_start RawIp = 0
network_start LinuxSll = 16

-- "0 either, 1 source, 2 destination, 3 both", of a test of the source and one of the destination
abbrev pub sides : Dir → Bool → Bool → Bool
sides SrcOrDst s d = s || d
sides Src s d = s
sides Dst s d = d
sides SrcAndDst s d = s && d

-- the first p bits of a segment of 16; all of it from 16 on
abbrev pub first : ℕ → ℕ → ℕ
first p v = v / 2 ^ (16 - p)

-- "Set: 6 and 17 for none"; Tcp, Udp and Sctp are 6, 17 and 132. The other protocols are number 6 in a build; here their set is empty
abbrev pub port_set : Option Proto → ℕ → Bool
port_set None q = eqb q 6 || eqb q 17
port_set (Some Tcp) q = eqb q 6
port_set (Some Udp) q = eqb q 17
port_set (Some Sctp) q = eqb q 132
port_set (Some Ip) q = false
port_set (Some Ip6) q = false
port_set (Some Arp) q = false
port_set (Some Rarp) q = false
port_set (Some Icmp) q = false
port_set (Some Icmp6) q = false
port_set (Some Igmp) q = false
port_set (Some (Num n)) q = false
port_set (Some (Ip6Proto n)) q = false

module _ (f : List ℕ) where
  -- "Written b, h, w for a byte, 16 and 32 bits."
  abbrev pub b : ℕ → ℕ
  b at = be 1 at f

  abbrev pub h : ℕ → ℕ
  h at = be 2 at f

  abbrev pub w : ℕ → ℕ
  w at = be 4 at f

  -- the bytes from a place on are these
  unfoldable pub bytes_are : ℕ → List ℕ → Bool
  bytes_are at [] = true
  bytes_are at (v ∷ vs) = eqb (b at) v && bytes_are (at + 1) vs

  -- the segments from a place on agree with these in the first p bits; over 128 asks no more than 128
  unfoldable pub segments_agree : ℕ → ℕ → List ℕ → Bool
  segments_agree p at [] = true
  segments_agree p at (s ∷ ss) = eqb (first p (h at)) (first p s) && segments_agree (p - 16) (at + 2) ss

-- "Ether host: source 6-11". T-03: a cooked capture "carries a sender address at byte 6"; "The sender test also wants the 16-bit address
-- length at byte 4 to be 6"
abbrev pub from_station : LinkType → List ℕ → List ℕ → Bool
from_station Ethernet f a = bytes_are f 6 a
from_station RawIp f a = bytes_are f 6 a
from_station LinuxSll f a = eqb (h f 4) 6 && bytes_are f 6 a

-- ".. destination 0-5"; "Cooked captures have no destination address": a test of it is number 15 in a build, and false here
abbrev pub to_station : LinkType → List ℕ → List ℕ → Bool
to_station Ethernet f a = bytes_are f 0 a
to_station RawIp f a = bytes_are f 0 a
to_station LinuxSll f a = false

-- "Ether multicast: b(0) odd."; the same of a cooked capture
abbrev pub to_many : LinkType → List ℕ → Bool
to_many Ethernet f = eqb (b f 0 % 2) 1
to_many RawIp f = eqb (b f 0 % 2) 1
to_many LinuxSll f = false

-- "Kind v: h at that place is v; on RawIp true for 0x0800 and false for every other v." ".. the ethertype's place 12, none, 14 by link"
unfoldable pub kind : LinkType → List ℕ → ℕ → Bool
kind Ethernet f v = eqb (h f 12) v
kind RawIp f v = eqb v 0x0800
kind LinuxSll f v = eqb (h f 14) v

module _ (L : LinkType) (f : List ℕ) where
  abbrev n : ℕ
  n = network_start L

  -- "IPv4 protocol p: kind 0x0800 and b(n+9)=p."
  unfoldable pub ipv4 : ℕ → Bool
  ipv4 p = kind L f 0x0800 && eqb (b f (n + 9)) p

  -- "IPv6: kind 0x86dd and b(n+6)=p."
  unfoldable pub ipv6 : ℕ → Bool
  ipv6 p = kind L f 0x86dd && eqb (b f (n + 6)) p

  -- "Tcp, Udp, Icmp, Igmp, Sctp are IPv4 6, 17, 1, 2, 132; Icmp6 is IPv6 58; Ip, Ip6, Arp, Rarp are kinds 0800, 86dd, 0806, 8035.
  -- Num tests byte 3 as IPv4 protocol, Ip6Proto as IPv6."
  unfoldable pub reads_proto : Proto → Bool
  reads_proto Ip = kind L f 0x0800
  reads_proto Ip6 = kind L f 0x86dd
  reads_proto Arp = kind L f 0x0806
  reads_proto Rarp = kind L f 0x8035
  reads_proto Tcp = ipv4 6
  reads_proto Udp = ipv4 17
  reads_proto Icmp = ipv4 1
  reads_proto Icmp6 = ipv6 58
  reads_proto Igmp = ipv4 2
  reads_proto Sctp = ipv4 132
  reads_proto (Num p) = ipv4 p
  reads_proto (Ip6Proto p) = ipv6 p

  -- "Port: kind 0x0800, protocol in the set, low 13 bits of h(n+6) zero, X = 4 × (b(n) mod 16); or kind 0x86dd, next header in the set,
  -- X = 40." `test` is asked of X
  unfoldable pub transport : (ℕ → Bool) → (ℕ → Bool) → Bool
  transport set test =
      (kind L f 0x0800 && (set (b f (n + 9)) && (eqb (h f (n + 6) % 2 ^ 13) 0 && test (4 * (b f n % 16)))))
      || (kind L f 0x86dd && (set (b f (n + 6)) && test 40))

  -- "Ports are h(n+X), h(n+X+2)."
  abbrev pub port_test : Dir → (ℕ → Bool) → ℕ → Bool
  port_test d test x = sides d (test (h f (n + x))) (test (h f (n + x + 2)))

  -- the kinds 10 to 24
  unfoldable pub reads_primitive : Primitive → Bool
  reads_primitive (Protocol p) = reads_proto p
  -- "Hosts and nets: the kind, then source at n+12 or n+8, destination at n+16 or n+24, under mask or prefix."
  reads_primitive (Host4 d a) = kind L f 0x0800 && sides d (eqb (w f (n + 12)) a) (eqb (w f (n + 16)) a)
  reads_primitive (Host6 d a) = kind L f 0x86dd && sides d (segments_agree f 128 (n + 8) a) (segments_agree f 128 (n + 24) a)
  reads_primitive (Net d a m) = kind L f 0x0800 && sides d (eqb (bit_and (w f (n + 12)) m) (bit_and a m)) (eqb (bit_and (w f (n + 16)) m) (bit_and a m))
  reads_primitive (Net6 d p a) = kind L f 0x86dd && sides d (segments_agree f p (n + 8) a) (segments_agree f p (n + 24) a)
  reads_primitive (Port d p k) = transport (port_set p) (port_test d (λ v. eqb v k))
  -- "Range: low ≤ port ≤ high."
  reads_primitive (PortRange d p lo hi) = transport (port_set p) (port_test d (λ v. leb lo v && leb v hi))
  reads_primitive (EtherHost d a) = sides d (from_station L f a) (to_station L f a)
  reads_primitive (EtherProto v) = kind L f v
  reads_primitive EtherMulticast = to_many L f
  -- "Broadcast: kind 0x0800, w(n+16)=0xffffffff."
  reads_primitive IpBroadcast = kind L f 0x0800 && eqb (w f (n + 16)) 0xffff_ffff
  -- "Multicast: kind 0x0800, top bits 1110", of the destination
  reads_primitive IpMulticast = kind L f 0x0800 && eqb (w f (n + 16) / 2 ^ 28) 0b1110
  -- "IPv6: kind 0x86dd, b(n+24)=0xff."
  reads_primitive Ip6Multicast = kind L f 0x86dd && eqb (b f (n + 24)) 0xff
  -- "Chains test as protocols."
  reads_primitive (IpProtoChain p) = ipv4 p
  reads_primitive (Ip6ProtoChain p) = ipv6 p

  -- "The and, or and not of a tree read each other in turn."
  unfoldable pub reads : Expr → Bool
  reads (Leaf p) = reads_primitive p
  reads (And l r) = reads l && reads r
  reads (Or l r) = reads l || reads r
  reads (Not t) = not (reads t)
