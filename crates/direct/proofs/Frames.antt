-- Frames for the examples, field by field from the header layouts: Ethernet II, the Linux cooked header of 16 bytes, RFC 791 and RFC 8200.
-- Fields that no condition asks for hold some numbers of their own.
use Prim.Native.Nat.{ℕ, zero, suc, ◌+◌, ◌*◌, ◌-◌, ◌/◌, ◌%◌, ◌^◌}
use mathlib.Core.Path.{◌≡◌, refl}
use mathlib.Core.List.{List, [], ◌∷◌, ◌++◌}
use lib.ListN.{replicate}
use lib.Bits.{bit_xor}

-- the n big-endian bytes of a number
abbrev pub out : ℕ → ℕ → List ℕ
out zero v = []
out (suc n) v = v / 256 ^ n % 256 ∷ out n v

-- ---- link headers: destination, source, kind, packet

abbrev pub eth : ℕ → ℕ → ℕ → List ℕ → List ℕ
eth d s v p = out 6 d ++ (out 6 s ++ (out 2 v ++ p))

-- cooked: packet type, device type and address length are the first six bytes; the sender's address has eight, two of them unused
abbrev pub sll : ℕ → ℕ → ℕ → ℕ → List ℕ → List ℕ
sll d s unused v p = out 6 d ++ (out 6 s ++ (out 2 unused ++ (out 2 v ++ p)))

-- ---- addresses

abbrev pub mac_a : ℕ
mac_a = 0x0200_5e10_000a

abbrev pub mac_b : ℕ
mac_b = 0x0200_5e10_000b

-- 10.0.0.1 and 192.168.1.2
abbrev pub a4 : ℕ
a4 = 0x0a00_0001

abbrev pub b4 : ℕ
b4 = 0xc0a8_0102

-- 2001:db8:85a3:8d3:1319:8a2e:370:7344 and fe80::204:61ff:fe9d:f156
abbrev pub a6 : ℕ
a6 = 0x2001_0db8_85a3_08d3_1319_8a2e_0370_7344

abbrev pub b6 : ℕ
b6 = 0xfe80_0000_0000_0000_0204_61ff_fe9d_f156

-- an IPv6 address with its i-th bit changed, counted from 1 at the top
abbrev pub flip : ℕ → ℕ → ℕ
flip i v = bit_xor v (2 ^ (128 - i))

-- the n segments of an address; eight for IPv6
abbrev pub cut : ℕ → ℕ → List ℕ
cut zero v = []
cut (suc n) v = v / 65536 ^ n % 65536 ∷ cut n v

abbrev pub seg : ℕ → List ℕ
seg v = cut 8 v

-- ---- frames to a default station

abbrev pub ether : ℕ → List ℕ → List ℕ
ether v p = eth mac_b mac_a v p

-- packet type 0, device type 1, address length 6
abbrev pub cooked : ℕ → List ℕ → List ℕ
cooked v p = sll 0x0000_0001_0006 mac_a 0 v p

-- no link header: the kind is lost
abbrev pub raw : ℕ → List ℕ → List ℕ
raw v p = p

-- ---- RFC 791: header length in words, flags and fragment offset, protocol, source, destination; the options are no-operations
abbrev pub ip4 : ℕ → ℕ → ℕ → ℕ → ℕ → List ℕ → List ℕ
ip4 ihl frag q s d p =
    (0x40 + ihl) ∷ 0xb8 ∷ (out 2 60 ++ (out 2 0x1c46 ++ (out 2 frag ++ (64 ∷ q ∷ (out 2 0xb1e6 ++ (out 4 s ++ (out 4 d ++ (replicate (4 * ihl - 20) 1 ++ p))))))))

-- ---- RFC 8200: next header, source, destination
abbrev pub ip6 : ℕ → ℕ → ℕ → List ℕ → List ℕ
ip6 q s d p = out 4 0x6000_0000 ++ (out 2 24 ++ (q ∷ 64 ∷ (out 16 s ++ (out 16 d ++ p))))

-- the start of a TCP, UDP or SCTP header, and four bytes more
abbrev pub ports : ℕ → ℕ → List ℕ
ports s d = out 2 s ++ (out 2 d ++ out 4 0x3ade_68b1)

-- the start of an ICMP echo request
abbrev pub echo : List ℕ
echo = out 4 0x0800_f7ff

-- ARP: Ethernet and IPv4, a request by A for B
abbrev pub arp : List ℕ
arp = out 8 0x0001_0800_0604_0001 ++ (out 6 mac_a ++ (out 4 a4 ++ (out 6 0 ++ out 4 b4)))

-- ---- packets with one field of interest

-- a protocol, with ports 1234 and 80
abbrev pub proto4 : ℕ → List ℕ
proto4 q = ip4 5 0 q a4 b4 (ports 1234 80)

abbrev pub proto6 : ℕ → List ℕ
proto6 q = ip6 q a6 b6 (ports 1234 80)

-- a source and a destination
abbrev pub hosts4 : ℕ → ℕ → List ℕ
hosts4 s d = ip4 5 0 1 s d echo

abbrev pub hosts6 : ℕ → ℕ → List ℕ
hosts6 s d = ip6 58 s d echo

-- a source port and a destination port
abbrev pub tcp4 : ℕ → ℕ → List ℕ
tcp4 s d = ip4 5 0 6 a4 b4 (ports s d)

abbrev pub tcp6 : ℕ → ℕ → List ℕ
tcp6 s d = ip6 6 a6 b6 (ports s d)

-- ---- two of them byte by byte: link header, network header, what follows

ethernet_tcp : ether 0x0800 (tcp4 1234 80) ≡
    0x02 ∷ 0x00 ∷ 0x5e ∷ 0x10 ∷ 0x00 ∷ 0x0b ∷ 0x02 ∷ 0x00 ∷ 0x5e ∷ 0x10 ∷ 0x00 ∷ 0x0a ∷ 0x08 ∷ 0x00
    ∷ 0x45 ∷ 0xb8 ∷ 0x00 ∷ 0x3c ∷ 0x1c ∷ 0x46 ∷ 0x00 ∷ 0x00 ∷ 0x40 ∷ 0x06 ∷ 0xb1 ∷ 0xe6 ∷ 0x0a ∷ 0x00 ∷ 0x00 ∷ 0x01 ∷ 0xc0 ∷ 0xa8 ∷ 0x01 ∷ 0x02
    ∷ 0x04 ∷ 0xd2 ∷ 0x00 ∷ 0x50 ∷ 0x3a ∷ 0xde ∷ 0x68 ∷ 0xb1
    ∷ []
ethernet_tcp = refl

cooked_icmp6 : cooked 0x86dd (hosts6 a6 b6) ≡
    0x00 ∷ 0x00 ∷ 0x00 ∷ 0x01 ∷ 0x00 ∷ 0x06 ∷ 0x02 ∷ 0x00 ∷ 0x5e ∷ 0x10 ∷ 0x00 ∷ 0x0a ∷ 0x00 ∷ 0x00 ∷ 0x86 ∷ 0xdd
    ∷ 0x60 ∷ 0x00 ∷ 0x00 ∷ 0x00 ∷ 0x00 ∷ 0x18 ∷ 0x3a ∷ 0x40
    ∷ 0x20 ∷ 0x01 ∷ 0x0d ∷ 0xb8 ∷ 0x85 ∷ 0xa3 ∷ 0x08 ∷ 0xd3 ∷ 0x13 ∷ 0x19 ∷ 0x8a ∷ 0x2e ∷ 0x03 ∷ 0x70 ∷ 0x73 ∷ 0x44
    ∷ 0xfe ∷ 0x80 ∷ 0x00 ∷ 0x00 ∷ 0x00 ∷ 0x00 ∷ 0x00 ∷ 0x00 ∷ 0x02 ∷ 0x04 ∷ 0x61 ∷ 0xff ∷ 0xfe ∷ 0x9d ∷ 0xf1 ∷ 0x56
    ∷ 0x08 ∷ 0x00 ∷ 0xf7 ∷ 0xff
    ∷ []
cooked_icmp6 = refl
