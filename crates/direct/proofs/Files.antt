-- The direct reading of whole tree files: refusals 1 to 4 and 10 in their order, and each kind from its record's bytes.
use Prim.Native.Nat.{ℕ, ◌+◌, ◌*◌, ◌-◌, ◌^◌}
use mathlib.Core.List.{List, [], ◌∷◌, ◌++◌, map}
use mathlib.Core.Bool.{Bool, true, ◌&&◌}
use lib.ListN.{set, take, replicate}
use lib.Dec.{eqb, T}
use Rattle.bpf.specs.Bytes.{be, segments_at, bytes_at}
use Rattle.ast.specs.Record.{record_at, good, node_by}
use Rattle.ast.specs.File.{header, count, nodes_at, grow, trees_of, parse}
use Rattle.ast.proofs.Examples.{rec, file}
use Rattle.direct.specs.Reading.{bytes_are, segments_agree, kind, ipv4, ipv6, reads_proto, transport, reads_primitive, reads}
use Rattle.direct.specs.Direct.{direct, refusal_of, truth_of}
use Rattle.direct.proofs.Frames.{out, eth, mac_a, mac_b, a4, b4, a6, b6, flip, ether, cooked, ip4, arp, proto4, proto6, hosts4, hosts6, tcp4, tcp6}

-- some files are refused with a number, or a file is read on some frames: a binary numeral, a digit for each frame
data Row : Type 0 where
  refuses : ℕ → List (List ℕ) → List ℕ → Row
  says : List ℕ → List (List ℕ) → ℕ → Row

abbrev refused_all : ℕ → List (List ℕ) → List ℕ → Bool
refused_all n [] f = true
refused_all n (s ∷ ss) f = eqb (refusal_of (direct s f)) n && (eqb (truth_of (direct s f)) 0 && refused_all n ss f)

abbrev said : List ℕ → List (List ℕ) → ℕ → ℕ
said s [] n = n
said s (f ∷ fs) n = said s fs (2 * n + truth_of (direct s f))

abbrev read_all : List ℕ → List (List ℕ) → Bool
read_all s [] = true
read_all s (f ∷ fs) = eqb (refusal_of (direct s f)) 0 && read_all s fs

abbrev holds : Row → Bool
holds (refuses n ss f) = refused_all n ss f
holds (says s fs n) = eqb (said s fs 0) n && read_all s fs

test : List Row → Bool
test [] = true
test (r ∷ rs) = holds r && test rs

-- a file of one record, for Ethernet
abbrev leaf : List ℕ → List ℕ
leaf r = file 1 (r ∷ [])

-- records of Tcp, of destination port 80, and of joins
abbrev tcp : List ℕ
tcp = rec 10 0 5 0 0 0 []

abbrev http : List ℕ
http = rec 15 2 0 0 80 0 []

abbrev and : List ℕ
and = rec 1 0 0 0 0 0 []

abbrev or : List ℕ
or = rec 2 0 0 0 0 0 []

abbrev neg : List ℕ
neg = rec 3 0 0 0 0 0 []

-- a frame on which both conditions are true, and one on IPv6
abbrev web : List ℕ
web = ether 0x0800 (tcp4 1234 80)

abbrev web6 : List ℕ
web6 = ether 0x86dd (tcp6 1234 80)

refusals : List Row
refusals =
    -- 1: under 8 bytes, or mark, version or link differs
    refuses 1 ([] ∷ take 7 (leaf tcp) ∷ []) web
    ∷ refuses 1 (set (leaf tcp) 0 0x70 ∷ set (leaf tcp) 1 0x47 ∷ set (leaf tcp) 2 0 ∷ []) web
    ∷ refuses 1 (set (leaf tcp) 3 1 ∷ set (leaf tcp) 4 0 ∷ set (leaf tcp) 4 2 ∷ []) web
    ∷ refuses 1 (set (leaf tcp) 5 0 ∷ set (leaf tcp) 5 4 ∷ set (leaf tcp) 5 255 ∷ []) web
    -- 2: count 0 or over 128, or length not 8 + 24 × count
    ∷ refuses 2 (file 1 [] ∷ set (leaf tcp) 7 0 ∷ file 1 (replicate 129 tcp) ∷ []) web
    ∷ refuses 2 (take 8 (leaf tcp) ∷ take 31 (leaf tcp) ∷ (leaf tcp ++ (0 ∷ [])) ∷ []) web
    ∷ refuses 2 (set (leaf tcp) 7 2 ∷ set (leaf tcp) 6 1 ∷ []) web
    -- 3: unknown kind, direction or protocol
    ∷ refuses 3 (map (λ k. leaf (rec k 0 0 0 0 0 [])) (0 ∷ 4 ∷ 9 ∷ 25 ∷ 255 ∷ [])) web
    ∷ refuses 3 (map (λ d. leaf (rec 11 d 0 0 0 0 (out 4 a4))) (4 ∷ 255 ∷ [])) web
    ∷ refuses 3 (map (λ p. leaf (rec 10 0 p 0 0 0 [])) (0 ∷ 13 ∷ 255 ∷ [])) web
    ∷ refuses 3 (map (λ p. leaf (rec 15 0 p 0 80 0 [])) (13 ∷ 255 ∷ [])) web
    -- 3: an unused byte not zero: direction and protocol; small number; A and B; address
    ∷ refuses 3 (leaf (rec 10 1 5 0 0 0 []) ∷ leaf (rec 11 0 1 0 0 0 (out 4 a4)) ∷ []) web
    ∷ refuses 3 (map (λ p. leaf (rec 10 0 p 6 0 0 [])) (1 ∷ 5 ∷ 10 ∷ [])) web
    ∷ refuses 3 (leaf (rec 15 0 0 6 80 0 []) ∷ leaf (rec 16 0 5 6 80 80 []) ∷ leaf (rec 13 0 0 8 0 0 []) ∷ []) web
    ∷ refuses 3 (leaf (rec 19 0 0 0 1 0 []) ∷ leaf (rec 15 0 0 0 80 81 []) ∷ leaf (rec 18 0 0 0 0x0800 1 []) ∷ []) web
    ∷ refuses 3 (map (λ i. leaf (set (rec 11 0 0 0 0 0 (out 4 a4)) i 1)) (12 ∷ 16 ∷ 23 ∷ [])) web
    ∷ refuses 3 (leaf (set (rec 13 0 0 0 0 0 []) 16 1) ∷ leaf (set (rec 17 0 0 0 0 0 []) 14 1) ∷ leaf (set tcp 8 1) ∷ []) web
    ∷ refuses 3 (map (λ i. file 1 (set neg i 1 ∷ tcp ∷ [])) (1 ∷ 2 ∷ 3 ∷ 5 ∷ 7 ∷ 23 ∷ [])) web
    -- 4: prefix reading doesn't end exactly at the last record
    ∷ refuses 4 (file 1 (tcp ∷ tcp ∷ []) ∷ file 1 (neg ∷ tcp ∷ tcp ∷ []) ∷ file 1 (or ∷ tcp ∷ tcp ∷ tcp ∷ []) ∷ []) web
    ∷ refuses 4 (leaf and ∷ leaf or ∷ leaf neg ∷ file 1 (and ∷ tcp ∷ []) ∷ file 1 (tcp ∷ and ∷ tcp ∷ []) ∷ []) web
    -- the lower number first: 1 and 2; 2 and 3; 3 and 4, also past the tree's end
    ∷ refuses 1 (set (set (leaf tcp) 5 4) 7 2 ∷ []) web
    ∷ refuses 2 (set (set (leaf tcp) 7 2) 8 0 ∷ []) web
    ∷ refuses 3 (file 1 (tcp ∷ set tcp 0 25 ∷ []) ∷ file 1 (and ∷ set tcp 2 0 ∷ []) ∷ []) web
    ∷ []

-- a frame over 65,535 bytes, and one at the limit
abbrev long : List ℕ
long = web ++ replicate (65536 - 42) 0

abbrev longest : List ℕ
longest = web ++ replicate (65535 - 42) 0

limits : List Row
limits =
    refuses 10 (leaf tcp ∷ file 2 (tcp ∷ []) ∷ file 1 (neg ∷ tcp ∷ []) ∷ []) long
    ∷ says (leaf tcp) (longest ∷ []) 0b1
    ∷ says (file 1 (neg ∷ tcp ∷ [])) (longest ∷ []) 0
    -- 1, 2, 3, 4 of the file before 10 of the frame
    ∷ refuses 1 (set (leaf tcp) 4 2 ∷ []) long
    ∷ refuses 2 (set (leaf tcp) 7 2 ∷ []) long
    ∷ refuses 3 (leaf (set tcp 0 25) ∷ []) long
    ∷ refuses 4 (file 1 (tcp ∷ tcp ∷ []) ∷ []) long
    ∷ []

refusals_hold : T (test refusals)
unfolding test refusals direct parse header count nodes_at node_by good record_at grow trees_of reads reads_primitive reads_proto transport bytes_are segments_agree ipv4 ipv6 kind be segments_at bytes_at
refusals_hold = tt

limits_hold : T (test limits)
unfolding test limits direct parse header count nodes_at node_by good record_at grow trees_of reads reads_primitive reads_proto transport bytes_are segments_agree ipv4 ipv6 kind be segments_at bytes_at
limits_hold = tt

-- IPv4: TCP, UDP, ICMP, IGMP, SCTP; IPv6: ICMPv6, TCP; ARP, RARP
abbrev nine : List (List ℕ)
nine = map (λ q. ether 0x0800 (proto4 q)) (6 ∷ 17 ∷ 1 ∷ 2 ∷ 132 ∷ []) ++ (ether 0x86dd (proto6 58) ∷ web6 ∷ ether 0x0806 arp ∷ ether 0x8035 arp ∷ [])

-- from A to B, B to A, A to A, B to B
abbrev sides4 : List (List ℕ)
sides4 = map (ether 0x0800) (hosts4 a4 b4 ∷ hosts4 b4 a4 ∷ hosts4 a4 a4 ∷ hosts4 b4 b4 ∷ [])

abbrev sides6 : List (List ℕ)
sides6 = map (ether 0x86dd) (hosts6 a6 b6 ∷ hosts6 b6 a6 ∷ hosts6 a6 a6 ∷ hosts6 b6 b6 ∷ [])

-- TCP to 80, TCP to 81, UDP to 80, ICMP
abbrev four : List (List ℕ)
four = web ∷ ether 0x0800 (tcp4 1234 81) ∷ ether 0x0800 (proto4 17) ∷ ether 0x0800 (proto4 1) ∷ []

kinds : List Row
kinds =
    -- 10: the twelve protocols
    says (leaf (rec 10 0 1 0 0 0 [])) nine 0b11111_00_00
    ∷ says (leaf (rec 10 0 2 0 0 0 [])) nine 0b00000_11_00
    ∷ says (leaf (rec 10 0 3 0 0 0 [])) nine 0b00000_00_10
    ∷ says (leaf (rec 10 0 4 0 0 0 [])) nine 0b00000_00_01
    ∷ says (leaf (rec 10 0 5 0 0 0 [])) nine 0b10000_00_00
    ∷ says (leaf (rec 10 0 6 0 0 0 [])) nine 0b01000_00_00
    ∷ says (leaf (rec 10 0 7 0 0 0 [])) nine 0b00100_00_00
    ∷ says (leaf (rec 10 0 8 0 0 0 [])) nine 0b00000_10_00
    ∷ says (leaf (rec 10 0 9 0 0 0 [])) nine 0b00010_00_00
    ∷ says (leaf (rec 10 0 10 0 0 0 [])) nine 0b00001_00_00
    ∷ says (leaf (rec 10 0 11 132 0 0 [])) nine 0b00001_00_00
    ∷ says (leaf (rec 10 0 12 6 0 0 [])) nine 0b00000_01_00
    -- 23 and 24: chains
    ∷ says (leaf (rec 23 0 0 17 0 0 [])) nine 0b01000_00_00
    ∷ says (leaf (rec 24 0 0 58 0 0 [])) nine 0b00000_10_00
    -- 18: ether protocol
    ∷ says (leaf (rec 18 0 0 0 0x8035 0 [])) nine 0b00000_00_01
    -- 11 to 14: hosts and nets; directions 0 either, 1 source, 2 destination, 3 both
    ∷ says (leaf (rec 11 0 0 0 0 0 (out 4 a4))) sides4 0b1110
    ∷ says (leaf (rec 11 1 0 0 0 0 (out 4 a4))) sides4 0b1010
    ∷ says (leaf (rec 11 2 0 0 0 0 (out 4 a4))) sides4 0b0110
    ∷ says (leaf (rec 11 3 0 0 0 0 (out 4 a4))) sides4 0b0010
    ∷ says (leaf (rec 12 0 0 0 0 0 (out 16 a6))) sides6 0b1110
    ∷ says (leaf (rec 12 1 0 0 0 0 (out 16 a6))) sides6 0b1010
    ∷ says (leaf (rec 13 2 0 0 0 0 (out 8 0x0aff_ffff_ff00_0000))) sides4 0b0110
    ∷ says (leaf (rec 13 3 0 0 0 0 (out 8 0x0a00_0000_0000_0000))) sides4 0b1111
    ∷ says (leaf (rec 14 2 0 64 0 0 (out 16 (flip 65 a6)))) sides6 0b0110
    ∷ says (leaf (rec 14 2 0 65 0 0 (out 16 (flip 65 a6)))) sides6 0
    ∷ says (leaf (rec 14 1 0 255 0 0 (out 16 a6))) sides6 0b1010
    -- 15 and 16: port and range, protocol 0, 5, 6, 10
    ∷ says (leaf (rec 15 2 0 0 80 0 [])) (web ∷ web6 ∷ ether 0x0800 (tcp4 80 1234) ∷ ether 0x0800 (proto4 132) ∷ []) 0b1100
    ∷ says (leaf (rec 15 1 6 0 1234 0 [])) (ether 0x0800 (proto4 17) ∷ web ∷ []) 0b10
    ∷ says (leaf (rec 15 0 10 0 80 0 [])) (ether 0x0800 (proto4 132) ∷ web ∷ []) 0b10
    ∷ says (leaf (rec 16 2 5 0 80 90 [])) (web ∷ web6 ∷ ether 0x0800 (tcp4 80 91) ∷ ether 0x0800 (proto4 17) ∷ []) 0b1100
    ∷ says (leaf (rec 16 3 0 0 80 90 [])) (ether 0x0800 (tcp4 80 90) ∷ ether 0x0800 (tcp4 79 90) ∷ []) 0b10
    ∷ says (leaf (rec 16 0 0 0 90 80 [])) (ether 0x0800 (tcp4 80 90) ∷ []) 0
    -- 17, 19: stations; 20 to 22: broadcast and multicast
    ∷ says (leaf (rec 17 1 0 0 0 0 (out 6 mac_a))) (web ∷ eth mac_a mac_b 0x0800 [] ∷ []) 0b10
    ∷ says (leaf (rec 17 2 0 0 0 0 (out 6 mac_a))) (web ∷ eth mac_a mac_b 0x0800 [] ∷ []) 0b01
    ∷ says (leaf (rec 19 0 0 0 0 0 [])) (eth 0x0100_5e00_0001 mac_a 0x0800 [] ∷ web ∷ []) 0b10
    ∷ says (leaf (rec 20 0 0 0 0 0 [])) (ether 0x0800 (hosts4 a4 0xffff_ffff) ∷ web ∷ []) 0b10
    ∷ says (leaf (rec 21 0 0 0 0 0 [])) (ether 0x0800 (hosts4 a4 0xe000_0001) ∷ web ∷ []) 0b10
    ∷ says (leaf (rec 22 0 0 0 0 0 [])) (ether 0x86dd (hosts6 a6 (0xff02 * 2 ^ 112 + 1)) ∷ web6 ∷ []) 0b10
    -- the link byte: 1 Ethernet, 2 RawIp, 3 LinuxSll
    ∷ says (leaf tcp) (web ∷ tcp4 1234 80 ∷ cooked 0x0800 (tcp4 1234 80) ∷ []) 0b100
    ∷ says (file 2 (tcp ∷ [])) (web ∷ tcp4 1234 80 ∷ cooked 0x0800 (tcp4 1234 80) ∷ []) 0b010
    ∷ says (file 3 (tcp ∷ [])) (web ∷ tcp4 1234 80 ∷ cooked 0x0800 (tcp4 1234 80) ∷ []) 0b001
    -- trees that the build turns down with 5, 6, 7 are read all the same
    ∷ says (file 2 (rec 10 0 2 0 0 0 [] ∷ [])) (tcp4 1234 80 ∷ tcp6 1234 80 ∷ []) 0
    ∷ says (leaf (rec 15 0 7 0 80 0 [])) (web ∷ ether 0x0800 (proto4 1) ∷ []) 0
    ∷ says (leaf (rec 15 0 11 6 80 0 [])) (web ∷ []) 0
    ∷ says (file 2 (rec 19 0 0 0 0 0 [] ∷ [])) (ip4 5 0 6 a4 b4 [] ∷ ip4 6 0 6 a4 b4 [] ∷ []) 0b10
    -- 1 and, 2 or, 3 not: "a node, its left part, its right part"
    ∷ says (file 1 (and ∷ tcp ∷ http ∷ [])) four 0b1000
    ∷ says (file 1 (or ∷ tcp ∷ http ∷ [])) four 0b1110
    ∷ says (file 1 (neg ∷ tcp ∷ [])) four 0b0011
    ∷ says (file 1 (and ∷ or ∷ tcp ∷ http ∷ neg ∷ tcp ∷ [])) four 0b0010
    ∷ says (file 1 (or ∷ tcp ∷ and ∷ http ∷ neg ∷ tcp ∷ [])) four 0b1110
    ∷ says (file 1 (or ∷ and ∷ tcp ∷ http ∷ neg ∷ tcp ∷ [])) four 0b1011
    ∷ says (file 1 (neg ∷ and ∷ tcp ∷ http ∷ [])) four 0b0111
    ∷ says (file 1 (and ∷ neg ∷ tcp ∷ http ∷ [])) four 0b0010
    ∷ says (file 1 (replicate 31 neg ++ (tcp ∷ []))) four 0b0011
    ∷ []

kinds_hold : T (test kinds)
unfolding test kinds direct parse header count nodes_at node_by good record_at grow trees_of reads reads_primitive reads_proto transport bytes_are segments_agree ipv4 ipv6 kind be segments_at bytes_at
kinds_hold = tt
