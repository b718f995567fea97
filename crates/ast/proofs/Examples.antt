-- Small tree files, and what `parse` answers to each: one table, one theorem.
use Rattle.std.specs.Prelude.{None, Some}
use Rattle.std.specs.Prelude.{Ok, Err}
use Prim.Native.Nat.{ℕ, zero, suc, ◌/◌, ◌%◌}
use mathlib.Core.Path.{◌≡◌, refl}
use mathlib.Core.List.{List, [], ◌∷◌, ◌++◌, map}
use mathlib.Core.Bool.{cond}
use lib.ListN.{length, take, set, replicate}
use Rattle.error.specs.Answer.{Out, number_of}
use Rattle.bpf.specs.Bytes.{be, bytes_at, segments_at}
use Rattle.ast.specs.declared.LinkType.{LinkType}
use Rattle.ast.specs.declared.LinkType.TheVariants.{Ethernet, RawIp, LinuxSll}
use Rattle.ast.specs.declared.Dir.TheVariants.{SrcOrDst, Src, Dst, SrcAndDst}
use Rattle.ast.specs.declared.Proto.{Proto}
use Rattle.ast.specs.declared.Proto.TheVariants.{Ip, Ip6, Arp, Rarp, Tcp, Udp, Icmp, Icmp6, Igmp, Sctp, Num, Ip6Proto}
use Rattle.ast.specs.declared.Primitive.{Primitive}
use Rattle.ast.specs.declared.Primitive.TheVariants.{Protocol, Host4, Host6, Net, Net6, Port, PortRange, EtherHost, EtherProto, EtherMulticast, IpBroadcast, IpMulticast, Ip6Multicast, IpProtoChain, Ip6ProtoChain}
use Rattle.ast.specs.Tree.{Expr, Leaf, And, Or, Not}
use Rattle.ast.specs.Record.{record_at, good, node_by, member}
use Rattle.ast.specs.File.{header, count, nodes_at, grow, trees_of, Filter, parse}

-- ---- files

abbrev two : ℕ → List ℕ
two v = v / 256 ∷ v % 256 ∷ []

-- n numbers from one on
span : ℕ → ℕ → List ℕ
span i zero = []
span i (suc n) = i ∷ span (suc i) n

-- a record: kind, direction, protocol, small number, A, B, and the first bytes of its address
abbrev pub rec : ℕ → ℕ → ℕ → ℕ → ℕ → ℕ → List ℕ → List ℕ
rec k d p n a b x = k ∷ d ∷ p ∷ n ∷ (two a ++ (two b ++ take 16 (x ++ replicate 16 0)))

abbrev joined : List (List ℕ) → List ℕ
joined [] = []
joined (r ∷ rs) = r ++ joined rs

-- a file with this link byte and these records
abbrev pub file : ℕ → List (List ℕ) → List ℕ
file l rs = 0x50 ∷ 0x46 ∷ 0x54 ∷ 0 ∷ 1 ∷ l ∷ (two (length rs) ++ joined rs)

-- records that use no byte but the kind's; the record of a protocol; a file of one record
plain : ℕ → List ℕ
plain k = rec k 0 0 0 0 0 []

proto : ℕ → List ℕ
proto p = rec 10 0 p 0 0 0 []

one : List ℕ → List ℕ
one r = file 1 (r ∷ [])

ip : List ℕ
ip = one (proto 1)

-- ---- answers

data Answer : Type 0 where
  refusal : ℕ → Answer  -- by its number
  gives : LinkType → Expr → Answer
  passes : Answer  -- a tree, whichever

-- an answer as a row looks at it
seen : Answer → Out Filter → Answer
seen a (Err r) = refusal (number_of r)
seen (refusal n) (Ok f) = passes
seen (gives l t) (Ok f) = gives f.link f.tree
seen passes (Ok f) = passes

abbrev Row : Type 0
Row = List ℕ × Answer

-- Ethernet and one condition
leaf : Primitive → Answer
leaf p = gives Ethernet (Leaf p)

-- the tree of one protocol
is : Proto → Expr
is p = Leaf (Protocol p)

-- ---- the table

rows : List Row
rows =
    -- a link byte
    (file 1 (proto 1 ∷ []), gives Ethernet (is Ip))
    ∷ (file 2 (proto 1 ∷ []), gives RawIp (is Ip))
    ∷ (file 3 (proto 1 ∷ []), gives LinuxSll (is Ip))
    -- number 1: under 8 bytes; each letter of the mark; version 0, 2, 257; link 0, 4, 255
    ∷ ([], refusal 1)
    ∷ (take 7 ip, refusal 1)
    ∷ (set ip 0 0x70, refusal 1)
    ∷ (set ip 1 0x66, refusal 1)
    ∷ (set ip 2 0x74, refusal 1)
    ∷ (set ip 4 0, refusal 1)
    ∷ (set ip 4 2, refusal 1)
    ∷ (set ip 3 1, refusal 1)
    ∷ (set ip 5 0, refusal 1)
    ∷ (set ip 5 4, refusal 1)
    ∷ (set ip 5 255, refusal 1)
    -- number 2: count 0, 129, 257; a byte short, a byte long; a record short, a record long
    ∷ (file 1 [], refusal 2)
    ∷ (set ip 7 0, refusal 2)
    ∷ (file 1 (replicate 129 (plain 0)), refusal 2)
    ∷ (set ip 6 1, refusal 2)
    ∷ (take 31 ip, refusal 2)
    ∷ (ip ++ 0 ∷ [], refusal 2)
    ∷ (set ip 7 2, refusal 2)
    ∷ (ip ++ proto 1, refusal 2)
    -- number 3: not too many records, and the first is bad; unknown kinds
    ∷ (file 1 (replicate 128 (plain 0)), refusal 3)
    ∷ (one (plain 0), refusal 3)
    ∷ (one (plain 4), refusal 3)
    ∷ (one (plain 9), refusal 3)
    ∷ (one (plain 25), refusal 3)
    ∷ (one (plain 255), refusal 3)
    -- directions
    ∷ (one (rec 11 0 0 0 0 0 []), leaf (Host4 SrcOrDst 0))
    ∷ (one (rec 11 1 0 0 0 0 []), leaf (Host4 Src 0))
    ∷ (one (rec 11 2 0 0 0 0 []), leaf (Host4 Dst 0))
    ∷ (one (rec 11 3 0 0 0 0 []), leaf (Host4 SrcAndDst 0))
    ∷ (one (rec 11 4 0 0 0 0 []), refusal 3)
    ∷ (one (rec 16 4 0 0 0 0 []), refusal 3)
    ∷ (one (rec 17 255 0 0 0 0 []), refusal 3)
    -- protocols
    ∷ (one (proto 0), refusal 3)
    ∷ (one (proto 1), leaf (Protocol Ip))
    ∷ (one (proto 2), leaf (Protocol Ip6))
    ∷ (one (proto 3), leaf (Protocol Arp))
    ∷ (one (proto 4), leaf (Protocol Rarp))
    ∷ (one (proto 5), leaf (Protocol Tcp))
    ∷ (one (proto 6), leaf (Protocol Udp))
    ∷ (one (proto 7), leaf (Protocol Icmp))
    ∷ (one (proto 8), leaf (Protocol Icmp6))
    ∷ (one (proto 9), leaf (Protocol Igmp))
    ∷ (one (proto 10), leaf (Protocol Sctp))
    ∷ (one (proto 11), leaf (Protocol (Num 0)))
    ∷ (one (proto 12), leaf (Protocol (Ip6Proto 0)))
    ∷ (one (proto 13), refusal 3)
    ∷ (one (proto 255), refusal 3)
    ∷ (one (rec 15 0 0 0 0 0 []), leaf (Port SrcOrDst None 0))
    ∷ (one (rec 15 0 13 0 0 0 []), refusal 3)
    ∷ (one (rec 16 0 0 0 0 0 []), leaf (PortRange SrcOrDst None 0 0))
    ∷ (one (rec 16 0 13 0 0 0 []), refusal 3)
    -- the small number of a protocol
    ∷ (one (rec 10 0 11 0x21 0 0 []), leaf (Protocol (Num 0x21)))
    ∷ (one (rec 10 0 12 0x21 0 0 []), leaf (Protocol (Ip6Proto 0x21)))
    ∷ (one (rec 10 0 10 0x21 0 0 []), refusal 3)
    ∷ (one (rec 15 0 0 0x21 0 0 []), refusal 3)
    ∷ (one (rec 15 0 5 0x21 0 0 []), refusal 3)
    ∷ (one (rec 16 0 0 0x21 0 0 []), refusal 3)
    ∷ (one (rec 16 0 10 0x21 0 0 []), refusal 3)
    -- each kind with all the bytes that it uses, none of them zero
    ∷ (one (rec 11 1 0 0 0 0 (span 0x31 4)), leaf (Host4 Src 0x31323334))
    ∷ (one (rec 12 2 0 0 0 0 (span 0x31 16)), leaf (Host6 Dst (0x3132 ∷ 0x3334 ∷ 0x3536 ∷ 0x3738 ∷ 0x393a ∷ 0x3b3c ∷ 0x3d3e ∷ 0x3f40 ∷ [])))
    ∷ (one (rec 13 3 0 0 0 0 (span 0x31 8)), leaf (Net SrcAndDst 0x31323334 0x35363738))
    ∷ (one (rec 14 1 0 0xff 0 0 (span 0x31 16)), leaf (Net6 Src 0xff (0x3132 ∷ 0x3334 ∷ 0x3536 ∷ 0x3738 ∷ 0x393a ∷ 0x3b3c ∷ 0x3d3e ∷ 0x3f40 ∷ [])))
    ∷ (one (rec 15 2 5 0 0x4142 0 []), leaf (Port Dst (Some Tcp) 0x4142))
    ∷ (one (rec 15 1 11 0x21 0x4142 0 []), leaf (Port Src (Some (Num 0x21)) 0x4142))
    ∷ (one (rec 16 3 6 0 0x4142 0x5152 []), leaf (PortRange SrcAndDst (Some Udp) 0x4142 0x5152))
    ∷ (one (rec 16 1 12 0x21 0x4142 0x5152 []), leaf (PortRange Src (Some (Ip6Proto 0x21)) 0x4142 0x5152))
    ∷ (one (rec 17 2 0 0 0 0 (span 0x31 6)), leaf (EtherHost Dst (0x31 ∷ 0x32 ∷ 0x33 ∷ 0x34 ∷ 0x35 ∷ 0x36 ∷ [])))
    ∷ (one (rec 18 0 0 0 0x4142 0 []), leaf (EtherProto 0x4142))
    ∷ (one (plain 19), leaf EtherMulticast)
    ∷ (one (plain 20), leaf IpBroadcast)
    ∷ (one (plain 21), leaf IpMulticast)
    ∷ (one (plain 22), leaf Ip6Multicast)
    ∷ (one (rec 23 0 0 0x21 0 0 []), leaf (IpProtoChain 0x21))
    ∷ (one (rec 24 0 0 0x21 0 0 []), leaf (Ip6ProtoChain 0x21))
    -- prefix order
    ∷ (file 1 (plain 1 ∷ proto 1 ∷ proto 2 ∷ []), gives Ethernet (And (is Ip) (is Ip6)))
    ∷ (file 1 (plain 2 ∷ proto 1 ∷ proto 2 ∷ []), gives Ethernet (Or (is Ip) (is Ip6)))
    ∷ (file 1 (plain 3 ∷ proto 1 ∷ []), gives Ethernet (Not (is Ip)))
    ∷ (file 1 (plain 1 ∷ plain 1 ∷ proto 1 ∷ proto 2 ∷ proto 3 ∷ []), gives Ethernet (And (And (is Ip) (is Ip6)) (is Arp)))
    ∷ (file 1 (plain 1 ∷ proto 1 ∷ plain 1 ∷ proto 2 ∷ proto 3 ∷ []), gives Ethernet (And (is Ip) (And (is Ip6) (is Arp))))
    ∷ (
      file 3 (plain 2 ∷ plain 1 ∷ proto 1 ∷ plain 3 ∷ proto 2 ∷ plain 3 ∷ plain 2 ∷ proto 3 ∷ proto 4 ∷ []),
      gives LinuxSll (Or (And (is Ip) (Not (is Ip6))) (Not (Or (is Arp) (is Rarp)))),
    )
    -- number 4: too few parts; a tree too many
    ∷ (one (plain 1), refusal 4)
    ∷ (one (plain 2), refusal 4)
    ∷ (one (plain 3), refusal 4)
    ∷ (file 1 (plain 1 ∷ proto 1 ∷ []), refusal 4)
    ∷ (file 1 (plain 2 ∷ proto 1 ∷ []), refusal 4)
    ∷ (file 1 (plain 1 ∷ plain 1 ∷ proto 1 ∷ proto 2 ∷ []), refusal 4)
    ∷ (file 1 (proto 1 ∷ plain 3 ∷ []), refusal 4)
    ∷ (file 1 (proto 1 ∷ proto 2 ∷ []), refusal 4)
    ∷ (file 1 (plain 3 ∷ proto 1 ∷ proto 2 ∷ []), refusal 4)
    ∷ (file 1 (plain 2 ∷ proto 1 ∷ proto 2 ∷ proto 3 ∷ []), refusal 4)
    -- two defects: 1 before 2, 3, 4; 2 before 3, 4; 3 before 4, before the tree's end and after it
    ∷ (file 0 [], refusal 1)
    ∷ (file 4 (plain 0 ∷ []), refusal 1)
    ∷ (file 4 (plain 1 ∷ []), refusal 1)
    ∷ (one (plain 0) ++ 0 ∷ [], refusal 2)
    ∷ (one (plain 1) ++ 0 ∷ [], refusal 2)
    ∷ (file 1 (plain 1 ∷ plain 0 ∷ []), refusal 3)
    ∷ (file 1 (proto 1 ∷ plain 0 ∷ []), refusal 3)
    ∷ []

-- a good record; what stands after it; its bytes, beside the kind's, that may be other than zero
abbrev Use : Type 0
Use = List ℕ × List (List ℕ) × List ℕ

uses : List Use
uses =
    (plain 1, proto 1 ∷ proto 1 ∷ [], [])
    ∷ (plain 2, proto 1 ∷ proto 1 ∷ [], [])
    ∷ (plain 3, proto 1 ∷ [], [])
    ∷ (proto 10, [], 2 ∷ [])
    ∷ (proto 11, [], 2 ∷ 3 ∷ [])
    ∷ (proto 12, [], 2 ∷ 3 ∷ [])
    ∷ (plain 11, [], 1 ∷ span 8 4)
    ∷ (plain 12, [], 1 ∷ span 8 16)
    ∷ (plain 13, [], 1 ∷ span 8 8)
    ∷ (plain 14, [], 1 ∷ 3 ∷ span 8 16)
    ∷ (plain 15, [], 1 ∷ 2 ∷ 4 ∷ 5 ∷ [])
    ∷ (plain 16, [], 1 ∷ 2 ∷ 4 ∷ 5 ∷ 6 ∷ 7 ∷ [])
    ∷ (plain 17, [], 1 ∷ span 8 6)
    ∷ (plain 18, [], 4 ∷ 5 ∷ [])
    ∷ (plain 19, [], [])
    ∷ (plain 20, [], [])
    ∷ (plain 21, [], [])
    ∷ (plain 22, [], [])
    ∷ (plain 23, [], 3 ∷ [])
    ∷ (plain 24, [], 3 ∷ [])
    ∷ []

-- a 1 in each byte by itself
spoiled : List Use → List Row
spoiled [] = []
spoiled (u ∷ us) = map (λ i. (file 1 (set u.0 i 1 ∷ u.1), cond (member i u.2) passes (refusal 3))) (span 1 23) ++ spoiled us

table : List Row
table = rows ++ spoiled uses

answers : List Row → List Answer
answers rs = map (λ r. seen r.1 (parse r.0)) rs

wanted : List Row → List Answer
wanted rs = map (λ r. r.1) rs

examples_hold : answers table ≡ wanted table
unfolding table rows uses spoiled answers wanted seen span plain proto one ip leaf is parse header count nodes_at trees_of grow node_by good record_at be bytes_at segments_at
examples_hold = refl
