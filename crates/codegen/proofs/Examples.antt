-- Trees and what the published Rust answers to them, as one table with one theorem: every kind on every link, and the traps of the joins.
-- The expected answers are the oracle's (tools/oracle), not the definition's; those of the requests are written from their text.
use Rattle.std.specs.Prelude.{Option, None, Some}
use Rattle.std.specs.Prelude.{Ok, Err}
use Prim.Native.Nat.{ℕ}
use mathlib.Core.List.{List, [], ◌∷◌, ◌++◌}
use mathlib.Core.Bool.{Bool, true, false, not, ◌&&◌}
use lib.ListN.{length, get_or, replicate}
use lib.Dec.{eqb, T}
use Rattle.error.specs.Answer.{Out, number_of}
use Rattle.bpf.specs.declared.Insn.{Insn}
use Rattle.bpf.specs.Bytes.{be}
use Rattle.bpf.specs.Program.{insn}
use Rattle.ast.specs.declared.LinkType.{LinkType}
use Rattle.ast.specs.declared.LinkType.TheVariants.{Ethernet, RawIp, LinuxSll}
use Rattle.ast.specs.declared.Dir.{Dir}
use Rattle.ast.specs.declared.Dir.TheVariants.{SrcOrDst, Src, Dst, SrcAndDst}
use Rattle.ast.specs.declared.Proto.{Proto}
use Rattle.ast.specs.declared.Proto.TheVariants.{Ip, Ip6, Arp, Rarp, Tcp, Udp, Icmp, Icmp6, Igmp, Sctp, Num, Ip6Proto}
use Rattle.ast.specs.declared.Primitive.TheVariants.{Protocol, Host4, Host6, Net, Net6, Port, PortRange, EtherHost, EtherProto, EtherMulticast, IpBroadcast, IpMulticast, Ip6Multicast, IpProtoChain, Ip6ProtoChain}
use Rattle.ast.specs.Tree.{Expr, Leaf, And, Or, Not}
use Rattle.codegen.specs.Guards.{primitive_guards, required_guards}
use Rattle.codegen.specs.Block.{settle, turn, otherwise, far, writes_x, assemble}
use Rattle.codegen.specs.Emit as E
use Rattle.codegen.specs.Compile.{finished, compile}
use Rattle.codegen.specs.Cooked.{holds_ether, primitive_before, walk, walked, compile_before}

-- ---- instructions

abbrev ldw : ℕ → Insn
ldw k = insn 0x20 0 0 k

abbrev ldh : ℕ → Insn
ldh k = insn 0x28 0 0 k

abbrev ldb : ℕ → Insn
ldb k = insn 0x30 0 0 k

abbrev ldhx : ℕ → Insn
ldhx k = insn 0x48 0 0 k

abbrev ldxm : ℕ → Insn
ldxm k = insn 0xb1 0 0 k

abbrev ldx : ℕ → Insn
ldx k = insn 0x01 0 0 k

abbrev mask : ℕ → Insn
mask k = insn 0x54 0 0 k

-- a test: number, jt, jf
abbrev jeq : ℕ → ℕ → ℕ → Insn
jeq k t f = insn 0x15 t f k

abbrev jgt : ℕ → ℕ → ℕ → Insn
jgt k t f = insn 0x25 t f k

abbrev jge : ℕ → ℕ → ℕ → Insn
jge k t f = insn 0x35 t f k

abbrev jset : ℕ → ℕ → ℕ → Insn
jset k t f = insn 0x45 t f k

abbrev ja : ℕ → Insn
ja k = insn 0x05 0 0 k

abbrev ret : ℕ → Insn
ret k = insn 0x06 0 0 k

-- ---- trees

infixl 6 ◌and◌
abbrev ◌and◌ : Expr → Expr → Expr
◌and◌ = And

infixl 5 ◌or◌
abbrev ◌or◌ : Expr → Expr → Expr
◌or◌ = Or

-- parts joined from the left
abbrev joined : (Expr → Expr → Expr) → Expr → List Expr → Expr
joined j t [] = t
joined j t (u ∷ us) = joined j (j t u) us

abbrev proto : Proto → Expr
proto p = Leaf (Protocol p)

abbrev port : Dir → Option Proto → ℕ → Expr
port d p k = Leaf (Port d p k)

abbrev host6 : Dir → Expr
host6 d = Leaf (Host6 d (0x2001 ∷ 0xdb8 ∷ 1 ∷ 2 ∷ 3 ∷ 4 ∷ 5 ∷ 6 ∷ []))

abbrev net6 : Dir → ℕ → Expr
net6 d p = Leaf (Net6 d p (0x2001 ∷ 0xdb8 ∷ 1 ∷ 2 ∷ 3 ∷ 4 ∷ 5 ∷ 6 ∷ []))

abbrev ether : Dir → Expr
ether d = Leaf (EtherHost d (2 ∷ 0 ∷ 0 ∷ 0 ∷ 0 ∷ 0xaa ∷ []))

abbrev multicast : Expr
multicast = Leaf EtherMulticast

-- ---- what is said of a tree

-- the number of its refusal; the instructions before its two returns; or how many instructions it has, and one by its place
data Answer : Type 0 where
  refusal : ℕ → Answer
  program : List Insn → Answer
  part : ℕ → ℕ → Insn → Answer

record Row : Type 0 where
  link : LinkType
  tree : Expr
  answer : Answer

abbrev refuses : LinkType → Expr → ℕ → Row
refuses L t n = record { link = L; tree = t; answer = refusal n }

abbrev makes : LinkType → Expr → List Insn → Row
makes L t p = record { link = L; tree = t; answer = program p }

abbrev has : LinkType → Expr → ℕ → ℕ → Insn → Row
has L t n at i = record { link = L; tree = t; answer = part n at i }

abbrev same_insn : Insn → Insn → Bool
same_insn i j = eqb i.code j.code && (eqb i.jt j.jt && (eqb i.jf j.jf && eqb i.k j.k))

same : List Insn → List Insn → Bool
same [] [] = true
same [] (j ∷ q) = false
same (i ∷ p) [] = false
same (i ∷ p) (j ∷ q) = same_insn i j && same p q

abbrev meets : Answer → Out (List Insn) → Bool
meets (refusal n) (Err r) = eqb n (number_of r)
meets (refusal n) (Ok q) = false
meets (program p) (Err r) = false
meets (program p) (Ok q) = same (p ++ (ret 0xffff_ffff ∷ ret 0 ∷ [])) q
meets (part n at i) (Err r) = false
meets (part n at i) (Ok q) = eqb n (length q) && same_insn i (get_or q at (ret 1))

test : List Row → Bool
test [] = true
test (r ∷ rs) = meets r.answer (compile r.link r.tree) && test rs

-- Ethernet, the eight segments of the address as a source
abbrev segments : List Insn
segments = ldh 12 ∷ jeq 0x86dd 0 17 ∷ ldh 22 ∷ jeq 0x2001 0 15 ∷ ldh 24 ∷ jeq 0xdb8 0 13 ∷ ldh 26 ∷ jeq 1 0 11 ∷ ldh 28 ∷ jeq 2 0 9 ∷ ldh 30 ∷ jeq 3 0 7 ∷ ldh 32 ∷ jeq 4 0 5 ∷ ldh 34 ∷ jeq 5 0 3 ∷ ldh 36 ∷ jeq 6 0 1 ∷ []

-- ---- conditions, by kind and link

conditions : List Row
conditions =
    -- 10, protocol
    makes Ethernet (proto Ip) (ldh 12 ∷ jeq 0x0800 0 1 ∷ [])
    ∷ makes Ethernet (proto Ip6) (ldh 12 ∷ jeq 0x86dd 0 1 ∷ [])
    ∷ makes Ethernet (proto Arp) (ldh 12 ∷ jeq 0x0806 0 1 ∷ [])
    ∷ makes Ethernet (proto Rarp) (ldh 12 ∷ jeq 0x8035 0 1 ∷ [])
    ∷ makes Ethernet (proto Tcp) (ldh 12 ∷ jeq 0x0800 0 3 ∷ ldb 23 ∷ jeq 6 0 1 ∷ [])
    ∷ makes Ethernet (proto Udp) (ldh 12 ∷ jeq 0x0800 0 3 ∷ ldb 23 ∷ jeq 17 0 1 ∷ [])
    ∷ makes Ethernet (proto Icmp) (ldh 12 ∷ jeq 0x0800 0 3 ∷ ldb 23 ∷ jeq 1 0 1 ∷ [])
    ∷ makes Ethernet (proto Icmp6) (ldh 12 ∷ jeq 0x86dd 0 3 ∷ ldb 20 ∷ jeq 58 0 1 ∷ [])
    ∷ makes Ethernet (proto Igmp) (ldh 12 ∷ jeq 0x0800 0 3 ∷ ldb 23 ∷ jeq 2 0 1 ∷ [])
    ∷ makes Ethernet (proto Sctp) (ldh 12 ∷ jeq 0x0800 0 3 ∷ ldb 23 ∷ jeq 132 0 1 ∷ [])
    ∷ makes Ethernet (proto (Num 47)) (ldh 12 ∷ jeq 0x0800 0 3 ∷ ldb 23 ∷ jeq 47 0 1 ∷ [])
    ∷ makes Ethernet (proto (Ip6Proto 47)) (ldh 12 ∷ jeq 0x86dd 0 3 ∷ ldb 20 ∷ jeq 47 0 1 ∷ [])
    ∷ makes RawIp (proto Ip) []
    ∷ refuses RawIp (proto Ip6) 5
    ∷ refuses RawIp (proto Arp) 5
    ∷ refuses RawIp (proto Rarp) 5
    ∷ makes RawIp (proto Tcp) (ldb 9 ∷ jeq 6 0 1 ∷ [])
    ∷ refuses RawIp (proto Icmp6) 5
    ∷ makes RawIp (proto (Num 47)) (ldb 9 ∷ jeq 47 0 1 ∷ [])
    ∷ refuses RawIp (proto (Ip6Proto 47)) 5
    ∷ makes LinuxSll (proto Ip) (ldh 14 ∷ jeq 0x0800 0 1 ∷ [])
    ∷ makes LinuxSll (proto Udp) (ldh 14 ∷ jeq 0x0800 0 3 ∷ ldb 25 ∷ jeq 17 0 1 ∷ [])
    ∷ makes LinuxSll (proto Icmp6) (ldh 14 ∷ jeq 0x86dd 0 3 ∷ ldb 22 ∷ jeq 58 0 1 ∷ [])
    -- 11, IPv4 host
    ∷ makes Ethernet (Leaf (Host4 SrcOrDst 0x0a00_0001)) (ldh 12 ∷ jeq 0x0800 0 5 ∷ ldw 26 ∷ jeq 0x0a00_0001 2 0 ∷ ldw 30 ∷ jeq 0x0a00_0001 0 1 ∷ [])
    ∷ makes Ethernet (Leaf (Host4 Dst 0x0a00_0001)) (ldh 12 ∷ jeq 0x0800 0 3 ∷ ldw 30 ∷ jeq 0x0a00_0001 0 1 ∷ [])
    ∷ makes RawIp (Leaf (Host4 SrcAndDst 0x0a00_0001)) (ldw 12 ∷ jeq 0x0a00_0001 0 3 ∷ ldw 16 ∷ jeq 0x0a00_0001 0 1 ∷ [])
    ∷ makes LinuxSll (Leaf (Host4 Src 0x0a00_0001)) (ldh 14 ∷ jeq 0x0800 0 3 ∷ ldw 28 ∷ jeq 0x0a00_0001 0 1 ∷ [])
    -- 12, IPv6 host: segment by segment
    ∷ makes Ethernet (host6 Src) segments
    ∷ makes LinuxSll (host6 Dst) (ldh 14 ∷ jeq 0x86dd 0 17 ∷ ldh 40 ∷ jeq 0x2001 0 15 ∷ ldh 42 ∷ jeq 0xdb8 0 13 ∷ ldh 44 ∷ jeq 1 0 11 ∷ ldh 46 ∷ jeq 2 0 9 ∷ ldh 48 ∷ jeq 3 0 7 ∷ ldh 50 ∷ jeq 4 0 5 ∷ ldh 52 ∷ jeq 5 0 3 ∷ ldh 54 ∷ jeq 6 0 1 ∷ [])
    ∷ has Ethernet (host6 SrcOrDst) 37 18 (ja 16)
    ∷ has LinuxSll (host6 SrcAndDst) 36 19 (jeq 0x2001 0 15)
    -- either and both test the source first
    ∷ has Ethernet (host6 SrcOrDst) 37 2 (ldh 22)
    ∷ has LinuxSll (host6 SrcAndDst) 36 2 (ldh 24)
    ∷ refuses RawIp (host6 Src) 5
    -- 13, IPv4 net: the mask is any, and the address is masked too
    ∷ makes Ethernet (Leaf (Net SrcOrDst 0xc0a8_0117 0xffff_ff00)) (ldh 12 ∷ jeq 0x0800 0 7 ∷ ldw 26 ∷ mask 0xffff_ff00 ∷ jeq 0xc0a8_0100 3 0 ∷ ldw 30 ∷ mask 0xffff_ff00 ∷ jeq 0xc0a8_0100 0 1 ∷ [])
    ∷ makes RawIp (Leaf (Net Src 0xc0a8_0100 0x00ff_00ff)) (ldw 12 ∷ mask 0x00ff_00ff ∷ jeq 0x00a8_0000 0 1 ∷ [])
    ∷ makes LinuxSll (Leaf (Net SrcAndDst 0xc0a8_0100 0x0000_0000)) (ldh 14 ∷ jeq 0x0800 0 7 ∷ ldw 28 ∷ mask 0 ∷ jeq 0 0 4 ∷ ldw 32 ∷ mask 0 ∷ jeq 0 0 1 ∷ [])
    ∷ makes LinuxSll (Leaf (Net Dst 0xc0a8_0100 0xfffe_0000)) (ldh 14 ∷ jeq 0x0800 0 4 ∷ ldw 32 ∷ mask 0xfffe_0000 ∷ jeq 0xc0a8_0000 0 1 ∷ [])
    -- a mask of all bits is a mask too
    ∷ makes RawIp (Leaf (Net Src 0x0a00_0001 0xffff_ffff)) (ldw 12 ∷ mask 0xffff_ffff ∷ jeq 0x0a00_0001 0 1 ∷ [])
    -- 14, IPv6 net: whole segments, the last one masked, none past the prefix; prefixes over 128 count as 128
    ∷ makes Ethernet (net6 Src 0) (ldh 12 ∷ jeq 0x86dd 0 1 ∷ [])
    ∷ makes Ethernet (net6 Src 3) (ldh 12 ∷ jeq 0x86dd 0 4 ∷ ldh 22 ∷ mask 0xe000 ∷ jeq 0x2000 0 1 ∷ [])
    ∷ makes Ethernet (net6 Src 16) (ldh 12 ∷ jeq 0x86dd 0 3 ∷ ldh 22 ∷ jeq 0x2001 0 1 ∷ [])
    ∷ makes Ethernet (net6 Src 17) (ldh 12 ∷ jeq 0x86dd 0 6 ∷ ldh 22 ∷ jeq 0x2001 0 4 ∷ ldh 24 ∷ mask 0x8000 ∷ jeq 0 0 1 ∷ [])
    ∷ makes Ethernet (net6 Src 127) (ldh 12 ∷ jeq 0x86dd 0 18 ∷ ldh 22 ∷ jeq 0x2001 0 16 ∷ ldh 24 ∷ jeq 0xdb8 0 14 ∷ ldh 26 ∷ jeq 1 0 12 ∷ ldh 28 ∷ jeq 2 0 10 ∷ ldh 30 ∷ jeq 3 0 8 ∷ ldh 32 ∷ jeq 4 0 6 ∷ ldh 34 ∷ jeq 5 0 4 ∷ ldh 36 ∷ mask 0xfffe ∷ jeq 6 0 1 ∷ [])
    ∷ makes Ethernet (net6 Src 128) segments
    ∷ makes Ethernet (net6 Src 129) segments
    ∷ makes Ethernet (net6 Src 255) segments
    ∷ makes Ethernet (net6 SrcOrDst 24) (ldh 12 ∷ jeq 0x86dd 0 12 ∷ ldh 22 ∷ jeq 0x2001 0 4 ∷ ldh 24 ∷ mask 0xff00 ∷ jeq 0xd00 0 1 ∷ ja 5 ∷ ldh 38 ∷ jeq 0x2001 0 4 ∷ ldh 40 ∷ mask 0xff00 ∷ jeq 0xd00 0 1 ∷ [])
    ∷ makes LinuxSll (net6 SrcAndDst 31) (ldh 14 ∷ jeq 0x86dd 0 11 ∷ ldh 24 ∷ jeq 0x2001 0 9 ∷ ldh 26 ∷ mask 0xfffe ∷ jeq 0xdb8 0 6 ∷ ldh 40 ∷ jeq 0x2001 0 4 ∷ ldh 42 ∷ mask 0xfffe ∷ jeq 0xdb8 0 1 ∷ [])
    ∷ makes LinuxSll (net6 Dst 32) (ldh 14 ∷ jeq 0x86dd 0 5 ∷ ldh 40 ∷ jeq 0x2001 0 3 ∷ ldh 42 ∷ jeq 0xdb8 0 1 ∷ [])
    ∷ refuses RawIp (net6 Dst 0) 5
    -- 15, port; X for IPv6 is 40, and no fragment field is tested there
    ∷ makes Ethernet (port SrcOrDst None 53) (ldh 12 ∷ jeq 0x86dd 8 0 ∷ jeq 0x0800 0 16 ∷ ldb 23 ∷ jeq 6 1 0 ∷ jeq 17 0 13 ∷ ldh 20 ∷ jset 0x1fff 11 0 ∷ ldxm 14 ∷ ja 4 ∷ ldb 20 ∷ jeq 6 1 0 ∷ jeq 17 0 6 ∷ ldx 40 ∷ ldhx 14 ∷ jeq 53 2 0 ∷ ldhx 16 ∷ jeq 53 0 1 ∷ [])
    ∷ makes Ethernet (port SrcAndDst (Some Tcp) 80) (ldh 12 ∷ jeq 0x86dd 7 0 ∷ jeq 0x0800 0 14 ∷ ldb 23 ∷ jeq 6 0 12 ∷ ldh 20 ∷ jset 0x1fff 10 0 ∷ ldxm 14 ∷ ja 3 ∷ ldb 20 ∷ jeq 6 0 6 ∷ ldx 40 ∷ ldhx 14 ∷ jeq 80 0 3 ∷ ldhx 16 ∷ jeq 80 0 1 ∷ [])
    ∷ makes RawIp (port Src None 53) (ldb 9 ∷ jeq 6 1 0 ∷ jeq 17 0 6 ∷ ldh 6 ∷ jset 0x1fff 4 0 ∷ ldxm 0 ∷ ldhx 0 ∷ jeq 53 0 1 ∷ [])
    ∷ makes RawIp (port SrcOrDst (Some Udp) 80) (ldb 9 ∷ jeq 17 0 8 ∷ ldh 6 ∷ jset 0x1fff 6 0 ∷ ldxm 0 ∷ ldhx 0 ∷ jeq 80 2 0 ∷ ldhx 2 ∷ jeq 80 0 1 ∷ [])
    ∷ makes LinuxSll (port Dst (Some Sctp) 5) (ldh 14 ∷ jeq 0x86dd 7 0 ∷ jeq 0x0800 0 12 ∷ ldb 25 ∷ jeq 132 0 10 ∷ ldh 22 ∷ jset 0x1fff 8 0 ∷ ldxm 16 ∷ ja 3 ∷ ldb 22 ∷ jeq 132 0 4 ∷ ldx 40 ∷ ldhx 18 ∷ jeq 5 0 1 ∷ [])
    -- 16, port range; one that is empty is no error
    ∷ makes Ethernet (Leaf (PortRange Dst None 80 90)) (ldh 12 ∷ jeq 0x86dd 8 0 ∷ jeq 0x0800 0 15 ∷ ldb 23 ∷ jeq 6 1 0 ∷ jeq 17 0 12 ∷ ldh 20 ∷ jset 0x1fff 10 0 ∷ ldxm 14 ∷ ja 4 ∷ ldb 20 ∷ jeq 6 1 0 ∷ jeq 17 0 5 ∷ ldx 40 ∷ ldhx 16 ∷ jge 80 0 2 ∷ jgt 90 1 0 ∷ [])
    ∷ makes RawIp (Leaf (PortRange SrcOrDst (Some Udp) 80 90)) (ldb 9 ∷ jeq 17 0 11 ∷ ldh 6 ∷ jset 0x1fff 9 0 ∷ ldxm 0 ∷ ldhx 0 ∷ jge 80 0 2 ∷ jgt 90 1 0 ∷ ja 3 ∷ ldhx 2 ∷ jge 80 0 2 ∷ jgt 90 1 0 ∷ [])
    ∷ makes RawIp (Leaf (PortRange Src (Some Tcp) 90 80)) (ldb 9 ∷ jeq 6 0 7 ∷ ldh 6 ∷ jset 0x1fff 5 0 ∷ ldxm 0 ∷ ldhx 0 ∷ jge 90 0 2 ∷ jgt 80 1 0 ∷ [])
    ∷ makes LinuxSll (Leaf (PortRange SrcAndDst (Some Sctp) 0 65535)) (ldh 14 ∷ jeq 0x86dd 7 0 ∷ jeq 0x0800 0 16 ∷ ldb 25 ∷ jeq 132 0 14 ∷ ldh 22 ∷ jset 0x1fff 12 0 ∷ ldxm 16 ∷ ja 3 ∷ ldb 22 ∷ jeq 132 0 8 ∷ ldx 40 ∷ ldhx 16 ∷ jge 0 0 5 ∷ jgt 0xffff 4 0 ∷ ldhx 18 ∷ jge 0 0 2 ∷ jgt 0xffff 1 0 ∷ [])
    -- 17, ether host: the destination first
    ∷ makes Ethernet (ether SrcOrDst) (ldw 0 ∷ jeq 0x0200_0000 0 3 ∷ ldh 4 ∷ jeq 170 0 1 ∷ ja 4 ∷ ldw 6 ∷ jeq 0x0200_0000 0 3 ∷ ldh 10 ∷ jeq 170 0 1 ∷ [])
    ∷ makes Ethernet (ether Src) (ldw 6 ∷ jeq 0x0200_0000 0 3 ∷ ldh 10 ∷ jeq 170 0 1 ∷ [])
    ∷ makes Ethernet (ether Dst) (ldw 0 ∷ jeq 0x0200_0000 0 3 ∷ ldh 4 ∷ jeq 170 0 1 ∷ [])
    ∷ makes Ethernet (ether SrcAndDst) (ldw 0 ∷ jeq 0x0200_0000 0 7 ∷ ldh 4 ∷ jeq 170 0 5 ∷ ldw 6 ∷ jeq 0x0200_0000 0 3 ∷ ldh 10 ∷ jeq 170 0 1 ∷ [])
    -- T-03: on LinuxSll the sender alone, with its address length first
    ∷ makes LinuxSll (ether Src) (ldh 4 ∷ jeq 6 0 5 ∷ ldw 6 ∷ jeq 0x0200_0000 0 3 ∷ ldh 10 ∷ jeq 170 0 1 ∷ [])
    ∷ refuses LinuxSll (ether SrcOrDst) 15
    ∷ refuses LinuxSll (ether Dst) 15
    ∷ refuses LinuxSll (ether SrcAndDst) 15
    ∷ refuses RawIp (ether Src) 7
    -- 18, ether protocol
    ∷ makes Ethernet (Leaf (EtherProto 0x88cc)) (ldh 12 ∷ jeq 0x88cc 0 1 ∷ [])
    ∷ makes RawIp (Leaf (EtherProto 0x0800)) []
    ∷ refuses RawIp (Leaf (EtherProto 0x88cc)) 5
    ∷ makes LinuxSll (Leaf (EtherProto 0x0806)) (ldh 14 ∷ jeq 0x0806 0 1 ∷ [])
    -- 19, ether multicast
    ∷ makes Ethernet multicast (ldb 0 ∷ jset 1 0 1 ∷ [])
    ∷ refuses LinuxSll multicast 15
    ∷ refuses RawIp multicast 7
    -- 20, ip broadcast; 21, ip multicast; 22, ip6 multicast
    ∷ makes Ethernet (Leaf IpBroadcast) (ldh 12 ∷ jeq 0x0800 0 3 ∷ ldw 30 ∷ jeq 0xffff_ffff 0 1 ∷ [])
    ∷ makes RawIp (Leaf IpBroadcast) (ldw 16 ∷ jeq 0xffff_ffff 0 1 ∷ [])
    ∷ makes LinuxSll (Leaf IpBroadcast) (ldh 14 ∷ jeq 0x0800 0 3 ∷ ldw 32 ∷ jeq 0xffff_ffff 0 1 ∷ [])
    ∷ makes Ethernet (Leaf IpMulticast) (ldh 12 ∷ jeq 0x0800 0 4 ∷ ldw 30 ∷ mask 0xf000_0000 ∷ jeq 0xe000_0000 0 1 ∷ [])
    ∷ makes RawIp (Leaf IpMulticast) (ldw 16 ∷ mask 0xf000_0000 ∷ jeq 0xe000_0000 0 1 ∷ [])
    ∷ makes LinuxSll (Leaf IpMulticast) (ldh 14 ∷ jeq 0x0800 0 4 ∷ ldw 32 ∷ mask 0xf000_0000 ∷ jeq 0xe000_0000 0 1 ∷ [])
    ∷ makes Ethernet (Leaf Ip6Multicast) (ldh 12 ∷ jeq 0x86dd 0 3 ∷ ldb 38 ∷ jeq 255 0 1 ∷ [])
    ∷ refuses RawIp (Leaf Ip6Multicast) 5
    ∷ makes LinuxSll (Leaf Ip6Multicast) (ldh 14 ∷ jeq 0x86dd 0 3 ∷ ldb 40 ∷ jeq 255 0 1 ∷ [])
    -- 23 and 24, protocol chains
    ∷ makes Ethernet (Leaf (IpProtoChain 50)) (ldh 12 ∷ jeq 0x0800 0 3 ∷ ldb 23 ∷ jeq 50 0 1 ∷ [])
    ∷ makes RawIp (Leaf (IpProtoChain 50)) (ldb 9 ∷ jeq 50 0 1 ∷ [])
    ∷ makes LinuxSll (Leaf (IpProtoChain 50)) (ldh 14 ∷ jeq 0x0800 0 3 ∷ ldb 25 ∷ jeq 50 0 1 ∷ [])
    ∷ makes Ethernet (Leaf (Ip6ProtoChain 50)) (ldh 12 ∷ jeq 0x86dd 0 3 ∷ ldb 20 ∷ jeq 50 0 1 ∷ [])
    ∷ refuses RawIp (Leaf (Ip6ProtoChain 50)) 5
    ∷ makes LinuxSll (Leaf (Ip6ProtoChain 50)) (ldh 14 ∷ jeq 0x86dd 0 3 ∷ ldb 22 ∷ jeq 50 0 1 ∷ [])
    ∷ []

-- ---- joins

joins : List Row
joins =
    -- a fact is used where it is known, and only filled where empty
    makes Ethernet (proto Ip and proto Ip) (ldh 12 ∷ jeq 0x0800 0 1 ∷ [])
    ∷ makes Ethernet (proto Ip and proto Tcp and Leaf (Host4 Src 0x0a00_0001)) (ldh 12 ∷ jeq 0x0800 0 5 ∷ ldb 23 ∷ jeq 6 0 3 ∷ ldw 26 ∷ jeq 0x0a00_0001 0 1 ∷ [])
    ∷ makes Ethernet (proto Ip and proto Ip6 and proto Ip) (ldh 12 ∷ jeq 0x0800 0 3 ∷ ldh 12 ∷ jeq 0x86dd 0 1 ∷ [])
    ∷ makes Ethernet (proto Ip and proto Ip6 and proto Ip6) (ldh 12 ∷ jeq 0x0800 0 5 ∷ ldh 12 ∷ jeq 0x86dd 0 3 ∷ ldh 12 ∷ jeq 0x86dd 0 1 ∷ [])
    ∷ makes Ethernet (proto Tcp and proto Udp and proto Tcp) (ldh 12 ∷ jeq 0x0800 0 5 ∷ ldb 23 ∷ jeq 6 0 3 ∷ ldb 23 ∷ jeq 17 0 1 ∷ [])
    ∷ makes RawIp (proto Ip and proto Tcp and proto Tcp) (ldb 9 ∷ jeq 6 0 1 ∷ [])
    -- an or hoists what both sides require, in the order ethertype, IPv4 protocol, next header, ports; RawIp hoists no ethertype
    ∷ makes Ethernet (proto Ip or proto Arp) (ldh 12 ∷ jeq 0x0800 0 1 ∷ ja 2 ∷ ldh 12 ∷ jeq 0x0806 0 1 ∷ [])
    ∷ makes Ethernet (Leaf (Host4 Src 0x0a00_0001) or Leaf IpBroadcast) (ldh 12 ∷ jeq 0x0800 0 6 ∷ ldw 26 ∷ jeq 0x0a00_0001 0 1 ∷ ja 2 ∷ ldw 30 ∷ jeq 0xffff_ffff 0 1 ∷ [])
    ∷ makes Ethernet (proto Tcp and proto Icmp6 and port Dst (Some Tcp) 80 or proto Tcp and proto Icmp6 and port Dst (Some Tcp) 81) (ldh 12 ∷ jeq 0x0800 0 19 ∷ ldb 23 ∷ jeq 6 0 17 ∷ ldh 12 ∷ jeq 0x86dd 0 15 ∷ ldb 20 ∷ jeq 58 0 13 ∷ ldh 20 ∷ jset 0x1fff 11 0 ∷ ldxm 14 ∷ ldh 12 ∷ jeq 0x86dd 0 3 ∷ ldhx 16 ∷ jeq 80 0 1 ∷ ja 4 ∷ ldh 12 ∷ jeq 0x86dd 0 3 ∷ ldhx 16 ∷ jeq 81 0 1 ∷ [])
    ∷ makes RawIp (proto Tcp and port Dst (Some Tcp) 80 or proto Tcp and port Dst (Some Tcp) 81) (ldb 9 ∷ jeq 6 0 9 ∷ ldh 6 ∷ jset 0x1fff 7 0 ∷ ldxm 0 ∷ ldhx 2 ∷ jeq 80 0 1 ∷ ja 2 ∷ ldhx 2 ∷ jeq 81 0 1 ∷ [])
    ∷ makes RawIp (proto Ip or proto Ip) (ja 0 ∷ [])
    -- it hoists nothing out of a not, and a port's prologue only where both sets are the same
    ∷ makes Ethernet (Not (proto Ip) or proto Ip) (ldh 12 ∷ jeq 0x0800 0 1 ∷ ja 1 ∷ ja 2 ∷ ldh 12 ∷ jeq 0x0800 0 1 ∷ [])
    ∷ makes Ethernet (Not (proto Tcp) or Not (proto Udp)) (ldh 12 ∷ jeq 0x0800 0 3 ∷ ldb 23 ∷ jeq 6 0 1 ∷ ja 1 ∷ ja 5 ∷ ldh 12 ∷ jeq 0x0800 0 3 ∷ ldb 23 ∷ jeq 17 0 1 ∷ ja 1 ∷ [])
    ∷ makes RawIp (port Dst (Some Tcp) 80 or port Dst (Some Tcp) 81) (ldb 9 ∷ jeq 6 0 9 ∷ ldh 6 ∷ jset 0x1fff 7 0 ∷ ldxm 0 ∷ ldhx 2 ∷ jeq 80 0 1 ∷ ja 2 ∷ ldhx 2 ∷ jeq 81 0 1 ∷ [])
    ∷ makes RawIp (port Dst (Some Tcp) 80 or port Dst (Some Udp) 53) (ldb 9 ∷ jeq 6 0 6 ∷ ldh 6 ∷ jset 0x1fff 4 0 ∷ ldxm 0 ∷ ldhx 2 ∷ jeq 80 0 1 ∷ ja 7 ∷ ldb 9 ∷ jeq 17 0 6 ∷ ldh 6 ∷ jset 0x1fff 4 0 ∷ ldxm 0 ∷ ldhx 2 ∷ jeq 53 0 1 ∷ [])
    -- after an or both sides' facts are met: Tcp and Udp join, Tcp and Sctp do not; what one side only knows is tested again
    ∷ makes RawIp ((port Dst (Some Tcp) 80 or port Dst (Some Udp) 53) and port Dst None 53) (ldb 9 ∷ jeq 6 0 6 ∷ ldh 6 ∷ jset 0x1fff 4 0 ∷ ldxm 0 ∷ ldhx 2 ∷ jeq 80 0 1 ∷ ja 7 ∷ ldb 9 ∷ jeq 17 0 8 ∷ ldh 6 ∷ jset 0x1fff 6 0 ∷ ldxm 0 ∷ ldhx 2 ∷ jeq 53 0 3 ∷ ldhx 2 ∷ jeq 53 0 1 ∷ [])
    ∷ has RawIp ((port Dst (Some Tcp) 80 or port Dst (Some Sctp) 5) and port Dst (Some Tcp) 80) 24 15 (ldb 9)
    ∷ makes Ethernet ((proto Ip or proto Arp) and proto Ip) (ldh 12 ∷ jeq 0x0800 0 1 ∷ ja 2 ∷ ldh 12 ∷ jeq 0x0806 0 3 ∷ ldh 12 ∷ jeq 0x0800 0 1 ∷ [])
    ∷ makes Ethernet ((proto Ip or Leaf (Host4 Src 0x0a00_0001)) and proto Ip) (ldh 12 ∷ jeq 0x0800 0 4 ∷ ja 2 ∷ ldw 26 ∷ jeq 0x0a00_0001 0 1 ∷ [])
    ∷ makes Ethernet ((proto Tcp or proto Udp) and proto Tcp) (ldh 12 ∷ jeq 0x0800 0 8 ∷ ldb 23 ∷ jeq 6 0 1 ∷ ja 2 ∷ ldb 23 ∷ jeq 17 0 3 ∷ ldb 23 ∷ jeq 6 0 1 ∷ [])
    -- the right of an or keeps ports ready where the left wrote no X, and loses them where it did
    ∷ makes RawIp (port Dst (Some Tcp) 80 and (port Dst (Some Sctp) 5 or port Dst (Some Tcp) 81)) (ldb 9 ∷ jeq 6 0 13 ∷ ldh 6 ∷ jset 0x1fff 11 0 ∷ ldxm 0 ∷ ldhx 2 ∷ jeq 80 0 8 ∷ ldb 9 ∷ jeq 132 0 3 ∷ ldhx 2 ∷ jeq 5 0 1 ∷ ja 2 ∷ ldhx 2 ∷ jeq 81 0 1 ∷ [])
    ∷ has Ethernet (port Dst (Some Tcp) 80 and (port Dst (Some Sctp) 5 or port Dst (Some Tcp) 81)) 45 29 (ldh 12)
    -- a not restores the facts before it, in the same way
    ∷ makes Ethernet (Not (proto Ip) and proto Ip) (ldh 12 ∷ jeq 0x0800 0 1 ∷ ja 3 ∷ ldh 12 ∷ jeq 0x0800 0 1 ∷ [])
    ∷ makes Ethernet (proto Ip and Not (proto Tcp) and proto Udp) (ldh 12 ∷ jeq 0x0800 0 6 ∷ ldb 23 ∷ jeq 6 0 1 ∷ ja 3 ∷ ldb 23 ∷ jeq 17 0 1 ∷ [])
    ∷ makes RawIp (port Dst (Some Tcp) 80 and Not (port Dst (Some Sctp) 5) and port Dst (Some Tcp) 81) (ldb 9 ∷ jeq 6 0 13 ∷ ldh 6 ∷ jset 0x1fff 11 0 ∷ ldxm 0 ∷ ldhx 2 ∷ jeq 80 0 8 ∷ ldb 9 ∷ jeq 132 0 3 ∷ ldhx 2 ∷ jeq 5 0 1 ∷ ja 3 ∷ ldhx 2 ∷ jeq 81 0 1 ∷ [])
    ∷ has Ethernet (port Dst (Some Tcp) 80 and Not (port Dst (Some Sctp) 5) and port Dst (Some Tcp) 81) 45 29 (ldh 12)
    -- a not turns both ways out
    ∷ makes Ethernet (Not (proto Tcp or proto Udp)) (ldh 12 ∷ jeq 0x0800 0 6 ∷ ldb 23 ∷ jeq 6 0 1 ∷ ja 4 ∷ ldb 23 ∷ jeq 17 0 1 ∷ ja 1 ∷ [])
    ∷ makes Ethernet (Not (Not (proto Arp))) (ldh 12 ∷ jeq 0x0806 0 1 ∷ ja 1 ∷ ja 1 ∷ [])
    ∷ makes Ethernet (Not (Leaf (Host4 SrcOrDst 0x0a00_0001))) (ldh 12 ∷ jeq 0x0800 0 5 ∷ ldw 26 ∷ jeq 0x0a00_0001 4 0 ∷ ldw 30 ∷ jeq 0x0a00_0001 0 1 ∷ ja 1 ∷ [])
    -- a prologue makes its protocol known, also one that only narrows, and is ready for the set that it narrowed to
    ∷ makes RawIp (port Dst None 53 and port Dst (Some Tcp) 80 and port Dst (Some Tcp) 81 and proto Tcp) (ldb 9 ∷ jeq 6 1 0 ∷ jeq 17 0 12 ∷ ldh 6 ∷ jset 0x1fff 10 0 ∷ ldxm 0 ∷ ldhx 2 ∷ jeq 53 0 7 ∷ ldb 9 ∷ jeq 6 0 5 ∷ ldhx 2 ∷ jeq 80 0 3 ∷ ldhx 2 ∷ jeq 81 0 1 ∷ [])
    -- a known protocol narrows the set of ports that are ready; once they are ready it is tested again
    ∷ makes RawIp (proto Udp and port Dst None 53 and port Dst (Some Udp) 54) (ldb 9 ∷ jeq 17 0 8 ∷ ldh 6 ∷ jset 0x1fff 6 0 ∷ ldxm 0 ∷ ldhx 2 ∷ jeq 53 0 3 ∷ ldhx 2 ∷ jeq 54 0 1 ∷ [])
    ∷ makes RawIp (port Dst None 53 and proto Udp and port Dst (Some Udp) 54) (ldb 9 ∷ jeq 6 1 0 ∷ jeq 17 0 12 ∷ ldh 6 ∷ jset 0x1fff 10 0 ∷ ldxm 0 ∷ ldhx 2 ∷ jeq 53 0 7 ∷ ldb 9 ∷ jeq 17 0 5 ∷ ldb 9 ∷ jeq 17 0 3 ∷ ldhx 2 ∷ jeq 54 0 1 ∷ [])
    -- ports stay ready where a fact is learned
    ∷ makes Ethernet (proto Ip6 and port Dst None 53 and proto (Ip6Proto 17) and port Dst None 54) (ldh 12 ∷ jeq 0x86dd 0 11 ∷ ldb 20 ∷ jeq 6 1 0 ∷ jeq 17 0 8 ∷ ldx 40 ∷ ldhx 16 ∷ jeq 53 0 5 ∷ ldb 20 ∷ jeq 17 0 3 ∷ ldhx 16 ∷ jeq 54 0 1 ∷ [])
    -- a next header is only filled where empty
    ∷ makes Ethernet (proto Icmp6 and proto (Ip6Proto 6) and proto Icmp6) (ldh 12 ∷ jeq 0x86dd 0 5 ∷ ldb 20 ∷ jeq 58 0 3 ∷ ldb 20 ∷ jeq 6 0 1 ∷ [])
    -- an ethertype that is neither version leaves both versions to the prologue; a second prologue replaces the set
    ∷ has Ethernet (proto Arp and port Dst (Some Tcp) 80) 18 2 (ldh 12)
    ∷ has Ethernet (port Dst None 53 and port Dst (Some Tcp) 80 and port Dst (Some Tcp) 81) 34 29 (jeq 80 0 3)
    -- every condition makes its ethertype known, and a chain its protocol
    ∷ has Ethernet (joined And (Not (Leaf (Host4 Src 0x0a00_0001) and proto Ip)) (Not (Leaf (Net Src 0x0a00_0000 0xff00_0000) and proto Ip) ∷ Not (Leaf IpBroadcast and proto Ip) ∷ Not (Leaf IpMulticast and proto Ip) ∷ Not (Leaf (EtherProto 0x0800) and proto Ip) ∷ Not (Leaf (IpProtoChain 6) and proto Tcp) ∷ Not (net6 Src 0 and proto Ip6) ∷ Not (Leaf Ip6Multicast and proto Ip6) ∷ Not (Leaf (Ip6ProtoChain 58) and proto Icmp6) ∷ [])) 45 0 (ldh 12)
    -- after an or what both sides know is known, though it was not hoisted
    ∷ makes RawIp ((port Dst (Some Tcp) 80 or proto Tcp) and proto Tcp) (ldb 9 ∷ jeq 6 0 6 ∷ ldh 6 ∷ jset 0x1fff 4 0 ∷ ldxm 0 ∷ ldhx 2 ∷ jeq 80 0 1 ∷ ja 2 ∷ ldb 9 ∷ jeq 6 0 1 ∷ [])
    ∷ makes Ethernet (proto Ip6 and (port Dst (Some Tcp) 80 or proto (Ip6Proto 6)) and proto (Ip6Proto 6)) (ldh 12 ∷ jeq 0x86dd 0 9 ∷ ldb 20 ∷ jeq 6 0 4 ∷ ldx 40 ∷ ldhx 16 ∷ jeq 80 0 1 ∷ ja 2 ∷ ldb 20 ∷ jeq 6 0 1 ∷ [])
    -- two equal sets join to themselves, TCP or UDP with one of them to TCP or UDP
    ∷ makes RawIp ((port Dst (Some Tcp) 80 or port Dst (Some Tcp) 81) and port Dst (Some Tcp) 82) (ldb 9 ∷ jeq 6 0 11 ∷ ldh 6 ∷ jset 0x1fff 9 0 ∷ ldxm 0 ∷ ldhx 2 ∷ jeq 80 0 1 ∷ ja 2 ∷ ldhx 2 ∷ jeq 81 0 3 ∷ ldhx 2 ∷ jeq 82 0 1 ∷ [])
    ∷ makes RawIp ((port Dst (Some Sctp) 5 or port Dst (Some Sctp) 6) and port Dst (Some Sctp) 7) (ldb 9 ∷ jeq 132 0 11 ∷ ldh 6 ∷ jset 0x1fff 9 0 ∷ ldxm 0 ∷ ldhx 2 ∷ jeq 5 0 1 ∷ ja 2 ∷ ldhx 2 ∷ jeq 6 0 3 ∷ ldhx 2 ∷ jeq 7 0 1 ∷ [])
    ∷ makes RawIp ((port Dst (Some Tcp) 80 or port Dst None 53 or port Dst (Some Udp) 54) and port Dst None 55) (ldb 9 ∷ jeq 6 0 6 ∷ ldh 6 ∷ jset 0x1fff 4 0 ∷ ldxm 0 ∷ ldhx 2 ∷ jeq 80 0 1 ∷ ja 16 ∷ ldb 9 ∷ jeq 6 1 0 ∷ jeq 17 0 6 ∷ ldh 6 ∷ jset 0x1fff 4 0 ∷ ldxm 0 ∷ ldhx 2 ∷ jeq 53 0 1 ∷ ja 7 ∷ ldb 9 ∷ jeq 17 0 8 ∷ ldh 6 ∷ jset 0x1fff 6 0 ∷ ldxm 0 ∷ ldhx 2 ∷ jeq 54 0 3 ∷ ldhx 2 ∷ jeq 55 0 1 ∷ [])
    -- an and requires what either side does, the left where both do: ethertype, IPv4 protocol, next header, ports
    ∷ makes Ethernet (proto Ip and proto Arp or multicast and proto Ip) (ldh 12 ∷ jeq 0x0800 0 6 ∷ ldh 12 ∷ jeq 0x0806 0 1 ∷ ja 2 ∷ ldb 0 ∷ jset 1 0 1 ∷ [])
    ∷ makes RawIp (proto Tcp and proto Udp or proto Ip and proto Tcp) (ldb 9 ∷ jeq 6 0 4 ∷ ldb 9 ∷ jeq 17 0 1 ∷ ja 0 ∷ [])
    ∷ makes Ethernet (proto Icmp6 and proto (Ip6Proto 6) or proto Ip6 and proto Icmp6) (ldh 12 ∷ jeq 0x86dd 0 6 ∷ ldb 20 ∷ jeq 58 0 4 ∷ ldb 20 ∷ jeq 6 0 1 ∷ ja 0 ∷ [])
    ∷ makes RawIp (port Dst (Some Tcp) 80 and port Dst None 53 or proto Ip and port Dst (Some Tcp) 81) (ldb 9 ∷ jeq 6 0 11 ∷ ldh 6 ∷ jset 0x1fff 9 0 ∷ ldxm 0 ∷ ldhx 2 ∷ jeq 80 0 3 ∷ ldhx 2 ∷ jeq 53 0 1 ∷ ja 2 ∷ ldhx 2 ∷ jeq 81 0 1 ∷ [])
    ∷ makes RawIp (port Dst None 53 and port Dst (Some Tcp) 80 or port Dst None 54) (ldb 9 ∷ jeq 6 1 0 ∷ jeq 17 0 13 ∷ ldh 6 ∷ jset 0x1fff 11 0 ∷ ldxm 0 ∷ ldhx 2 ∷ jeq 53 0 5 ∷ ldb 9 ∷ jeq 6 0 3 ∷ ldhx 2 ∷ jeq 80 0 1 ∷ ja 2 ∷ ldhx 2 ∷ jeq 54 0 1 ∷ [])
    -- every condition of IPv4 requires 0x0800, of IPv6 0x86dd, also where ors nest; a chain and a number require their protocol, a range its ports
    ∷ makes Ethernet (Leaf (Host4 Src 0x0a00_0001) or Leaf (Net Src 0x0a00_0000 0xff00_0000) or Leaf IpBroadcast or Leaf IpMulticast or Leaf (IpProtoChain 6) or proto Ip) (ldh 12 ∷ jeq 0x0800 0 18 ∷ ldw 26 ∷ jeq 0x0a00_0001 0 1 ∷ ja 14 ∷ ldw 26 ∷ mask 0xff00_0000 ∷ jeq 0x0a00_0000 0 1 ∷ ja 10 ∷ ldw 30 ∷ jeq 0xffff_ffff 0 1 ∷ ja 7 ∷ ldw 30 ∷ mask 0xf000_0000 ∷ jeq 0xe000_0000 0 1 ∷ ja 3 ∷ ldb 23 ∷ jeq 6 0 1 ∷ ja 0 ∷ [])
    ∷ has Ethernet (net6 Src 0 or Leaf Ip6Multicast or Leaf (Ip6ProtoChain 58) or Leaf (EtherProto 0x86dd) or host6 Src) 28 4 (jeq 255 0 1)
    ∷ makes RawIp (Leaf (IpProtoChain 6) or proto (Num 6) or proto Tcp) (ldb 9 ∷ jeq 6 0 3 ∷ ja 1 ∷ ja 0 ∷ [])
    ∷ makes Ethernet (Leaf (Ip6ProtoChain 58) or proto (Ip6Proto 58) or proto Icmp6) (ldh 12 ∷ jeq 0x86dd 0 5 ∷ ldb 20 ∷ jeq 58 0 3 ∷ ja 1 ∷ ja 0 ∷ [])
    ∷ makes RawIp (Leaf (PortRange Dst None 80 80) or port Dst None 53) (ldb 9 ∷ jeq 6 1 0 ∷ jeq 17 0 10 ∷ ldh 6 ∷ jset 0x1fff 8 0 ∷ ldxm 0 ∷ ldhx 2 ∷ jge 80 0 2 ∷ jgt 80 1 0 ∷ ja 2 ∷ ldhx 2 ∷ jeq 53 0 1 ∷ [])
    -- two nots require nothing either
    ∷ makes Ethernet (Not (Not (proto Ip)) or proto Ip) (ldh 12 ∷ jeq 0x0800 0 1 ∷ ja 1 ∷ ja 1 ∷ ja 2 ∷ ldh 12 ∷ jeq 0x0800 0 1 ∷ [])
    -- with the ethertype known and ports ready only the protocol is tested; with it unknown the whole prologue comes again
    ∷ makes Ethernet (proto Ip and port Dst None 53 and port Dst (Some Tcp) 80) (ldh 12 ∷ jeq 0x0800 0 13 ∷ ldb 23 ∷ jeq 6 1 0 ∷ jeq 17 0 10 ∷ ldh 20 ∷ jset 0x1fff 8 0 ∷ ldxm 14 ∷ ldhx 16 ∷ jeq 53 0 5 ∷ ldb 23 ∷ jeq 6 0 3 ∷ ldhx 16 ∷ jeq 80 0 1 ∷ [])
    ∷ has Ethernet (port Dst None 53 and port Dst (Some Tcp) 80) 32 16 (ldh 12)
    ∷ makes Ethernet (proto Ip6 and port Dst None 53 and port Dst (Some Tcp) 80) (ldh 12 ∷ jeq 0x86dd 0 11 ∷ ldb 20 ∷ jeq 6 1 0 ∷ jeq 17 0 8 ∷ ldx 40 ∷ ldhx 16 ∷ jeq 53 0 5 ∷ ldb 20 ∷ jeq 6 0 3 ∷ ldhx 16 ∷ jeq 80 0 1 ∷ [])
    ∷ makes Ethernet (port Dst (Some Tcp) 80 and port Dst None 53) (ldh 12 ∷ jeq 0x86dd 7 0 ∷ jeq 0x0800 0 14 ∷ ldb 23 ∷ jeq 6 0 12 ∷ ldh 20 ∷ jset 0x1fff 10 0 ∷ ldxm 14 ∷ ja 3 ∷ ldb 20 ∷ jeq 6 0 6 ∷ ldx 40 ∷ ldhx 16 ∷ jeq 80 0 3 ∷ ldhx 16 ∷ jeq 53 0 1 ∷ [])
    -- a protocol that is known is not tested again, and narrows the set
    ∷ makes Ethernet (proto Tcp and port Dst None 53 and port Dst (Some Udp) 53) (ldh 12 ∷ jeq 0x0800 0 12 ∷ ldb 23 ∷ jeq 6 0 10 ∷ ldh 20 ∷ jset 0x1fff 8 0 ∷ ldxm 14 ∷ ldhx 16 ∷ jeq 53 0 5 ∷ ldb 23 ∷ jeq 17 0 3 ∷ ldhx 16 ∷ jeq 53 0 1 ∷ [])
    ∷ makes Ethernet (proto (Ip6Proto 6) and port Dst (Some Tcp) 80) (ldh 12 ∷ jeq 0x86dd 0 6 ∷ ldb 20 ∷ jeq 6 0 4 ∷ ldx 40 ∷ ldhx 16 ∷ jeq 80 0 1 ∷ [])
    ∷ makes Ethernet (proto Icmp6 and port Dst (Some Tcp) 80) (ldh 12 ∷ jeq 0x86dd 0 8 ∷ ldb 20 ∷ jeq 58 0 6 ∷ ldb 20 ∷ jeq 6 0 4 ∷ ldx 40 ∷ ldhx 16 ∷ jeq 80 0 1 ∷ [])
    ∷ makes Ethernet (proto Udp and port Dst (Some Tcp) 80) (ldh 12 ∷ jeq 0x0800 0 10 ∷ ldb 23 ∷ jeq 17 0 8 ∷ ldb 23 ∷ jeq 6 0 6 ∷ ldh 20 ∷ jset 0x1fff 4 0 ∷ ldxm 14 ∷ ldhx 16 ∷ jeq 80 0 1 ∷ [])
    -- T-03: a sender test learns nothing, forgets nothing and requires nothing
    ∷ makes LinuxSll (ether Src and proto Ip) (ldh 4 ∷ jeq 6 0 7 ∷ ldw 6 ∷ jeq 0x0200_0000 0 5 ∷ ldh 10 ∷ jeq 170 0 3 ∷ ldh 14 ∷ jeq 0x0800 0 1 ∷ [])
    ∷ makes LinuxSll (proto Ip and ether Src and proto Ip) (ldh 14 ∷ jeq 0x0800 0 7 ∷ ldh 4 ∷ jeq 6 0 5 ∷ ldw 6 ∷ jeq 0x0200_0000 0 3 ∷ ldh 10 ∷ jeq 170 0 1 ∷ [])
    ∷ makes LinuxSll (ether Src or ether Src) (ldh 4 ∷ jeq 6 0 5 ∷ ldw 6 ∷ jeq 0x0200_0000 0 3 ∷ ldh 10 ∷ jeq 170 0 1 ∷ ja 6 ∷ ldh 4 ∷ jeq 6 0 5 ∷ ldw 6 ∷ jeq 0x0200_0000 0 3 ∷ ldh 10 ∷ jeq 170 0 1 ∷ [])
    ∷ makes LinuxSll (Not (ether Src)) (ldh 4 ∷ jeq 6 0 5 ∷ ldw 6 ∷ jeq 0x0200_0000 0 3 ∷ ldh 10 ∷ jeq 170 0 1 ∷ ja 1 ∷ [])
    -- 5 to 8 and 15, the first that is met: an and emits its left first, an or what it hoists
    ∷ refuses LinuxSll (ether Dst and port Dst (Some Icmp) 80) 15
    ∷ refuses LinuxSll (port Dst (Some Icmp) 80 and ether Dst) 6
    ∷ refuses LinuxSll (multicast or port Dst (Some Icmp) 80) 15
    ∷ refuses LinuxSll (port Dst (Some Icmp) 80 or multicast) 6
    ∷ refuses LinuxSll (ether Src and multicast) 15
    ∷ refuses LinuxSll (Not (ether SrcOrDst)) 15
    ∷ refuses RawIp (multicast and proto Ip6) 7
    ∷ refuses RawIp (proto Ip6 and multicast) 5
    ∷ refuses RawIp (port Dst (Some Icmp) 80 and proto Icmp6) 6
    ∷ refuses RawIp (port Dst (Some Icmp) 80 and proto Ip6 or proto Ip6) 6
    ∷ refuses RawIp (port Dst (Some Icmp) 80 and proto Icmp6 or proto Icmp6) 5
    ∷ refuses Ethernet (proto Tcp and port Dst (Some Igmp) 80 and multicast) 6
    -- ports take no protocol but Tcp, Udp, Sctp
    ∷ refuses Ethernet (port Dst (Some Ip) 80) 6
    ∷ refuses Ethernet (port Dst (Some Ip6) 80) 6
    ∷ refuses Ethernet (port Dst (Some Arp) 80) 6
    ∷ refuses Ethernet (port Dst (Some Rarp) 80) 6
    ∷ refuses Ethernet (port Dst (Some Icmp) 80) 6
    ∷ refuses Ethernet (port Dst (Some Icmp6) 80) 6
    ∷ refuses Ethernet (port Dst (Some Igmp) 80) 6
    ∷ refuses Ethernet (port Dst (Some (Num 6)) 80) 6
    ∷ refuses Ethernet (port Dst (Some (Ip6Proto 17)) 80) 6
    ∷ refuses RawIp (Leaf (PortRange Src (Some Icmp) 80 90)) 6
    ∷ []

-- ---- far jumps

jumps : List Row
jumps =
    -- a distance of 255 is accepted, one of 256 is number 8
    has Ethernet (joined And multicast (replicate 6 multicast ++ (host6 Src ∷ replicate 7 (host6 SrcAndDst)))) 258 1 (jset 1 0 255)
    ∷ refuses Ethernet (joined And multicast (replicate 6 multicast ++ (host6 Src ∷ (replicate 6 (host6 SrcAndDst) ++ (host6 SrcOrDst ∷ []))))) 8
    -- an and resolves its left side's successes before its right side is emitted
    ∷ refuses Ethernet (joined Or (ether SrcOrDst) (replicate 26 (ether SrcOrDst)) and port Dst (Some Icmp) 80) 8
    -- a `ja` too has only 255, though its field is wider
    ∷ has Ethernet (joined Or (ether SrcOrDst) (replicate 24 (ether SrcOrDst)) or ether SrcAndDst and multicast) 262 4 (ja 255)
    ∷ refuses Ethernet (joined Or (ether SrcOrDst) (replicate 24 (ether SrcOrDst)) or ether SrcOrDst and multicast) 8
    ∷ refuses Ethernet (joined Or (ether SrcOrDst) (replicate 26 (ether SrcOrDst))) 8
    -- an or resolves its left side's failures before its right side is emitted, an and leaves them open
    ∷ refuses Ethernet (joined And (host6 SrcAndDst) (replicate 19 (host6 SrcAndDst)) and port Dst (Some Icmp) 80) 6
    ∷ refuses Ethernet (joined And (host6 SrcAndDst) (replicate 19 (host6 SrcAndDst)) or port Dst (Some Icmp) 80) 8
    -- T-03: the test of a sender's address length is one more that jumps
    ∷ has LinuxSll (joined And (ether Src) (replicate 41 (ether Src) ++ (proto Ip ∷ Leaf IpBroadcast ∷ []))) 258 1 (jeq 6 0 255)
    ∷ refuses LinuxSll (joined And (ether Src) (replicate 41 (ether Src) ++ (proto Ip ∷ Leaf IpMulticast ∷ []))) 8
    -- 15 is met at its leaf: an earlier 8 wins, a later one loses
    ∷ refuses LinuxSll (joined Or (ether Src) (replicate 40 (ether Src)) and ether Dst) 8
    ∷ refuses LinuxSll (ether Dst and joined Or (ether Src) (replicate 40 (ether Src))) 15
    ∷ refuses LinuxSll (joined And (ether Src) (replicate 43 (ether Src)) or multicast) 8
    ∷ refuses LinuxSll (joined And (ether Src) (replicate 43 (ether Src)) and multicast) 15
    ∷ refuses LinuxSll (Not (joined And (ether Src) (replicate 43 (ether Src))) and multicast) 8
    ∷ []

examples_hold : T (test (conditions ++ (joins ++ jumps)))
unfolding test conditions joins jumps same compile finished assemble settle turn otherwise far writes_x primitive_guards required_guards E.check_loads E.check_blocks E.check_ip6_addr E.check_net6 E.check_range E.check_mac E.l4_set_check E.l4_check E.header4 E.header6 E.fork E.dual_path E.emit_ethertype E.guarded E.emit_l4 E.port_prereqs E.ported E.ether E.emit_primitive E.or_hoist E.emit be
examples_hold = tt

-- ---- before T-03

test_before : List Row → Bool
test_before [] = true
test_before (r ∷ rs) = meets r.answer (compile_before r.link r.tree) && test_before rs

-- what the Rust makes of trees that T-03 changes
rusts : List Row
rusts =
    makes LinuxSll (ether SrcOrDst) (ldw 0 ∷ jeq 0x0200_0000 0 3 ∷ ldh 4 ∷ jeq 170 0 1 ∷ ja 4 ∷ ldw 6 ∷ jeq 0x0200_0000 0 3 ∷ ldh 10 ∷ jeq 170 0 1 ∷ [])
    ∷ makes LinuxSll (ether Src) (ldw 6 ∷ jeq 0x0200_0000 0 3 ∷ ldh 10 ∷ jeq 170 0 1 ∷ [])
    ∷ makes LinuxSll multicast (ldb 0 ∷ jset 1 0 1 ∷ [])
    ∷ []

rusts_hold : T (test_before rusts)
unfolding test_before rusts same walk walked primitive_before finished assemble settle turn otherwise far E.check_blocks E.check_mac be
rusts_hold = tt

-- every kind that it leaves as it was
kept : Expr
kept = joined Or (proto Tcp) (Leaf (Host4 Src 1) ∷ host6 Src ∷ Leaf (Net Src 1 1) ∷ net6 Src 8 ∷ port Src None 80 ∷ Leaf (PortRange Src None 80 90) ∷ Leaf (EtherProto 0x0800) ∷ Leaf IpBroadcast ∷ Leaf IpMulticast ∷ Leaf Ip6Multicast ∷ Leaf (IpProtoChain 6) ∷ Leaf (Ip6ProtoChain 6) ∷ [])

kept_other : T (not (holds_ether kept))
unfolding kept holds_ether
kept_other = tt
