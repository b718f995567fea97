-- The blocks of conditions and of joins: codegen.rs `emit_expr` and what it calls. A test's `Facts` are those of the path that code
-- falls through; "A test known from the facts emits nothing."
use Rattle.std.specs.Prelude.{Option, None, Some}
use Rattle.std.specs.Prelude.{Ok, Err}
use Rattle.std.specs.Prelude.{ℕ, ◌+◌, ◌-◌, ◌^◌, List, [], ◌∷◌, ◌++◌, Bool, true, false, cond, length, eqb, leb}
use Rattle.std.specs.Int.Bits.{bit_and}
use Rattle.error.specs.declared.Refusal.TheVariants.{KindOnRaw, EtherOnRaw, CookedAddress}
use Rattle.error.specs.Answer.{Out, ◌>>=◌}
use Rattle.bpf.specs.Bytes.{be}
use Rattle.ast.specs.declared.LinkType.{LinkType}
use Rattle.ast.specs.declared.LinkType.TheVariants.{Ethernet, RawIp, LinuxSll}
use Rattle.ast.specs.declared.Dir.{Dir}
use Rattle.ast.specs.declared.Dir.TheVariants.{SrcOrDst, Src, Dst, SrcAndDst}
use Rattle.ast.specs.declared.Proto.{Proto}
use Rattle.ast.specs.declared.Primitive.{Primitive}
use Rattle.ast.specs.declared.Primitive.TheVariants.{Protocol, Host4, Host6, Net, Net6, Port, PortRange, EtherHost, EtherProto, EtherMulticast, IpBroadcast, IpMulticast, Ip6Multicast, IpProtoChain, Ip6ProtoChain}
use Rattle.ast.specs.Tree.{Expr, Leaf, And, Or, Not}
use Rattle.codegen.specs.declared.L4Set.{L4Set}
use Rattle.codegen.specs.declared.L4Set.TheVariants.{One, TcpOrUdp}
use Rattle.codegen.specs.declared.Facts.{Facts}
use Rattle.codegen.specs.declared.GuardSet.{GuardSet}
use Rattle.codegen.specs.Facts.{contains, holds, ready_for, learn_ethertype, learn_ip4, learn_ip6, with_ports, restored, meet, intersect}
use Rattle.codegen.specs.Protocols.{row_of, small_of, known, l4set_for}
use Rattle.codegen.specs.Guards.{required_guards}
use Rattle.codegen.specs.declared.Width.{Width}
use Rattle.codegen.specs.declared.Width.TheVariants.{Byte, Half, Word}
use Rattle.codegen.specs.declared.Op.TheVariants.{LdAbs, LdhInd, LdxMsh, LdxImm, AndK}
use Rattle.codegen.specs.declared.Test.{Test}
use Rattle.codegen.specs.declared.Test.TheVariants.{Jeq, Jgt, Jge, Jset}
use Rattle.codegen.specs.declared.Side.TheVariants.{Success, Failure}
use Rattle.codegen.specs.declared.Exit.TheVariants.{Skip, Leave}
use Rattle.codegen.specs.declared.Slot.TheVariants.{Jt, Jf}
use Rattle.codegen.specs.declared.Line.{Line}
use Rattle.codegen.specs.declared.Line.TheVariants.{Plain, Branch, Jump}
use Rattle.codegen.specs.Block.{Block, settle, turn, otherwise, resolved, writes_x}

-- `LinkType::net_offset`
abbrev pub net_offset : LinkType → ℕ
net_offset Ethernet = 14
net_offset RawIp = 0
net_offset LinuxSll = 16

-- `LinkType::ether_proto_offset`
abbrev pub ether_proto_offset : LinkType → Option ℕ
ether_proto_offset Ethernet = Some 12
ether_proto_offset RawIp = None
ether_proto_offset LinuxSll = Some 14

abbrev pub is_raw : LinkType → Bool
is_raw Ethernet = false
is_raw RawIp = true
is_raw LinuxSll = false

-- a block, and the facts after it
pub record Code : Type 0 where
  pub block : Block
  pub facts : Facts

abbrev pub code : Block → Facts → Code
code b g = record { block = b; facts = g }

-- entry facts restored after a block: "without ports ready if the left wrote X"
abbrev pub restored_after : Block → Facts → Facts
restored_after b g = restored (writes_x b) g

-- ---- tests

-- `jeq_k` whose jf fails
abbrev pub need : ℕ → Line
need k = Branch Jeq k Jf (Leave Failure)

-- `check_byte`, `check_halfword`, `check_word`
abbrev pub check : Width → ℕ → ℕ → Block
check w at k = Plain (LdAbs w at) ∷ need k ∷ []

-- two loads, each compared with k, by direction: `check_addr4`. With either, the source test's jt is a success
unfoldable pub check_loads : Dir → ℕ → Block → Block → Block
check_loads SrcOrDst k s d = s ++ (Branch Jeq k Jt (Leave Success) ∷ (d ++ (need k ∷ [])))
check_loads Src k s d = s ++ (need k ∷ [])
check_loads Dst k s d = d ++ (need k ∷ [])
check_loads SrcAndDst k s d = s ++ (need k ∷ (d ++ (need k ∷ [])))

-- two blocks by direction. With either, the source's failures go to the destination's block
unfoldable pub check_blocks : Dir → Block → Block → Block
check_blocks SrcOrDst s d = otherwise s ++ d
check_blocks Src s d = s
check_blocks Dst s d = d
check_blocks SrcAndDst s d = s ++ d

-- `check_ip6_addr`: the segments of an address
unfoldable pub check_ip6_addr : ℕ → List ℕ → Block
check_ip6_addr at [] = []
check_ip6_addr at (s ∷ ss) = check Half at s ++ check_ip6_addr (at + 2) ss

-- the mask of a segment's first p bits, p below 16
abbrev pub mask16 : ℕ → ℕ
mask16 p = 2 ^ 16 - 2 ^ (16 - p)

-- `check_net6`: the segments of an address as far as the prefix p reaches
abbrev pub segment : ℕ → ℕ → ℕ → Block
segment p at s = cond (leb 16 p) (check Half at s) (Plain (LdAbs Half at) ∷ Plain (AndK (mask16 p)) ∷ need (bit_and s (mask16 p)) ∷ [])

unfoldable pub check_net6 : ℕ → ℕ → List ℕ → Block
check_net6 p at [] = []
check_net6 p at (s ∷ ss) = cond (eqb p 0) [] (segment p at s ++ check_net6 (p - 16) (at + 2) ss)

-- `check_range`: low ≤ A ≤ high
unfoldable pub check_range : ℕ → ℕ → ℕ → Block
check_range lo hi at = Plain (LdhInd at) ∷ Branch Jge lo Jf (Leave Failure) ∷ Branch Jgt hi Jt (Leave Failure) ∷ []

-- `check_mac`: four bytes and then two
unfoldable pub check_mac : List ℕ → ℕ → Block
check_mac a at = check Word at (be 4 0 a) ++ check Half (at + 4) (be 2 4 a)

-- source and destination exchanged
abbrev pub turned : Dir → Dir
turned SrcOrDst = SrcOrDst
turned Src = Dst
turned Dst = Src
turned SrcAndDst = SrcAndDst

-- ---- the port prologue: `emit_port_prereqs_set`

-- `emit_l4_set_check`: A is a protocol of the set
unfoldable pub l4_set_check : L4Set → Block
l4_set_check (One n) = need n ∷ []
l4_set_check TcpOrUdp = Branch Jeq 6 Jt (Skip 1) ∷ need 17 ∷ []

-- the protocol byte is of the set
unfoldable pub l4_check : ℕ → L4Set → Block
l4_check at want = Plain (LdAbs Byte at) ∷ l4_set_check want

-- IPv4: no later fragment, and X the header's length
unfoldable pub header4 : ℕ → Block
header4 n = Plain (LdAbs Half (n + 6)) ∷ Branch Jset 0x1fff Jt (Leave Failure) ∷ Plain (LdxMsh n) ∷ []

-- IPv6: "X = 40"
unfoldable pub header6 : Block
header6 = Plain (LdxImm 40) ∷ []

-- the block d where the test of A holds, else the block b
unfoldable pub fork : Test → ℕ → Block → Block → Block
fork t k b d = Branch t k Jt (Skip (length b + 1)) ∷ (b ++ (Jump (Skip (length d)) ∷ d))

-- the ethertype is not known: both versions
unfoldable pub dual_path : ℕ → ℕ → L4Set → Block
dual_path off n want =
    Plain (LdAbs Half off) ∷ fork Jeq 0x86dd (need 0x0800 ∷ (l4_check (n + 9) want ++ header4 n)) (l4_check (n + 6) want ++ header6)

-- what a prologue is: its block, and the set that it establishes
pub record Prologue : Type 0 where
  pub block : Block
  pub set : L4Set

-- one version, nothing ready: where the protocol is known to be one of the set it is not tested again
abbrev pub pinned : Option ℕ → ℕ → L4Set → Block → Prologue
pinned None at want header = record { block = l4_check at want ++ header; set = want }
pinned (Some p) at want header = cond (contains want p) (record { block = header; set = One p }) (record { block = l4_check at want ++ header; set = want })

-- one version: where ports are ready for another set only the protocol is narrowed
abbrev pub version : Option L4Set → Option ℕ → ℕ → L4Set → Block → Prologue
version None proto at want header = pinned proto at want header
version (Some have) proto at want header = record { block = l4_check at want; set = want }

-- an established set of one protocol is a fact of that protocol
abbrev pub learn_set : (Facts → ℕ → Facts) → Facts → L4Set → Facts
learn_set learn g (One n) = learn g n
learn_set learn g TcpOrUdp = g

abbrev pub established : (Facts → ℕ → Facts) → Facts → Prologue → Code
established learn g p = code p.block (with_ports (learn_set learn g p.set) (Some p.set))

-- neither version is known. "RawIp starts with ethertype 0x0800", so a link with no ethertype does not come here
abbrev pub dual : Option ℕ → ℕ → L4Set → Facts → Code
dual None n want g = code [] g
dual (Some off) n want g = code (dual_path off n want) (with_ports g (Some want))

-- ---- conditions

-- `emit_ethertype` by the ethertype's place; number 5, "RawIp, and an ethertype other than 0x0800 is to be tested"
abbrev pub ethertype_at : Option ℕ → ℕ → Facts → Out Code
ethertype_at None et g = cond (eqb et 0x0800) (Ok (code [] g)) (Err KindOnRaw)
ethertype_at (Some off) et g = cond (holds g.ethertype et) (Ok (code [] g)) (Ok (code (check Half off et) (learn_ethertype g et)))

-- a test of ether addresses by link: the block on Ethernet, the answer on LinuxSll; number 7, "RawIp with kind 17 or 19"
abbrev pub by_link : LinkType → Block → Out Block → Out Block
by_link Ethernet b cooked = Ok b
by_link RawIp b cooked = Err EtherOnRaw
by_link LinuxSll b cooked = cooked

-- T-03, "Cooked captures have no destination address": number 15
abbrev pub no_address : Out Block
no_address = Err CookedAddress

-- T-03: "On LinuxSll, kind 17 is now accepted only with direction 1"; "The sender test also wants the 16-bit address length at byte 4 to
-- be 6; that test comes first."
abbrev pub sender : Dir → Block → Out Block
sender SrcOrDst source = no_address
sender Src source = Ok (check Half 4 6 ++ source)
sender Dst source = no_address
sender SrcAndDst source = no_address

-- a block that learns no fact
abbrev pub unlearned : Out Block → Facts → Out Code
unlearned o g = do
  b ← o
  Ok (code b g)

module _ (L : LinkType) where
  unfoldable pub emit_ethertype : ℕ → Facts → Out Code
  emit_ethertype et g = ethertype_at (ether_proto_offset L) et g

  -- an ethertype and then a block
  unfoldable pub guarded : ℕ → Block → Facts → Out Code
  guarded et b g = do
    c ← emit_ethertype et g
    Ok (code (c.block ++ b) c.facts)

  -- an ethertype, and then the byte at a place is p, unless `get` knows it; `learn` remembers it
  unfoldable pub emit_l4 : ℕ → ℕ → (Facts → Option ℕ) → (Facts → ℕ → Facts) → ℕ → Facts → Out Code
  emit_l4 et at get learn p g = do
    c ← emit_ethertype et g
    cond (holds (get c.facts) p) (Ok c) (Ok (code (c.block ++ check Byte at p) (learn c.facts p)))

  abbrev pub emit_ip4_l4 : ℕ → Facts → Out Code
  emit_ip4_l4 = emit_l4 0x0800 (net_offset L + 9) (λ g. g.ip4_proto) learn_ip4

  abbrev pub emit_ip6_l4 : ℕ → Facts → Out Code
  emit_ip6_l4 = emit_l4 0x86dd (net_offset L + 6) (λ g. g.ip6_nh) learn_ip6

  -- `emit_proto`, by the protocol's row
  abbrev pub emit_row : ℕ → Option ℕ → Option ℕ → Facts → Out Code
  emit_row et None None = emit_ethertype et
  emit_row et None (Some n) = emit_ip6_l4 n
  emit_row et (Some p) n = emit_ip4_l4 p

  abbrev pub emit_proto : Proto → Facts → Out Code
  emit_proto p = let r = row_of p in emit_row r.ethertype (known r.ip4_proto (small_of p)) (known r.ip6_nh (small_of p))

  unfoldable pub port_prereqs : L4Set → Facts → Code
  port_prereqs want g =
      cond (ready_for g.ports_ready want) (code [] g)
      (cond (holds g.ethertype 0x0800) (established learn_ip4 g (version g.ports_ready g.ip4_proto (net_offset L + 9) want (header4 (net_offset L))))
      (cond (holds g.ethertype 0x86dd) (established learn_ip6 g (version g.ports_ready g.ip6_nh (net_offset L + 6) want header6))
      (dual (ether_proto_offset L) (net_offset L) want g)))

  -- a prologue and then a block
  unfoldable pub ported : Option Proto → Block → Facts → Out Code
  ported p b g = do
    want ← l4set_for p
    let c = port_prereqs want g in Ok (code (c.block ++ b) c.facts)

  unfoldable pub ether : Block → Out Block → Facts → Out Code
  ether b cooked = unlearned (by_link L b cooked)

  abbrev n : ℕ
  n = net_offset L

  -- `emit_primitive`
  unfoldable pub emit_primitive : Primitive → Facts → Out Code
  emit_primitive (Protocol p) = emit_proto p
  emit_primitive (Host4 d a) = guarded 0x0800 (check_loads d a (Plain (LdAbs Word (n + 12)) ∷ []) (Plain (LdAbs Word (n + 16)) ∷ []))
  emit_primitive (Host6 d a) = guarded 0x86dd (check_blocks d (check_ip6_addr (n + 8) a) (check_ip6_addr (n + 24) a))
  emit_primitive (Net d a m) =
      guarded 0x0800 (check_loads d (bit_and a m) (Plain (LdAbs Word (n + 12)) ∷ Plain (AndK m) ∷ []) (Plain (LdAbs Word (n + 16)) ∷ Plain (AndK m) ∷ []))
  emit_primitive (Net6 d p a) = guarded 0x86dd (check_blocks d (check_net6 p (n + 8) a) (check_net6 p (n + 24) a))
  emit_primitive (Port d p k) = ported p (check_loads d k (Plain (LdhInd n) ∷ []) (Plain (LdhInd (n + 2)) ∷ []))
  emit_primitive (PortRange d p lo hi) = ported p (check_blocks d (check_range lo hi n) (check_range lo hi (n + 2)))
  -- the destination is tested first
  emit_primitive (EtherHost d a) = ether (check_blocks (turned d) (check_mac a 0) (check_mac a 6)) (sender d (check_mac a 6))
  emit_primitive (EtherProto v) = emit_ethertype v
  -- T-03: "and kind 19 is turned down"
  emit_primitive EtherMulticast = ether (Plain (LdAbs Byte 0) ∷ Branch Jset 0x01 Jf (Leave Failure) ∷ []) no_address
  emit_primitive IpBroadcast = guarded 0x0800 (check Word (n + 16) 0xffff_ffff)
  emit_primitive IpMulticast = guarded 0x0800 (Plain (LdAbs Word (n + 16)) ∷ Plain (AndK 0xf000_0000) ∷ need 0xe000_0000 ∷ [])
  emit_primitive Ip6Multicast = guarded 0x86dd (check Byte (n + 24) 0xff)
  emit_primitive (IpProtoChain p) = emit_ip4_l4 p
  emit_primitive (Ip6ProtoChain p) = emit_ip6_l4 p

  -- ---- joins

  -- a guard that is known is emitted after the code c
  abbrev pub hoist_known : Option ℕ → (ℕ → Facts → Out Code) → Code → Out Code
  hoist_known None emit c = Ok c
  hoist_known (Some v) emit c = do
    d ← emit v c.facts
    Ok (code (c.block ++ d.block) d.facts)

  abbrev pub hoist_ports : Option L4Set → Code → Out Code
  hoist_ports None c = Ok c
  hoist_ports (Some want) c = let d = port_prereqs want c.facts in Ok (code (c.block ++ d.block) d.facts)

  -- `emit_or_hoist`: "`or` first emits the tests that `required_guards` finds on both sides, skipping ethertype on RawIp"
  unfoldable pub or_hoist : GuardSet → Facts → Out Code
  or_hoist r g = do
    a ← hoist_known (cond (is_raw L) None r.ethertype) emit_ethertype (code [] g)
    b ← hoist_known r.ip4_proto emit_ip4_l4 a
    c ← hoist_known r.ip6_nh emit_ip6_l4 b
    hoist_ports r.port_prereqs c

  -- `emit_expr`. "its right side starts from the facts after them, without ports ready if the left wrote X; after it `Facts::meet`
  -- holds. `not` restores its entry facts in the same way."
  unfoldable pub emit : Expr → Facts → Out Code
  emit (Leaf p) g = emit_primitive p g
  emit (And l r) g = do
    b ← emit l g
    b' ← resolved (settle Success 0 b.block)
    c ← emit r b.facts
    Ok (code (b' ++ c.block) c.facts)
  emit (Or l r) g = do
    h ← or_hoist (intersect (required_guards l) (required_guards r)) g
    b ← emit l h.facts
    b' ← resolved (otherwise b.block)
    c ← emit r (restored_after b.block h.facts)
    Ok (code (h.block ++ (b' ++ c.block)) (meet b.facts c.facts))
  emit (Not t) g = do
    b ← emit t g
    b' ← resolved (turn (otherwise b.block))
    Ok (code b' (restored_after b.block g))
