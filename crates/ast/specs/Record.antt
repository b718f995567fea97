-- One 24-byte record of a tree file: what it may hold (number 3), and the node that it stands for.
use Rattle.std.specs.Prelude.{Option, None, Some}
use Rattle.std.specs.Prelude.{Ok, Err}
use Rattle.std.specs.Prelude.{ℕ, ◌+◌, ◌-◌, List, [], ◌∷◌, Bool, false, cond, not, ◌&&◌, ◌||◌, get_or, take, eqb, leb}
use Rattle.error.specs.declared.Refusal.TheVariants.{BadRecord}
use Rattle.error.specs.Answer.{Out}
use Rattle.bpf.specs.Bytes.{be, segments_at, bytes_at}
use Rattle.ast.specs.declared.Node.{Node}
use Rattle.ast.specs.declared.Node.TheVariants.{AndNode, OrNode, NotNode, LeafNode}
use Rattle.ast.specs.declared.Dir.{Dir}
use Rattle.ast.specs.declared.Dir.TheVariants.{SrcOrDst, Src, Dst, SrcAndDst}
use Rattle.ast.specs.declared.Proto.{Proto}
use Rattle.ast.specs.declared.Proto.TheVariants.{Ip, Ip6, Arp, Rarp, Tcp, Udp, Icmp, Icmp6, Igmp, Sctp, Num, Ip6Proto}
use Rattle.ast.specs.declared.Primitive.TheVariants.{Protocol, Host4, Host6, Net, Net6, Port, PortRange, EtherHost, EtherProto, EtherMulticast, IpBroadcast, IpMulticast, Ip6Multicast, IpProtoChain, Ip6ProtoChain}

-- "Record: byte 0 kind; byte 1 direction (..); byte 2 protocol; byte 3 small number; bytes 4-5 A; 6-7 B; 8-23 address."
pub record Record : Type 0 where
  pub kind : ℕ
  pub direction : ℕ
  pub protocol : ℕ
  pub small : ℕ
  pub a : ℕ
  pub b : ℕ
  pub address : List ℕ

-- the record whose bytes start at a place
unfoldable pub record_at : ℕ → List ℕ → Record
record_at at s =
    record {
      kind = be 1 at s;
      direction = be 1 (at + 1) s;
      protocol = be 1 (at + 2) s;
      small = be 1 (at + 3) s;
      a = be 2 (at + 4) s;
      b = be 2 (at + 6) s;
      address = bytes_at 16 (at + 8) s;
    }

-- "direction (0 either, 1 source, 2 destination, 3 both)"
abbrev pub dir_of : ℕ → Dir
dir_of n = get_or (SrcOrDst ∷ Src ∷ Dst ∷ SrcAndDst ∷ []) n SrcOrDst

-- "Protocol bytes: 1 Ip, 2 Ip6, .."; n is the small number
abbrev pub protos : ℕ → List Proto
protos n = Ip ∷ Ip6 ∷ Arp ∷ Rarp ∷ Tcp ∷ Udp ∷ Icmp ∷ Icmp6 ∷ Igmp ∷ Sctp ∷ Num n ∷ Ip6Proto n ∷ []

abbrev pub proto_of : ℕ → ℕ → Proto
proto_of p n = get_or (protos n) (p - 1) Ip

-- "Kinds 15 and 16 also take 0, none."
abbrev pub port_proto_of : ℕ → ℕ → Option Proto
port_proto_of p n = cond (eqb p 0) None (Some (proto_of p n))

-- The fields that a kind may use beside the address, each named by its first byte: direction ("D means that direction is used"),
-- protocol, small number, A and B
abbrev pub D : ℕ
D = 1

abbrev pub P : ℕ
P = 2

abbrev pub S : ℕ
S = 3

abbrev pub A : ℕ
A = 4

abbrev pub B : ℕ
B = 6

-- a kind: its number, the fields and the first bytes of the address that it uses, and its node
pub record Kind : Type 0 where
  pub number : ℕ
  pub uses : List ℕ
  pub address : ℕ
  pub node : Record → Node

abbrev pub kind : ℕ → List ℕ → ℕ → (Record → Node) → Kind
kind n u k f = record { number = n; uses = u; address = k; node = f }

-- "Kinds, decimal: .."
abbrev pub kinds : List Kind
kinds =
    kind 1 [] 0 (λ r. AndNode)
    ∷ kind 2 [] 0 (λ r. OrNode)
    ∷ kind 3 [] 0 (λ r. NotNode)
    ∷ kind 10 (P ∷ []) 0 (λ r. LeafNode (Protocol (proto_of r.protocol r.small)))
    ∷ kind 11 (D ∷ []) 4 (λ r. LeafNode (Host4 (dir_of r.direction) (be 4 0 r.address)))
    ∷ kind 12 (D ∷ []) 16 (λ r. LeafNode (Host6 (dir_of r.direction) (segments_at 8 0 r.address)))
    ∷ kind 13 (D ∷ []) 8 (λ r. LeafNode (Net (dir_of r.direction) (be 4 0 r.address) (be 4 4 r.address)))
    ∷ kind 14 (D ∷ S ∷ []) 16 (λ r. LeafNode (Net6 (dir_of r.direction) r.small (segments_at 8 0 r.address)))
    ∷ kind 15 (D ∷ P ∷ A ∷ []) 0 (λ r. LeafNode (Port (dir_of r.direction) (port_proto_of r.protocol r.small) r.a))
    ∷ kind 16 (D ∷ P ∷ A ∷ B ∷ []) 0 (λ r. LeafNode (PortRange (dir_of r.direction) (port_proto_of r.protocol r.small) r.a r.b))
    ∷ kind 17 (D ∷ []) 6 (λ r. LeafNode (EtherHost (dir_of r.direction) (take 6 r.address)))
    ∷ kind 18 (A ∷ []) 0 (λ r. LeafNode (EtherProto r.a))
    ∷ kind 19 [] 0 (λ r. LeafNode EtherMulticast)
    ∷ kind 20 [] 0 (λ r. LeafNode IpBroadcast)
    ∷ kind 21 [] 0 (λ r. LeafNode IpMulticast)
    ∷ kind 22 [] 0 (λ r. LeafNode Ip6Multicast)
    ∷ kind 23 (S ∷ []) 0 (λ r. LeafNode (IpProtoChain r.small))
    ∷ kind 24 (S ∷ []) 0 (λ r. LeafNode (Ip6ProtoChain r.small))
    ∷ []

abbrev pub member : ℕ → List ℕ → Bool
member n [] = false
member n (m ∷ ms) = eqb n m || member n ms

-- "11 and 12 use byte 3, in kinds 15 and 16 too"
abbrev pub numbered : ℕ → Bool
numbered p = eqb p 11 || eqb p 12

-- a record of this kind is not bad: its direction and its protocol are known, only kinds 15 and 16 take the protocol 0, and
-- "Bytes a kind doesn't use are zero."
unfoldable pub good : Kind → Record → Bool
good k r =
    leb r.direction 3
    && (leb r.protocol 12
    && (not (eqb k.number 10 && eqb r.protocol 0)
    && ((member D k.uses || eqb r.direction 0)
    && ((member P k.uses || eqb r.protocol 0)
    && ((member S k.uses || (numbered r.protocol || eqb r.small 0))
    && ((member A k.uses || eqb r.a 0)
    && ((member B k.uses || eqb r.b 0)
    && eqb (be (16 - k.address) k.address r.address) 0)))))))

-- the node of a record by a list of kinds; number 3, "unknown kind, direction or protocol, or an unused byte not zero"
unfoldable pub node_by : List Kind → Record → Out Node
node_by [] r = Err BadRecord
node_by (k ∷ ks) r = cond (eqb r.kind k.number) (cond (good k r) (Ok (k.node r)) (Err BadRecord)) (node_by ks r)

abbrev pub node_at : ℕ → List ℕ → Out Node
node_at at s = node_by kinds (record_at at s)
