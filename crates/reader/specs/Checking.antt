-- The checks as the functions of the code share them out. These are promises between the functions; what `check` answers is said
-- without them, by `parse`.
use Rattle.std.specs.Prelude.{Ok, Err}
use Rattle.std.specs.Prelude.{ℕ, ◌+◌, ◌*◌, ◌-◌, ◌≤◌, ◌≡◌, List, [], ◌∷◌, Bool, cond, ◌&&◌, ◌||◌, length, eqb, leb}
use Rattle.error.specs.declared.Refusal.TheVariants.{BadRecord}
use Rattle.error.specs.Answer.{Out, ◌>>=◌}
use Rattle.bpf.specs.Bytes.{be}
use Rattle.ast.specs.declared.Node.{Node}
use Rattle.ast.specs.declared.Node.TheVariants.{AndNode, OrNode, NotNode, LeafNode}
use Rattle.ast.specs.Record.{Record, record_at, D, P, S, A, B, kinds, member, numbered}
use Rattle.ast.specs.Record as R
use Rattle.ast.specs.Tree.{Expr}
use Rattle.ast.specs.File.{count_of, nodes_at, only}
use Rattle.reader.specs.declared.Kind.{Kind}
use Rattle.reader.specs.declared.Kind.TheVariants.{And, Or, Not, Protocol, Host4, Host6, Net, Net6, Port, PortRange, EtherHost, EtherProto, EtherMulticast, IpBroadcast, IpMulticast, Ip6Multicast, IpProtoChain, Ip6ProtoChain}
use Rattle.reader.specs.declared.Most.{Most}
use Rattle.reader.specs.declared.RecordReader.{RecordReader}
use Rattle.reader.specs.Reader.{place, forest}

-- ---- kinds

abbrev pub all : List Kind
all =
    And ∷ Or ∷ Not ∷ Protocol ∷ Host4 ∷ Host6 ∷ Net ∷ Net6 ∷ Port ∷ PortRange ∷ EtherHost ∷ EtherProto ∷ EtherMulticast ∷ IpBroadcast ∷ IpMulticast
    ∷ Ip6Multicast ∷ IpProtoChain ∷ Ip6ProtoChain ∷ []

-- document 01's row of a number
abbrev pub row_among : List R.Kind → ℕ → R.Kind
row_among [] n = R.kind 0 [] 0 (λ r. AndNode)
row_among (k ∷ ks) n = cond (eqb n k.number) k (row_among ks n)

abbrev pub row_of : ℕ → R.Kind
row_of n = row_among kinds n

-- and of a kind
abbrev pub row : Kind → R.Kind
row And = row_of 1
row Or = row_of 2
row Not = row_of 3
row Protocol = row_of 10
row Host4 = row_of 11
row Host6 = row_of 12
row Net = row_of 13
row Net6 = row_of 14
row Port = row_of 15
row PortRange = row_of 16
row EtherHost = row_of 17
row EtherProto = row_of 18
row EtherMulticast = row_of 19
row IpBroadcast = row_of 20
row IpMulticast = row_of 21
row Ip6Multicast = row_of 22
row IpProtoChain = row_of 23
row Ip6ProtoChain = row_of 24

-- the kind of a number among some
abbrev pub kind_among : List Kind → ℕ → Out Kind
kind_among [] n = Err BadRecord
kind_among (k ∷ ks) n = cond (eqb n (row k).number) (Ok k) (kind_among ks n)

abbrev pub kind_of : ℕ → Out Kind
kind_of n = kind_among all n

-- the most that a record of a kind may hold in its fields, and the bytes of its address
abbrev pub most_for : R.Kind → Most
most_for k =
    record {
      direction = cond (member D k.uses) 3 0;
      protocol = cond (member P k.uses) 12 0;
      small = cond (member S k.uses) 255 0;
      a = cond (member A k.uses) 65535 0;
      b = cond (member B k.uses) 65535 0;
      address = k.address;
    }

-- a direction, and so many bytes of the address
abbrev pub addressed : ℕ → Most
addressed n = record { direction = 3; protocol = 0; small = 0; a = 0; b = 0; address = n }

-- how many parts a node asks for
abbrev pub asks : Node → ℕ
asks AndNode = 2
asks OrNode = 2
asks NotNode = 1
asks (LeafNode p) = 0

-- ---- records

-- the numbers of a record
abbrev pub fields : RecordReader → Record
fields r = record_at (place r.index) r.tree.now

-- how many bytes of its address a kind may use
abbrev pub lengths : List ℕ
lengths = 0 ∷ 4 ∷ 6 ∷ 8 ∷ 16 ∷ []

-- the bytes of an address from the n-th on are zero
unfoldable pub unused : ℕ → List ℕ → Bool
unused n x = member n lengths && eqb (be (16 - n) n x) 0

-- a record holds no more than the most; "11 and 12 use byte 3"
unfoldable pub fits : Most → Record → Bool
fits m r =
    leb r.direction m.direction
    && (leb r.protocol m.protocol
    && (leb r.a m.a
    && (leb r.b m.b
    && ((numbered r.protocol || leb r.small m.small)
    && unused m.address r.address))))

-- ---- the whole file

-- an answer without its value
abbrev pub passed : {A : Type 0} → Out A → Out (Unit {0})
passed (Err r) = Err r
passed (Ok a) = Ok tt

-- its records are one tree
unfoldable pub whole_tree : List ℕ → Out Expr
whole_tree s = forest s 0 >>= only

-- a file of n records that are all good
pub record Good (s : List ℕ) (n : ℕ) : Type 0 where
  pub count : n ≡ count_of s
  pub most : n ≤ 128
  pub whole : length s ≡ 8 + 24 * n
  pub nodes : passed (nodes_at n 8 s) ≡ Ok tt
