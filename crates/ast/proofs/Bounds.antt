-- The numbers of a file's tree keep the bounds that their bytes give them, and its records are at most 128.
use Rattle.std.specs.Prelude.{Ok}
use Prim.Native.Nat.{ℕ, zero, suc, ◌+◌, ◌-◌, ◌≤◌}
use mathlib.Core.Path.{◌≡◌}
use mathlib.Core.List.{List, [], ◌∷◌, ◌++◌, append-nil}
use native.Mathlib.Omega.{arith}
use lib.ListN.{length, get_or, take}
use lib.Dec.{eqb}
use Rattle.error.proofs.All.{All, all_bind, all_cond}
use Rattle.bpf.specs.Bytes.{be, AreBytes, bytes_at, segments_at}
use Rattle.bpf.proofs.Bytes.{be_small}
use Rattle.bpf.proofs.Parts.{length_bytes, length_segments, bytes_are_lem, segments_small, take_bytes}
use Rattle.bpf.specs.Program.{Each}
use Rattle.ast.specs.declared.Proto.TheVariants.{Ip}
use Rattle.ast.specs.Tree.{Expr, Leaf, And, Or, Not, records}
use Rattle.ast.specs.declared.Node.{Node}
use Rattle.ast.specs.declared.Node.TheVariants.{AndNode, OrNode, NotNode, LeafNode}
use Rattle.ast.specs.Record.{Record, record_at, protos, proto_of, Kind, kinds, good, node_by, node_at}
use Rattle.ast.specs.File.{header, count_of, nodes_at, Filter, parse}
use Rattle.ast.proofs.Proper.{Byte, Half, Word, ProperProto, ProperPrimitive, Proper}
use Rattle.ast.proofs.Prefix.{prefix}
use Rattle.ast.proofs.Walk.{counted, parsed, parse_records}

-- ---- what holds of every member of a list

infixr 5 ◌&◌
◌&◌ : {A B : Type 0} → A → B → A × B
◌&◌ a b = (a, b)

each_at : {A : Type 0} (q : A → Type 0) (xs : List A) (n : ℕ) (d : A) → Each q xs → q d → q (get_or xs n d)
each_at q [] n d h k = k
each_at q (x ∷ xs) zero d h k = h.0
each_at q (x ∷ xs) (suc n) d h k = each_at q xs n d h.1 k

each_append : {A : Type 0} (q : A → Type 0) (xs ys : List A) → Each q (xs ++ ys) → Each q xs × Each q ys
each_append q [] ys h = (tt, h)
each_append q (x ∷ xs) ys h = let k = each_append q xs ys h.1 in ((h.0, k.0), k.1)

pub each : (q : ℕ → Type 0) (ns : List ℕ) → ((i : ℕ) → q (get_or ns i 0)) → Each q ns
each q [] h = tt
each q (n ∷ ns) h = (h 0, each q ns (λ i. h (suc i)))

-- ---- a record's node

abbrev ProperNode : Node → Type 0
ProperNode AndNode = Unit {0}
ProperNode OrNode = Unit {0}
ProperNode NotNode = Unit {0}
ProperNode (LeafNode p) = ProperPrimitive p

proto_proper : (p n : ℕ) → Byte n → ProperProto (proto_of p n)
proto_proper p n h =
    each_at ProperProto (protos n) (p - 1) Ip (omega arith) tt

node_by_lem : (ks : List Kind) (r : Record) → Each (λ k. ProperNode (k.node r)) ks → All ProperNode (node_by ks r)
unfolding node_by
node_by_lem [] r h = tt
node_by_lem (k ∷ ks) r h =
    all_cond ProperNode (eqb r.kind k.number) _ _ (λ e. all_cond ProperNode (good k r) _ _ (λ g. h.0) (λ g. tt)) (λ e. node_by_lem ks r h.1)

module _ (s : List ℕ) (bytes : AreBytes s) where
  node_proper : (at : ℕ) → All ProperNode (node_at at s)
  unfolding record_at
  node_proper at =
      node_by_lem kinds (record_at at s)
      (tt & tt & tt  -- 1 to 3
      & proto_proper (be 1 (at + 2) s) (be 1 (at + 3) s) small  -- 10
      & word _  -- 11
      & segments  -- 12
      & (word _, word _)  -- 13
      & segments  -- 14
      & a  -- 15
      & (a, b)  -- 16
      & ether  -- 17
      & a  -- 18
      & tt & tt & tt & tt  -- 19 to 22
      & small & small & tt)  -- 23, 24
    where
      small : Byte (be 1 (at + 3) s)
      small = be_small 1 (at + 3) s bytes

      a : Half (be 2 (at + 4) s)
      a = be_small 2 (at + 4) s bytes

      b : Half (be 2 (at + 6) s)
      b = be_small 2 (at + 6) s bytes

      address : List ℕ
      address = bytes_at 16 (at + 8) s

      in_address : AreBytes address
      in_address = bytes_are_lem s bytes 16 (at + 8)

      word : (i : ℕ) → Word (be 4 i address)
      word i = be_small 4 i address in_address

      segments : (length (segments_at 8 0 address) ≡ 8) × Each Half (segments_at 8 0 address)
      segments = (length_segments 8 0 address, each Half (segments_at 8 0 address) (segments_small address in_address 8 0))

      ether : (length (take 6 address) ≡ 6) × Each Byte (take 6 address)
      ether = rw (take_bytes 6 16 (at + 8) s (omega arith)) (length_bytes 6 (at + 8) s, each Byte (bytes_at 6 (at + 8) s) (bytes_are_lem s bytes 6 (at + 8)))

  nodes_proper : (n at : ℕ) → All (Each ProperNode) (nodes_at n at s)
  unfolding nodes_at
  nodes_proper zero at = tt
  nodes_proper (suc n) at =
      all_bind ProperNode _ (node_at at s) _ (node_proper at)
      (λ x p. all_bind (Each ProperNode) _ (nodes_at n (at + 24) s) _ (nodes_proper n (at + 24)) (λ ns k. (p, k)))

-- ---- the tree

prefix_proper : (t : Expr) → Each ProperNode (prefix t) → Proper t
prefix_proper (Leaf p) h = h.0
prefix_proper (And l r) h = let k = each_append ProperNode (prefix l) (prefix r) h.1 in (prefix_proper l k.0, prefix_proper r k.1)
prefix_proper (Or l r) h = let k = each_append ProperNode (prefix l) (prefix r) h.1 in (prefix_proper l k.0, prefix_proper r k.1)
prefix_proper (Not t) h = prefix_proper t h.1

pub parse_header : (s : List ℕ) (f : Filter) → parse s ≡ Ok f → header s ≡ Ok f.link
parse_header s f e = (parsed s f e).head

pub parse_proper : (s : List ℕ) → AreBytes s → (f : Filter) → parse s ≡ Ok f → Proper f.tree × (records f.tree ≤ 128)
parse_proper s bytes f e =
    let k = parsed s f e in (
      prefix_proper f.tree (rw (k.tree.nodes, append-nil) at (nodes_proper s bytes (count_of s) 8)),
      omega (arith, parse_records s f e, (counted s (count_of s) k.number).most),
    )
