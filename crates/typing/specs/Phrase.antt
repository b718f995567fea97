-- T-04, the grammar of a typed line: what may be said, its words, and what it says of a frame. Nothing here reads a line.
use Rattle.std.specs.Prelude.{Option, None, Some}
use Rattle.std.specs.Prelude.{ℕ, suc, ◌+◌, ◌/◌, ◌%◌, ◌≤◌, max, List, [], ◌∷◌, ◌++◌, Bool, not, ◌&&◌, ◌||◌, eqb}
use Rattle.bpf.specs.Bytes.{be}
use Rattle.ast.specs.declared.LinkType.{LinkType}
use Rattle.ast.specs.declared.Dir.{Dir}
use Rattle.ast.specs.declared.Dir.TheVariants.{SrcOrDst, Src, Dst}
use Rattle.ast.specs.declared.Proto.{Proto}
use Rattle.ast.specs.declared.Proto.TheVariants.{Ip, Ip6, Arp, Rarp, Tcp, Udp, Icmp, Sctp}
use Rattle.ast.specs.declared.Primitive.{Primitive}
use Rattle.ast.specs.declared.Primitive.TheVariants.{Protocol, Host4, Port}
use Rattle.ast.specs.Tree.{Expr, Leaf, And, Or, Not}
use Rattle.direct.specs.Reading.{network_start, kind, transport}
pub use Rattle.typing.specs.declared.Term.{Term}
pub use Rattle.typing.specs.declared.Term.TheVariants.{Named as named, Bare as bare, Hosts as hosts, Ports as ports}
use Rattle.typing.specs.Words.{Transport, tcp, udp, sctp, Name, ip, ip6, arp, rarp, icmp, Side, src, dst, Join, and, or}
use Rattle.typing.specs.Words.{Word, name, over, side, host, port, opening, closing, negate, join, address, number}

-- "brackets, not, and, or": "not binds tightest, and and or bind equally and join from the left". So a not stands before a term, a not or
-- brackets, and what stands right of an and or an or has no other join outside brackets.
mutual
  pub data Operand : Type 0 where
    term : Term → Operand
    negated : Operand → Operand
    brackets : Phrase → Operand

  pub data Phrase : Type 0 where
    one : Operand → Phrase
    two : Phrase → Join → Operand → Phrase

-- ---- the words

abbrev pub maybe : {A : Type 0} → (A → Word) → Option A → List Word
maybe f None = []
maybe f (Some a) = f a ∷ []

abbrev pub term_words : Term → List Word
term_words (named n) = name n ∷ []
term_words (bare t) = over t ∷ []
term_words (hosts s a) = maybe side s ++ (host ∷ address a ∷ [])
term_words (ports t s n) = maybe over t ++ (maybe side s ++ (port ∷ number n ∷ []))

abbrev mutual
  pub operand_words : Operand → List Word
  operand_words (term t) = term_words t
  operand_words (negated o) = negate ∷ operand_words o
  operand_words (brackets p) = opening ∷ (words_of p ++ (closing ∷ []))

  pub words_of : Phrase → List Word
  words_of (one o) = operand_words o
  words_of (two p j o) = words_of p ++ (join j ∷ operand_words o)

-- ---- the size: records, and brackets open at once

abbrev mutual
  pub operand_records : Operand → ℕ
  operand_records (term t) = 1
  operand_records (negated o) = suc (operand_records o)
  operand_records (brackets p) = record_count p

  pub record_count : Phrase → ℕ
  record_count (one o) = operand_records o
  record_count (two p j o) = suc (record_count p + operand_records o)

abbrev mutual
  pub operand_depth : Operand → ℕ
  operand_depth (term t) = 0
  operand_depth (negated o) = operand_depth o
  operand_depth (brackets p) = suc (depth p)

  pub depth : Phrase → ℕ
  depth (one o) = operand_depth o
  depth (two p j o) = max (depth p) (operand_depth o)

-- "over 128 records or over 128 brackets open at once" does not hold
pub record Within (p : Phrase) : Type 0 where
  pub few : record_count p ≤ 128
  pub flat : depth p ≤ 128

-- ---- what it says of a frame, word by word

-- of a test of the source and one of the destination
abbrev pub on_side : Option Side → Bool → Bool → Bool
on_side None s d = s || d
on_side (Some src) s d = s
on_side (Some dst) s d = d

-- IPv4's protocol and IPv6's next header before a port; none is TCP or UDP
abbrev pub carries : Option Transport → ℕ → Bool
carries None q = eqb q 6 || eqb q 17
carries (Some tcp) q = eqb q 6
carries (Some udp) q = eqb q 17
carries (Some sctp) q = eqb q 132

module _ (L : LinkType) (f : List ℕ) where
  abbrev n : ℕ
  n = network_start L

  -- IPv4 with a protocol: "Tcp stays IPv4 as in document 01."
  abbrev pub ipv4_is : ℕ → Bool
  ipv4_is q = kind L f 0x0800 && eqb (be 1 (n + 9) f) q

  abbrev pub name_says : Name → Bool
  name_says ip = kind L f 0x0800
  name_says ip6 = kind L f 0x86dd
  name_says arp = kind L f 0x0806
  name_says rarp = kind L f 0x8035
  name_says icmp = ipv4_is 1

  abbrev pub bare_says : Transport → Bool
  bare_says tcp = ipv4_is 6
  bare_says udp = ipv4_is 17
  bare_says sctp = ipv4_is 132

  abbrev pub term_says : Term → Bool
  term_says (named w) = name_says w
  term_says (bare t) = bare_says t
  term_says (hosts s a) = kind L f 0x0800 && on_side s (eqb (be 4 (n + 12) f) a) (eqb (be 4 (n + 16) f) a)
  term_says (ports t s k) = transport L f (carries t) (λ x. on_side s (eqb (be 2 (n + x) f) k) (eqb (be 2 (n + x + 2) f) k))

  abbrev mutual
    pub operand_says : Operand → Bool
    operand_says (term t) = term_says t
    operand_says (negated o) = not (operand_says o)
    operand_says (brackets p) = says p

    pub says : Phrase → Bool
    says (one o) = operand_says o
    says (two p and o) = says p && operand_says o
    says (two p or o) = says p || operand_says o

-- ---- the tree

-- "direction 0 where none is typed"
abbrev pub dir_of : Option Side → Dir
dir_of None = SrcOrDst
dir_of (Some src) = Src
dir_of (Some dst) = Dst

abbrev pub transport_proto : Transport → Proto
transport_proto tcp = Tcp
transport_proto udp = Udp
transport_proto sctp = Sctp

abbrev pub maybe_proto : Option Transport → Option Proto
maybe_proto None = None
maybe_proto (Some t) = Some (transport_proto t)

abbrev pub name_proto : Name → Proto
name_proto ip = Ip
name_proto ip6 = Ip6
name_proto arp = Arp
name_proto rarp = Rarp
name_proto icmp = Icmp

-- "kinds 10, 11 and 15 for leaves"
abbrev pub term_leaf : Term → Primitive
term_leaf (named w) = Protocol (name_proto w)
term_leaf (bare t) = Protocol (transport_proto t)
term_leaf (hosts s a) = Host4 (dir_of s) a
term_leaf (ports t s k) = Port (dir_of s) (maybe_proto t) k

abbrev pub joined : Join → Expr → Expr → Expr
joined and l r = And l r
joined or l r = Or l r

abbrev mutual
  pub operand_tree : Operand → Expr
  operand_tree (term t) = Leaf (term_leaf t)
  operand_tree (negated o) = Not (operand_tree o)
  operand_tree (brackets p) = tree_of p

  pub tree_of : Phrase → Expr
  tree_of (one o) = operand_tree o
  tree_of (two p j o) = joined j (tree_of p) (operand_tree o)

-- ---- its records, in prefix order: "a node, its left part, its right part"

abbrev pub two_bytes : ℕ → List ℕ
two_bytes v = v / 256 ∷ v % 256 ∷ []

abbrev pub four_bytes : ℕ → List ℕ
four_bytes v = v / 256 / 256 / 256 ∷ v / 256 / 256 % 256 ∷ v / 256 % 256 ∷ v % 256 ∷ []

abbrev pub zeros : ℕ → List ℕ
zeros n = lib.ListN.replicate n 0

-- kind, direction, protocol, A, and the address's first four bytes
abbrev pub record_bytes : ℕ → ℕ → ℕ → ℕ → ℕ → List ℕ
record_bytes k d p a v = k ∷ d ∷ p ∷ 0 ∷ (two_bytes a ++ (0 ∷ 0 ∷ (four_bytes v ++ zeros 12)))

abbrev pub dir_byte : Option Side → ℕ
dir_byte None = 0
dir_byte (Some src) = 1
dir_byte (Some dst) = 2

abbrev pub name_byte : Name → ℕ
name_byte ip = 1
name_byte ip6 = 2
name_byte arp = 3
name_byte rarp = 4
name_byte icmp = 7

abbrev pub transport_byte : Transport → ℕ
transport_byte tcp = 5
transport_byte udp = 6
transport_byte sctp = 10

abbrev pub maybe_byte : Option Transport → ℕ
maybe_byte None = 0
maybe_byte (Some t) = transport_byte t

abbrev pub term_record : Term → List ℕ
term_record (named w) = record_bytes 10 0 (name_byte w) 0 0
term_record (bare t) = record_bytes 10 0 (transport_byte t) 0 0
term_record (hosts s a) = record_bytes 11 (dir_byte s) 0 0 a
term_record (ports t s k) = record_bytes 15 (dir_byte s) (maybe_byte t) k 0

abbrev pub join_byte : Join → ℕ
join_byte and = 1
join_byte or = 2

abbrev mutual
  pub operand_bytes : Operand → List ℕ
  operand_bytes (term t) = term_record t
  operand_bytes (negated o) = record_bytes 3 0 0 0 0 ++ operand_bytes o
  operand_bytes (brackets p) = phrase_bytes p

  pub phrase_bytes : Phrase → List ℕ
  phrase_bytes (one o) = operand_bytes o
  phrase_bytes (two p j o) = record_bytes (join_byte j) 0 0 0 0 ++ (phrase_bytes p ++ operand_bytes o)

-- the file of a phrase for a link byte: "a version 1 tree file"
abbrev pub file_of : ℕ → Phrase → List ℕ
file_of link p = 0x50 ∷ 0x46 ∷ 0x54 ∷ 0 ∷ 1 ∷ link ∷ (two_bytes (record_count p) ++ phrase_bytes p)
