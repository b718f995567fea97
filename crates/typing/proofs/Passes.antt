-- The file of a phrase passes checks 1 to 4, its tree is the phrase's, and read directly it says what the phrase says word by word.
use Rattle.std.specs.Prelude.{Option, None, Some}
use Rattle.std.specs.Prelude.{Ok}
use Prim.Native.Nat.{ℕ, zero, suc, ◌+◌, ◌*◌, ◌/◌, ◌%◌, ◌≤◌}
use mathlib.Core.Path.{◌≡◌, refl, sym, ap, ap₂, ◌∙◌}
use mathlib.Core.List.{List, [], ◌∷◌, ◌++◌, append_assoc, append-nil}
use mathlib.Core.Bool.{false, not, ◌&&◌, ◌||◌}
use native.Mathlib.Omega.{arith}
use native.Mathlib.Nat.{zero-add, add-zero, div-add-mod'}
use lib.ListN.{length, length-append, drop}
use lib.Seq.{drop-drop, drop_at}
use borrow.Author.Tests.{le-ltb, ne_eqb, eq-eqb}
use Rattle.error.specs.Answer.{Out}
use Rattle.bpf.specs.Bytes.{be, bytes_at, long_frame}
use Rattle.bpf.proofs.Bytes.{be_drop}
use Rattle.ast.specs.declared.LinkType.{LinkType}
use Rattle.ast.specs.declared.Primitive.TheVariants.{Host4, Port}
use Rattle.ast.specs.declared.Dir.{Dir}
use Rattle.ast.specs.declared.Proto.{Proto}
use Rattle.ast.specs.Tree.{Expr, records}
use Rattle.ast.specs.declared.Node.{Node}
use Rattle.ast.specs.declared.Node.TheVariants.{AndNode, OrNode, NotNode, LeafNode}
use Rattle.ast.specs.Record.{record_at, kinds, good, node_by, node_at}
use Rattle.ast.specs.File.{link_of, header, count_of, count, nodes_at, parse}
use Rattle.ast.proofs.Prefix.{prefix}
use Rattle.ast.proofs.Walk.{Stands, parse_of}
use Rattle.direct.specs.Reading.{ipv4, reads_proto, reads_primitive, reads}
use Rattle.direct.specs.Direct.{direct}
use Rattle.typing.specs.Words.{tcp, udp, sctp, icmp, dst, Join, and, or}
use Rattle.typing.specs.Phrase.{Term, named, bare, hosts, ports, Operand, term, negated, brackets, Phrase, one, two, Within}
use Rattle.typing.specs.Phrase.{operand_records, record_count, term_leaf, operand_tree, tree_of, joined, join_byte}
use Rattle.typing.specs.Phrase.{record_bytes, term_record, operand_bytes, phrase_bytes, file_of, term_says, operand_says, says}

-- ---- numbers and records behind a place

bytes_drop : (n k at : ℕ) (s : List ℕ) → bytes_at n k (drop at s) ≡ bytes_at n (at + k) s
unfolding bytes_at
bytes_drop zero k at s = refl
bytes_drop (suc n) k at s = ap₂ ◌∷◌ (be_drop 1 k at s) (bytes_drop n (k + 1) at s ∙ ap (λ (i : ℕ). bytes_at n i s) (omega arith))

record_drop : (at : ℕ) (s : List ℕ) → record_at 0 (drop at s) ≡ record_at at s
unfolding record_at
record_drop at s =
    λ i. record {
      kind = (be_drop 1 0 at s ∙ ap (λ (j : ℕ). be 1 j s) (add-zero at)) i;
      direction = be_drop 1 1 at s i;
      protocol = be_drop 1 2 at s i;
      small = be_drop 1 3 at s i;
      a = be_drop 2 4 at s i;
      b = be_drop 2 6 at s i;
      address = bytes_drop 16 8 at s i;
    }

node_drop : (at : ℕ) (s r : List ℕ) (x : Node) → drop at s ≡ r → node_at 0 r ≡ Ok x → node_at at s ≡ Ok x
node_drop at s r x e h = ap (node_by kinds) (sym (record_drop at s) ∙ ap (record_at 0) e) ∙ h

-- ---- the node of each record

four : (a : ℕ) → ((a / 256 / 256 / 256 * 256 + a / 256 / 256 % 256) * 256 + a / 256 % 256) * 256 + a % 256 ≡ a
four a = omega (arith, div-add-mod' a 256, div-add-mod' (a / 256) 256, div-add-mod' (a / 256 / 256) 256)

host_leaf : {d : Dir} {v a : ℕ} → v ≡ a → ◌≡◌ {A = Out Node} (Ok (LeafNode (Host4 d v))) (Ok (LeafNode (Host4 d a)))
host_leaf {d} e = ap (λ v. Ok (LeafNode (Host4 d v))) e

port_leaf : {d : Dir} {p : Option Proto} {v k : ℕ} → v ≡ k → ◌≡◌ {A = Out Node} (Ok (LeafNode (Port d p v))) (Ok (LeafNode (Port d p k)))
port_leaf {d} {p} e = ap (λ v. Ok (LeafNode (Port d p v))) e

term_node : (t : Term) (rest : List ℕ) → node_at 0 (term_record t ++ rest) ≡ Ok (LeafNode (term_leaf t))
unfolding node_by good record_at be bytes_at
term_node (hosts (Some dst) a) rest = host_leaf (omega (arith, four a))
term_node (hosts s a) rest = host_leaf (omega (arith, four a))
term_node (ports None (Some dst) k) rest = port_leaf (omega (arith, div-add-mod' k 256))
term_node (ports (Some tcp) (Some dst) k) rest = port_leaf (omega (arith, div-add-mod' k 256))
term_node (ports (Some udp) (Some dst) k) rest = port_leaf (omega (arith, div-add-mod' k 256))
term_node (ports (Some sctp) (Some dst) k) rest = port_leaf (omega (arith, div-add-mod' k 256))
term_node (ports t s k) rest = port_leaf (omega (arith, div-add-mod' k 256))
term_node (named icmp) rest = refl
term_node (bare sctp) rest = refl
term_node t rest = refl

join_node : Join → Node
join_node and = AndNode
join_node or = OrNode

join_node_lem : (j : Join) (rest : List ℕ) → node_at 0 (record_bytes (join_byte j) 0 0 0 0 ++ rest) ≡ Ok (join_node j)
unfolding node_by good record_at be bytes_at join_node
join_node_lem and rest = refl
join_node_lem or rest = refl

not_node : (rest : List ℕ) → node_at 0 (record_bytes 3 0 0 0 0 ++ rest) ≡ Ok NotNode
unfolding node_by good record_at be bytes_at
not_node rest = refl

-- ---- the nodes of a phrase

-- the n records from a place on are good, and have these nodes
record Has (s : List ℕ) (n at : ℕ) (ns : List Node) : Type 0 where
  nodes : nodes_at n at s ≡ Ok ns

nodes_next : (s : List ℕ) (n at : ℕ) (x : Node) (ns : List Node) → node_at at s ≡ Ok x → nodes_at n (at + 24) s ≡ Ok ns → nodes_at (suc n) at s ≡ Ok (x ∷ ns)
unfolding nodes_at
nodes_next s n at x ns e f = rw (e, f)

moved : (s : List ℕ) (n m at bt : ℕ) (ns : List Node) → n ≡ m → at ≡ bt → Has s n at ns → Has s m bt ns
moved s n m at bt ns p q h = record { nodes = ap₂ (λ k c. nodes_at k c s) (sym p) (sym q) ∙ h.nodes }

module _ (s : List ℕ) where
  has_next : (r : List ℕ) (n at : ℕ) (x : Node) (ns : List Node) → drop at s ≡ r → node_at 0 r ≡ Ok x → Has s n (at + 24) ns → Has s (suc n) at (x ∷ ns)
  has_next r n at x ns e h k = record { nodes = nodes_next s n at x ns (node_drop at s r x e h) k.nodes }

  behind : (at : ℕ) (r rest : List ℕ) → drop at s ≡ r → drop 24 r ≡ rest → drop (at + 24) s ≡ rest
  behind at r rest e h = sym (drop-drop 24 at s) ∙ (ap (drop 24) e ∙ h)

term_length : (t : Term) → length (term_record t) ≡ 24
term_length (named w) = refl
term_length (bare t) = refl
term_length (hosts s a) = refl
term_length (ports t s k) = refl

mutual
  operand_length : (o : Operand) → length (operand_bytes o) ≡ 24 * operand_records o
  operand_length (term t) = term_length t
  operand_length (negated o) = omega (arith, operand_length o)
  operand_length (brackets p) = phrase_length p

  phrase_length : (p : Phrase) → length (phrase_bytes p) ≡ 24 * record_count p
  phrase_length (one o) = operand_length o
  phrase_length (two p j o) = omega (arith, length-append (phrase_bytes p) (operand_bytes o), phrase_length p, operand_length o)

past : (at n : ℕ) (s r rest : List ℕ) → length r ≡ n → drop at s ≡ r ++ rest → drop (at + n) s ≡ rest
past at n s r rest h e = sym (drop-drop n at s) ∙ (ap (drop n) e ∙ drop_at r rest n h)

join_prefix : (j : Join) (l r : Expr) (ns : List Node) → prefix (joined j l r) ++ ns ≡ join_node j ∷ (prefix l ++ (prefix r ++ ns))
unfolding join_node
join_prefix and l r ns = ap (λ xs. AndNode ∷ xs) (append_assoc (prefix l) (prefix r) ns)
join_prefix or l r ns = ap (λ xs. OrNode ∷ xs) (append_assoc (prefix l) (prefix r) ns)

two_has : (s : List ℕ) (at n k m : ℕ) (pb ob rest : List ℕ) (l r : Expr) (j : Join) (ns : List Node)
    → drop at s ≡ (record_bytes (join_byte j) 0 0 0 0 ++ (pb ++ ob)) ++ rest → length pb ≡ 24 * k
    → ((i : ℕ) → drop (at + 24) s ≡ pb ++ (ob ++ rest) → Has s i (at + 24 + 24 * k) (prefix r ++ ns) → Has s (k + i) (at + 24) (prefix l ++ (prefix r ++ ns)))
    → (drop (at + 24 + 24 * k) s ≡ ob ++ rest → Has s n (at + 24 + 24 * k + 24 * m) ns → Has s (m + n) (at + 24 + 24 * k) (prefix r ++ ns))
    → Has s n (at + 24 * suc (k + m)) ns
    → Has s (suc (k + m) + n) at (prefix (joined j l r) ++ ns)
two_has s at n k m pb ob rest l r j ns e len left right h =
    let after-join : drop (at + 24) s ≡ pb ++ (ob ++ rest) = behind s at _ _ e (append_assoc pb ob rest) in
    let after-left : drop (at + 24 + 24 * k) s ≡ ob ++ rest = past (at + 24) (24 * k) s pb (ob ++ rest) len after-join in
    let last = right after-left (moved s n n (at + 24 * suc (k + m)) (at + 24 + 24 * k + 24 * m) ns refl (omega arith) h) in
    let both = left (m + n) after-join last in
    rw (join_prefix j l r ns)
    (moved s (suc (k + (m + n))) (suc (k + m) + n) at at _ (omega arith) refl
    (has_next s _ (k + (m + n)) at (join_node j) (prefix l ++ (prefix r ++ ns)) e (join_node_lem j ((pb ++ ob) ++ rest)) both))

mutual
  operand_has : (o : Operand) (s rest : List ℕ) (n at : ℕ) (ns : List Node) → drop at s ≡ operand_bytes o ++ rest → Has s n (at + 24 * operand_records o) ns
      → Has s (operand_records o + n) at (prefix (operand_tree o) ++ ns)
  operand_has (term t) s rest n at ns e h =
      moved s (suc n) (1 + n) at at _ (omega arith) refl (has_next s _ n at (LeafNode (term_leaf t)) ns e (term_node t rest) h)
  operand_has (negated o) s rest n at ns e h =
      moved s (suc (operand_records o + n)) (suc (operand_records o) + n) at at _ (omega arith) refl
      (has_next s _ (operand_records o + n) at NotNode (prefix (operand_tree o) ++ ns) e (not_node (operand_bytes o ++ rest))
      (operand_has o s rest n (at + 24) ns (behind s at _ _ e refl)
      (moved s n n (at + 24 * suc (operand_records o)) (at + 24 + 24 * operand_records o) ns refl (omega arith) h)))
  operand_has (brackets p) s rest n at ns e h = phrase_has p s rest n at ns e h

  phrase_has : (p : Phrase) (s rest : List ℕ) (n at : ℕ) (ns : List Node) → drop at s ≡ phrase_bytes p ++ rest → Has s n (at + 24 * record_count p) ns
      → Has s (record_count p + n) at (prefix (tree_of p) ++ ns)
  phrase_has (one o) s rest n at ns e h = operand_has o s rest n at ns e h
  phrase_has (two p j o) s rest n at ns e h =
      two_has s at n (record_count p) (operand_records o) (phrase_bytes p) (operand_bytes o) rest (tree_of p) (operand_tree o) j ns e (phrase_length p)
      (λ m f k. phrase_has p s (operand_bytes o ++ rest) m (at + 24) (prefix (operand_tree o) ++ ns) f k)
      (λ f k. operand_has o s rest n (at + 24 + 24 * record_count p) ns f k) h

-- ---- the file

mutual
  operand_some : (o : Operand) → 1 ≤ operand_records o
  operand_some (term t) = omega arith
  operand_some (negated o) = omega (arith, operand_some o)
  operand_some (brackets p) = phrase_some p

  phrase_some : (p : Phrase) → 1 ≤ record_count p
  phrase_some (one o) = operand_some o
  phrase_some (two p j o) = omega arith

mutual
  operand_records_lem : (o : Operand) → records (operand_tree o) ≡ operand_records o
  operand_records_lem (term t) = refl
  operand_records_lem (negated o) = ap suc (operand_records_lem o)
  operand_records_lem (brackets p) = phrase_records p

  pub phrase_records : (p : Phrase) → records (tree_of p) ≡ record_count p
  phrase_records (one o) = operand_records_lem o
  phrase_records (two p and o) = ap₂ (λ a b. suc (a + b)) (phrase_records p) (operand_records_lem o)
  phrase_records (two p or o) = ap₂ (λ a b. suc (a + b)) (phrase_records p) (operand_records_lem o)

pub file_length : (link : ℕ) (p : Phrase) → length (file_of link p) ≡ 8 + 24 * record_count p
file_length link p = omega (arith, phrase_length p)

file_count : (link : ℕ) (p : Phrase) → count_of (file_of link p) ≡ record_count p
unfolding be
file_count link p = omega (arith, div-add-mod' (record_count p) 256)

pub file_header_lem : (link : ℕ) (p : Phrase) → header (file_of link p) ≡ link_of link
unfolding header be
file_header_lem link p = rw (le-ltb (length (file_of link p)) 8 (omega arith), zero-add link)

file_counted : (link : ℕ) (p : Phrase) → Within p → count (file_of link p) ≡ Ok (count_of (file_of link p))
unfolding count
file_counted link p h =
    rw (file_count link p, ne_eqb (record_count p) 0 (λ e. omega (arith, phrase_some p)), le-ltb 128 (record_count p) h.few, eq-eqb (length (file_of link p)) (8 + 24 * record_count p) (file_length link p))

file_stands : (link : ℕ) (p : Phrase) → Stands (file_of link p) (count_of (file_of link p)) 8 (tree_of p ∷ [])
unfolding nodes_at
file_stands link p =
    record {
      nodes = (moved (file_of link p) (record_count p + 0) (count_of (file_of link p)) 8 8 _ (omega (arith, file_count link p)) refl
          (phrase_has p (file_of link p) [] 0 8 [] (sym (append-nil (phrase_bytes p))) (record { nodes = refl }))).nodes;
    }

-- "it passes 1 to 4": it is a tree file with this link and the phrase's tree
pub passes : (link : ℕ) (l : LinkType) (p : Phrase) → link_of link ≡ Ok l → Within p → parse (file_of link p) ≡ Ok (record { link = l; tree = tree_of p })
passes link l p e h =
    parse_of (file_of link p) (record { link = l; tree = tree_of p })
    (record { head = file_header_lem link p ∙ e; number = file_counted link p h; tree = file_stands link p })

-- ---- what it says

module _ (L : LinkType) (f : List ℕ) where
  term_reads : (t : Term) → reads_primitive L f (term_leaf t) ≡ term_says L f t
  unfolding reads_primitive reads_proto ipv4
  term_reads (named icmp) = refl
  term_reads (bare sctp) = refl
  term_reads (hosts (Some dst) a) = refl
  term_reads (ports None (Some dst) k) = refl
  term_reads (ports (Some tcp) (Some dst) k) = refl
  term_reads (ports (Some udp) (Some dst) k) = refl
  term_reads (ports (Some sctp) (Some dst) k) = refl
  term_reads t = refl

  mutual
    unfolding reads

    operand_reads : (o : Operand) → reads L f (operand_tree o) ≡ operand_says L f o
    operand_reads (term t) = term_reads t
    operand_reads (negated o) = ap not (operand_reads o)
    operand_reads (brackets p) = phrase_reads p

    pub phrase_reads : (p : Phrase) → reads L f (tree_of p) ≡ says L f p
    phrase_reads (one o) = operand_reads o
    phrase_reads (two p and o) = ap₂ ◌&&◌ (phrase_reads p) (operand_reads o)
    phrase_reads (two p or o) = ap₂ ◌||◌ (phrase_reads p) (operand_reads o)

-- "read directly is true exactly on the frames where the line, read word by word by these rules, is"
pub file_says : (link : ℕ) (l : LinkType) (p : Phrase) (f : List ℕ) → link_of link ≡ Ok l → Within p → long_frame f ≡ false
    → direct (file_of link p) f ≡ Ok (says l f p)
unfolding direct
file_says link l p f e h k = rw (passes link l p e h, k, phrase_reads l f p)
