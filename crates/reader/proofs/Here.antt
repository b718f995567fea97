-- A tree that stands at a record: its parts stand at the records after it.
use Rattle.std.specs.Prelude.{Ok, Err}
use Prim.Native.Nat.{ℕ, zero, suc, ◌+◌, ◌*◌, ◌-◌, ◌≤◌, ◌<◌}
use mathlib.Core.Path.{◌≡◌, refl, sym, ap, ap₂, ◌∙◌, subst}
use mathlib.Core.List.{List, [], ◌∷◌}
use native.Mathlib.Omega.{arith}
use lib.ListN.{length}
use Rattle.error.specs.Answer.{Out, ◌>>=◌}
use Rattle.ast.specs.Tree.{Expr, Leaf, And, Or, Not, records}
use Rattle.ast.specs.declared.Node.{Node}
use Rattle.ast.specs.declared.Node.TheVariants.{AndNode, OrNode, NotNode, LeafNode}
use Rattle.ast.specs.declared.Primitive.{Primitive}
use Rattle.ast.specs.Record.{node_at}
use Rattle.ast.specs.File.{count_of, nodes_at, trees_of}
use Rattle.ast.proofs.Prefix.{prefixes, prefixes_of, trees_prefixes}
use Rattle.ast.proofs.Walk.{node, parts, Stands, stands_none, stands_first, stands_rest}
use Rattle.reader.specs.Reader.{place, forest, tree_of, end_of, Here}

pub record TwoParts (join : Expr → Expr → Expr) (s : List ℕ) (i : ℕ) : Type 0 where
  pub tree : tree_of s i ≡ join (tree_of s (i + 1)) (tree_of s (end_of s (i + 1)))
  pub end : end_of s i ≡ end_of s (end_of s (i + 1))
  pub left : Here s (i + 1)
  pub right : Here s (end_of s (i + 1))

pub record OnePart (s : List ℕ) (i : ℕ) : Type 0 where
  pub tree : tree_of s i ≡ Not (tree_of s (i + 1))
  pub end : end_of s i ≡ end_of s (i + 1)
  pub part : Here s (i + 1)

pub record NoPart (p : Primitive) (s : List ℕ) (i : ℕ) : Type 0 where
  pub tree : tree_of s i ≡ Leaf p
  pub end : end_of s i ≡ i + 1

-- ---- the trees from a record on

-- the records from i on make the trees ts
pub record From (s : List ℕ) (i : ℕ) (ts : List Expr) : Type 0 where
  pub most : count_of s ≤ 128
  pub whole : length s ≡ 8 + 24 * count_of s
  pub last : i ≤ count_of s
  pub stands : Stands s (count_of s - i) (place i) ts

positive : (t : Expr) → 1 ≤ records t
positive (Leaf p) = omega arith
positive (And l r) = omega arith
positive (Or l r) = omega arith
positive (Not t) = omega arith

pub restand : {s : List ℕ} {n m at to : ℕ} {ts : List Expr} → n ≡ m → at ≡ to → Stands s n at ts → Stands s m to ts
restand {s} p q h = record { nodes = ap₂ (λ k a. nodes_at k a s) (sym p) (sym q) ∙ h.nodes }

module _ {s : List ℕ} {i : ℕ} {ts : List Expr} where
  from_forest : From s i ts → forest s i ≡ Ok ts
  unfolding forest
  from_forest h = rw (h.stands.nodes, trees_prefixes ts)

module _ {s : List ℕ} {i : ℕ} {t : Expr} {ts : List Expr} where
  pub from_tree : From s i (t ∷ ts) → tree_of s i ≡ t
  unfolding tree_of
  from_tree h = rw (from_forest h)

  pub from_end : From s i (t ∷ ts) → end_of s i ≡ i + records t
  unfolding end_of
  from_end h = ap (λ u. i + records u) (from_tree h)

  from_node : From s i (t ∷ ts) → node_at (place i) s ≡ Ok (node t)
  from_node h = (stands_first h.stands).1

  -- the parts, and what follows the tree
  from_first : From s i (t ∷ ts) → From s (i + 1) (parts t ts)
  from_first h =
      let k = stands_first h.stands in
      record { most = h.most; whole = h.whole; last = omega (arith, k.0, h.last); stands = restand (omega arith) (omega arith) k.2 }

  from_rest : From s i (t ∷ ts) → From s (end_of s i) ts
  from_rest h =
      let k = stands_rest h.stands in
      rw (from_end h)
      (record { most = h.most; whole = h.whole; last = omega (arith, k.0, h.last); stands = restand (omega arith) (omega arith) k.1 })

  pub from_here : From s i (t ∷ ts) → Here s i
  from_here h =
      let k = stands_rest h.stands in
      record {
        within = omega (arith, (stands_first h.stands).0);
        most = h.most;
        whole = h.whole;
        ends = omega (arith, k.0, from_end h, h.last);
        later = omega (arith, positive t, from_end h);
        rest = ts;
        stands = from_forest h ∙ ap (λ u. Ok (u ∷ ts)) (sym (from_tree h));
      }

read : (o : Out (List Node)) (ts : List Expr) → (o >>= trees_of) ≡ Ok ts → o ≡ Ok (prefixes ts)
read (Err r) ts e = cc
read (Ok ns) ts e = ap Ok (prefixes_of ns ts e)

module _ {s : List ℕ} {i : ℕ} where
  here_from : (h : Here s i) → From s i (tree_of s i ∷ h.rest)
  unfolding forest
  here_from h =
      record { most = h.most; whole = h.whole; last = omega arith; stands = record { nodes = read (nodes_at (count_of s - i) (place i) s) (tree_of s i ∷ h.rest) h.stands } }

-- where a tree stands at the first record, one stands at each
first_here : {s : List ℕ} {i : ℕ} (ts : List Expr) → From s i ts → i < count_of s → Here s i
first_here [] k l = absurd (omega (arith, stands_none k.stands))
first_here (t ∷ ts) k l = from_here k

pub here_each : {s : List ℕ} (i : ℕ) → Here s 0 → i < count_of s → Here s i
here_each zero h l = h
here_each {s} (suc i) h l =
    let k = here_each i h (omega arith) in
    let e : i + 1 ≡ suc i = omega arith in
    subst (Here s) e (first_here (parts (tree_of s i) k.rest) (from_first (here_from k)) (omega arith))

-- ---- by the node of a record

module _ {s : List ℕ} {i : ℕ} {ts : List Expr} where
  two_parts : (join : Expr → Expr → Expr) {l r : Expr} → (records (join l r) ≡ suc (records l + records r))
      → From s i (join l r ∷ ts) → From s (i + 1) (l ∷ r ∷ ts) → TwoParts join s i
  two_parts join {l} {r} size h k =
      let q = from_rest k in
      record {
        tree = from_tree h ∙ ap₂ join (sym (from_tree k)) (sym (from_tree q));
        end = omega (arith, from_end h, from_end k, from_end q, size);
        left = from_here k;
        right = from_here q;
      }

  tree_and : (t : Expr) → From s i (t ∷ ts) → node t ≡ AndNode → TwoParts And s i
  tree_and (Leaf p) h e = cc
  tree_and (And l r) h e = two_parts And refl h (from_first h)
  tree_and (Or l r) h e = cc
  tree_and (Not t) h e = cc

  tree_or : (t : Expr) → From s i (t ∷ ts) → node t ≡ OrNode → TwoParts Or s i
  tree_or (Leaf p) h e = cc
  tree_or (And l r) h e = cc
  tree_or (Or l r) h e = two_parts Or refl h (from_first h)
  tree_or (Not t) h e = cc

  tree_not : (t : Expr) → From s i (t ∷ ts) → node t ≡ NotNode → OnePart s i
  tree_not (Leaf p) h e = cc
  tree_not (And l r) h e = cc
  tree_not (Or l r) h e = cc
  tree_not (Not t) h e =
      let k = from_first h in
      record { tree = from_tree h ∙ ap Not (sym (from_tree k)); end = omega (arith, from_end h, from_end k); part = from_here k }

  tree_leaf : (t : Expr) {p : Primitive} → From s i (t ∷ ts) → node t ≡ LeafNode p → NoPart p s i
  tree_leaf (Leaf p) h e = record { tree = from_tree h ∙ ap Leaf cc; end = from_end h }
  tree_leaf (And l r) h e = cc
  tree_leaf (Or l r) h e = cc
  tree_leaf (Not t) h e = cc

module _ {s : List ℕ} {i : ℕ} (h : Here s i) where
  -- the node of the tree's record
  pub here_node : node_at (place i) s ≡ Ok (node (tree_of s i))
  here_node = from_node (here_from h)

  same_node : {x : Node} → node_at (place i) s ≡ Ok x → node (tree_of s i) ≡ x
  same_node e = let n = here_node in cc

  pub here_and : node_at (place i) s ≡ Ok AndNode → TwoParts And s i
  here_and e = tree_and (tree_of s i) (here_from h) (same_node e)

  pub here_or : node_at (place i) s ≡ Ok OrNode → TwoParts Or s i
  here_or e = tree_or (tree_of s i) (here_from h) (same_node e)

  pub here_not : node_at (place i) s ≡ Ok NotNode → OnePart s i
  here_not e = tree_not (tree_of s i) (here_from h) (same_node e)

  pub here_leaf : {p : Primitive} → node_at (place i) s ≡ Ok (LeafNode p) → NoPart p s i
  here_leaf e = tree_leaf (tree_of s i) (here_from h) (same_node e)
