-- The records of a file as a walk over them meets them: a tree, its parts, and what follows it.
use Rattle.std.specs.Prelude.{Ok, Err}
use Prim.Native.Nat.{ℕ, zero, suc, ◌+◌, ◌*◌, ◌-◌, ◌≤◌}
use mathlib.Core.Path.{◌≡◌, refl, sym, ap, ap₂, ◌∙◌}
use mathlib.Core.List.{List, [], ◌∷◌, ◌++◌, append_assoc}
use native.Mathlib.Omega.{arith}
use lib.ListN.{length}
use lib.Dec.{eqb, ltb}
use borrow.Author.Tests.{ltb-false, eqb-true, eqb-false, not-false}
use Rattle.error.specs.Answer.{Out, ◌>>=◌}
use Rattle.error.proofs.All.{All, all_bind, all_cond}
use Rattle.std.proofs.lemmas.Bool.{or_parts}
use Rattle.ast.specs.declared.LinkType.{LinkType}
use Rattle.ast.specs.Tree.{Expr, Leaf, And, Or, Not, records}
use Rattle.ast.specs.declared.Node.{Node}
use Rattle.ast.specs.declared.Node.TheVariants.{AndNode, OrNode, NotNode, LeafNode}
use Rattle.ast.specs.Record.{node_at}
use Rattle.ast.specs.File.{header, count_of, wrong, count, nodes_at, trees_of, only, Filter, parse}
use Rattle.ast.proofs.Prefix.{prefix, prefixes, prefix_length, prefixes_of, trees_prefixes}

-- the node of a tree, and its parts before the trees that follow
abbrev pub node : Expr → Node
node (Leaf p) = LeafNode p
node (And l r) = AndNode
node (Or l r) = OrNode
node (Not t) = NotNode

abbrev pub parts : Expr → List Expr → List Expr
parts (Leaf p) ts = ts
parts (And l r) ts = l ∷ r ∷ ts
parts (Or l r) ts = l ∷ r ∷ ts
parts (Not t) ts = t ∷ ts

pub prefixes_first : (t : Expr) (ts : List Expr) → prefixes (t ∷ ts) ≡ node t ∷ prefixes (parts t ts)
prefixes_first (Leaf p) ts = refl
prefixes_first (And l r) ts = rw append_assoc
prefixes_first (Or l r) ts = rw append_assoc
prefixes_first (Not t) ts = refl

-- the n records at a place are good, and make the trees ts
pub record Stands (s : List ℕ) (n at : ℕ) (ts : List Expr) : Type 0 where
  pub nodes : nodes_at n at s ≡ Ok (prefixes ts)

pub stands : (s : List ℕ) (n at : ℕ) (ns : List Node) (ts : List Expr) → nodes_at n at s ≡ Ok ns → trees_of ns ≡ Ok ts → Stands s n at ts
stands s n at ns ts e h = record { nodes = e ∙ ap Ok (prefixes_of ns ts h) }

-- ---- lists of nodes

both_done : (o : Out Node) (p : Out (List Node)) (y : Node) (ys : List Node) → (o >>= λ x. p >>= λ xs. Ok (x ∷ xs)) ≡ Ok (y ∷ ys) → (o ≡ Ok y) × (p ≡ Ok ys)
both_done (Err r) p y ys e = cc
both_done (Ok x) (Err r) y ys e = cc
both_done (Ok x) (Ok xs) y ys e = (cc, cc)

same_nodes : (s : List ℕ) (m n a b : ℕ) → m ≡ n → a ≡ b → nodes_at m a s ≡ nodes_at n b s
same_nodes s m n a b p q = ap₂ (λ k c. nodes_at k c s) p q

nodes_first : (s : List ℕ) (n at : ℕ) (x : Node) (xs : List Node) → nodes_at n at s ≡ Ok (x ∷ xs)
    → (1 ≤ n) × (node_at at s ≡ Ok x) × (nodes_at (n - 1) (at + 24) s ≡ Ok xs)
unfolding nodes_at
nodes_first s zero at x xs e = cc
nodes_first s (suc n) at x xs e =
    let k = both_done (node_at at s) (nodes_at n (at + 24) s) x xs e in
    (omega arith, k.0, same_nodes s (suc n - 1) n (at + 24) (at + 24) (omega arith) refl ∙ k.1)

nodes_after : (xs ys : List Node) (s : List ℕ) (n at : ℕ) → nodes_at n at s ≡ Ok (xs ++ ys)
    → (length xs ≤ n) × (nodes_at (n - length xs) (at + 24 * length xs) s ≡ Ok ys)
nodes_after [] ys s n at e = (omega arith, same_nodes s (n - 0) n (at + 24 * 0) at (omega arith) (omega arith) ∙ e)
nodes_after (x ∷ xs) ys s n at e =
    let f = nodes_first s n at x (xs ++ ys) e in
    let k = nodes_after xs ys s (n - 1) (at + 24) f.2 in (
      omega arith,
      same_nodes s (n - suc (length xs)) (n - 1 - length xs) (at + 24 * suc (length xs)) (at + 24 + 24 * length xs) (omega arith) (omega arith) ∙ k.1,
    )

known : {A B : Type 0} (r : B → Type 0) (o : Out A) (k : A → Out B) → ((a : A) → o ≡ Ok a → All r (k a)) → All r (o >>= k)
known r (Err n) k h = tt
known r (Ok a) k h = h a refl

all_length : (s : List ℕ) (n at : ℕ) → All (λ ns. length ns ≡ n) (nodes_at n at s)
unfolding nodes_at
all_length s zero at = refl
all_length s (suc n) at =
    known _ (node_at at s) _
    (λ x e. all_bind (λ ns. length ns ≡ n) _ (nodes_at n (at + 24) s) _ (all_length s n (at + 24)) (λ ns h. ap suc h))

-- ---- the walk

-- no record is left after the last tree
pub stands_none : {s : List ℕ} {n at : ℕ} → Stands s n at [] → n ≡ 0
stands_none {s} {n} {at} h = sym (rw h.nodes at (all_length s n at))

module _ {s : List ℕ} {n at : ℕ} {t : Expr} {ts : List Expr} where
  -- where a tree stands: its record, and its parts after that
  pub stands_first : Stands s n at (t ∷ ts) → (1 ≤ n) × (node_at at s ≡ Ok (node t)) × Stands s (n - 1) (at + 24) (parts t ts)
  stands_first h =
      let k = nodes_first s n at (node t) (prefixes (parts t ts)) (h.nodes ∙ ap Ok (prefixes_first t ts)) in
      (k.0, k.1, record { nodes = k.2 })

  -- what follows a tree
  pub stands_rest : Stands s n at (t ∷ ts) → (records t ≤ n) × Stands s (n - records t) (at + 24 * records t) ts
  stands_rest h =
      rw (← prefix_length t)
      (let k = nodes_after (prefix t) (prefixes ts) s n at h.nodes in
      (k.0, record { nodes = k.1 }))

-- ---- a file

-- the count of a file that is not refused by it
pub record Counted (s : List ℕ) (n : ℕ) : Type 0 where
  pub here : n ≡ count_of s
  pub least : 1 ≤ n
  pub most : n ≤ 128
  pub whole : length s ≡ 8 + 24 * n

all_counted : (s : List ℕ) → All (Counted s) (count s)
unfolding count
all_counted s =
    all_cond (Counted s) (wrong s) _ (Ok (count_of s)) (λ e. tt) (λ e.
    let p = or_parts (eqb (count_of s) 0) _ e in
    let q = or_parts (ltb 128 (count_of s)) _ p.1 in
    let some = eqb-false (count_of s) 0 p.0 in
    record { here = refl; least = omega arith; most = ltb-false _ _ q.0; whole = eqb-true _ _ (not-false _ q.1) })

pub counted : (s : List ℕ) (n : ℕ) → count s ≡ Ok n → Counted s n
counted s n e = rw e at (all_counted s)

-- what a file that is not refused holds
pub record Parsed (s : List ℕ) (f : Filter) : Type 0 where
  pub head : header s ≡ Ok f.link
  pub number : count s ≡ Ok (count_of s)
  pub tree : Stands s (count_of s) 8 (f.tree ∷ [])

all_only : (s : List ℕ) (l : LinkType) → header s ≡ Ok l → count s ≡ Ok (count_of s) → (ts : List Expr) → Stands s (count_of s) 8 ts
    → All (Parsed s) (only ts >>= λ t. Ok (record { link = l; tree = t }))
all_only s l h c [] k = tt
all_only s l h c (t ∷ []) k = record { head = h; number = c; tree = k }
all_only s l h c (t ∷ u ∷ ts) k = tt

all_parsed : (s : List ℕ) → All (Parsed s) (parse s)
unfolding parse
all_parsed s =
    known (Parsed s) (header s) _ (λ l h.
    known (Parsed s) (count s) _ (λ n c.
    known (Parsed s) (nodes_at n 8 s) _ (λ ns e.
    known (Parsed s) (trees_of ns) _ (λ ts g.
    let same : n ≡ count_of s = (counted s n c).here in
    all_only s l h (rw same at c) ts (rw same at (stands s n 8 ns ts e g))))))

pub parsed : (s : List ℕ) (f : Filter) → parse s ≡ Ok f → Parsed s f
parsed s f e = rw e at (all_parsed s)

pub parse_stands : (s : List ℕ) (f : Filter) → parse s ≡ Ok f → Stands s (count_of s) 8 (f.tree ∷ [])
parse_stands s f e = (parsed s f e).tree

pub parse_records : (s : List ℕ) (f : Filter) → parse s ≡ Ok f → records f.tree ≡ count_of s
parse_records s f e = let k = stands_rest (parse_stands s f e) in omega (arith, k.0, stands_none k.1)

-- and back
pub parse_of : (s : List ℕ) (f : Filter) → Parsed s f → parse s ≡ Ok f
unfolding parse
parse_of s f h = rw (h.head, h.number, h.tree.nodes, trees_prefixes (f.tree ∷ []))
