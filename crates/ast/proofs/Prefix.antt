-- The prefix order said directly, "a node, its left part, its right part", and that `trees_of` reads exactly this order.
use Rattle.std.specs.Prelude.{Ok}
use mathlib.Core.Logic.{◌↔◌}
use mathlib.Core.Path.{◌≡◌, refl, ap, ◌∙◌}
use mathlib.Core.List.{List, [], ◌∷◌, ◌++◌, append_assoc, append-nil}
use native.Mathlib.Omega.{arith}
use lib.ListN.{length, length-append}
use Rattle.error.specs.Answer.{◌>>=◌}
use Rattle.error.proofs.All.{All, all_bind}
use Rattle.ast.specs.Tree.{Expr, Leaf, And, Or, Not, records}
use Rattle.ast.specs.declared.Node.{Node}
use Rattle.ast.specs.declared.Node.TheVariants.{AndNode, OrNode, NotNode, LeafNode}
use Rattle.ast.specs.File.{grow, trees_of, only}

abbrev pub prefix : Expr → List Node
prefix (Leaf p) = LeafNode p ∷ []
prefix (And l r) = AndNode ∷ (prefix l ++ prefix r)
prefix (Or l r) = OrNode ∷ (prefix l ++ prefix r)
prefix (Not t) = NotNode ∷ prefix t

abbrev pub prefixes : List Expr → List Node
prefixes [] = []
prefixes (t ∷ ts) = prefix t ++ prefixes ts

pub prefix_length : (t : Expr) → length (prefix t) ≡ records t
prefix_length (Leaf p) = refl
prefix_length (And l r) = omega (arith, length-append (prefix l) (prefix r), prefix_length l, prefix_length r)
prefix_length (Or l r) = omega (arith, length-append (prefix l) (prefix r), prefix_length l, prefix_length r)
prefix_length (Not t) = omega (arith, prefix_length t)

-- ---- nodes in prefix order are read as their trees

before : (x : Node) (ns : List Node) (us ts : List Expr) → trees_of ns ≡ Ok us → grow x us ≡ Ok ts → trees_of (x ∷ ns) ≡ Ok ts
unfolding trees_of
before x ns us ts e g = rw (e, g)

prefix_before : (t : Expr) (ns : List Node) (ts : List Expr) → trees_of ns ≡ Ok ts → trees_of (prefix t ++ ns) ≡ Ok (t ∷ ts)
unfolding grow
prefix_before (Leaf p) ns ts e = before (LeafNode p) ns ts (Leaf p ∷ ts) e refl
prefix_before (And l r) ns ts e =
    before AndNode (prefix l ++ prefix r ++ ns) (l ∷ r ∷ ts) (And l r ∷ ts)
    (ap trees_of (append_assoc (prefix l) (prefix r) ns) ∙ prefix_before l (prefix r ++ ns) (r ∷ ts) (prefix_before r ns ts e)) refl
prefix_before (Or l r) ns ts e =
    before OrNode (prefix l ++ prefix r ++ ns) (l ∷ r ∷ ts) (Or l r ∷ ts)
    (ap trees_of (append_assoc (prefix l) (prefix r) ns) ∙ prefix_before l (prefix r ++ ns) (r ∷ ts) (prefix_before r ns ts e)) refl
prefix_before (Not t) ns ts e = before NotNode (prefix t ++ ns) (t ∷ ts) (Not t ∷ ts) (prefix_before t ns ts e) refl

pub trees_prefixes : (ts : List Expr) → trees_of (prefixes ts) ≡ Ok ts
unfolding trees_of
trees_prefixes [] = refl
trees_prefixes (t ∷ ts) = prefix_before t (prefixes ts) ts (trees_prefixes ts)

-- ---- nodes that are read as trees stand in their prefix order

grow_prefixes : (x : Node) (us : List Expr) (xs : List Node) → xs ≡ prefixes us → All (λ ts. x ∷ xs ≡ prefixes ts) (grow x us)
unfolding grow
grow_prefixes AndNode (l ∷ r ∷ us) xs h = rw (append_assoc, h)
grow_prefixes OrNode (l ∷ r ∷ us) xs h = rw (append_assoc, h)
grow_prefixes NotNode (t ∷ us) xs h = rw h
grow_prefixes (LeafNode p) us xs h = rw h
grow_prefixes x us xs h = tt

all_prefixes : (ns : List Node) → All (λ ts. ns ≡ prefixes ts) (trees_of ns)
unfolding trees_of
all_prefixes [] = refl
all_prefixes (x ∷ xs) = all_bind (λ us. xs ≡ prefixes us) (λ ts. x ∷ xs ≡ prefixes ts) (trees_of xs) (grow x) (all_prefixes xs) (λ us h. grow_prefixes x us xs h)

pub prefixes_of : (ns : List Node) (ts : List Expr) → trees_of ns ≡ Ok ts → ns ≡ prefixes ts
prefixes_of ns ts e = rw e at (all_prefixes ns)

-- ---- one tree

only_prefix : (ns : List Node) (ts : List Expr) → ns ≡ prefixes ts → All (λ t. ns ≡ prefix t) (only ts)
only_prefix ns (t ∷ []) h = h ∙ append-nil (prefix t)
only_prefix ns ts h = tt

-- a file's nodes are one tree exactly when they are its prefix order
pub one_tree : (ns : List Node) (t : Expr) → (trees_of ns >>= only ≡ Ok t) ↔ (ns ≡ prefix t)
one_tree ns t = (
  λ e. rw e at (all_bind (λ ts. ns ≡ prefixes ts) (λ u. ns ≡ prefix u) (trees_of ns) only (all_prefixes ns) (λ ts h. only_prefix ns ts h)),
  λ e. rw (e, ← append-nil (prefix t), trees_prefixes (t ∷ [])),
)
