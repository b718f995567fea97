-- The refusals of a tree file are 1 to 4.
use Prim.Native.Nat.{ℕ, zero, suc, ◌+◌}
use mathlib.Core.List.{List, [], ◌∷◌}
use lib.Dec.{eqb}
use Rattle.error.specs.declared.Refusal.{Refusal}
use Rattle.error.specs.Answer.{Numbered}
use Rattle.error.proofs.All.{Turned, turned_bind, turned_cond}
use Rattle.bpf.specs.Bytes.{be}
use Rattle.ast.specs.Tree.{Expr}
use Rattle.ast.specs.declared.Node.{Node}
use Rattle.ast.specs.declared.Node.TheVariants.{AndNode, OrNode, NotNode}
use Rattle.ast.specs.Record.{Record, record_at, Kind, kinds, good, node_by, node_at}
use Rattle.ast.specs.File.{link_of, strange, header, wrong, count, nodes_at, grow, trees_of, only, parse}

abbrev pub early : List ℕ
early = 1 ∷ 2 ∷ 3 ∷ 4 ∷ []

abbrev pub Early : Refusal → Type 0
Early = Numbered early

link_turned : (b : ℕ) → Turned Early (link_of b)
link_turned (suc (suc (suc (suc n)))) = tt
link_turned b = tt

header_turned : (s : List ℕ) → Turned Early (header s)
unfolding header
header_turned s = turned_cond Early (strange s) _ _ tt (link_turned (be 1 5 s))

count_turned : (s : List ℕ) → Turned Early (count s)
unfolding count
count_turned s = turned_cond Early (wrong s) _ _ tt tt

node_turned : (ks : List Kind) (r : Record) → Turned Early (node_by ks r)
unfolding node_by
node_turned [] r = tt
node_turned (k ∷ ks) r =
    turned_cond Early (eqb r.kind k.number) _ _ (turned_cond Early (good k r) _ _ tt tt) (node_turned ks r)

nodes_turned : (n at : ℕ) (s : List ℕ) → Turned Early (nodes_at n at s)
unfolding nodes_at
nodes_turned zero at s = tt
nodes_turned (suc n) at s =
    turned_bind Early (node_at at s) _ (node_turned kinds (record_at at s)) (λ x. turned_bind Early (nodes_at n (at + 24) s) _ (nodes_turned n (at + 24) s) (λ xs. tt))

grow_turned : (x : Node) (ts : List Expr) → Turned Early (grow x ts)
unfolding grow
grow_turned AndNode (l ∷ r ∷ ts) = tt
grow_turned OrNode (l ∷ r ∷ ts) = tt
grow_turned NotNode (t ∷ ts) = tt
grow_turned x ts = tt

trees_turned : (xs : List Node) → Turned Early (trees_of xs)
unfolding trees_of
trees_turned [] = tt
trees_turned (x ∷ xs) = turned_bind Early (trees_of xs) (grow x) (trees_turned xs) (grow_turned x)

only_turned : (ts : List Expr) → Turned Early (only ts)
only_turned (t ∷ u ∷ ts) = tt
only_turned ts = tt

pub parse_turned : (s : List ℕ) → Turned Early (parse s)
unfolding parse
parse_turned s =
    turned_bind Early (header s) _ (header_turned s)
    (λ link. turned_bind Early (count s) _ (count_turned s)
    (λ n. turned_bind Early (nodes_at n 8 s) _ (nodes_turned n 8 s)
    (λ nodes. turned_bind Early (trees_of nodes) _ (trees_turned nodes)
    (λ trees. turned_bind Early (only trees) _ (only_turned trees) (λ tree. tt)))))
