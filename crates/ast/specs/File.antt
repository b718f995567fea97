-- The tree file: checks 1, 2, 3, 4 "in that order over the whole file", and the link and the tree of a file that passes them.
use Rattle.std.specs.Prelude.{Ok, Err}
use Rattle.std.specs.Prelude.{ℕ, zero, suc, ◌+◌, ◌*◌, List, [], ◌∷◌, Bool, cond, not, ◌||◌, length, get_or, eqb, ltb}
use Rattle.error.specs.declared.Refusal.TheVariants.{StrangeFile, WrongCount, NotOneTree}
use Rattle.error.specs.Answer.{Out, ◌>>=◌}
use Rattle.bpf.specs.Bytes.{be}
use Rattle.ast.specs.declared.LinkType.{LinkType}
use Rattle.ast.specs.declared.LinkType.TheVariants.{Ethernet, RawIp, LinuxSll}
use Rattle.ast.specs.Tree.{Expr, Leaf, And, Or, Not}
use Rattle.ast.specs.declared.Node.{Node}
use Rattle.ast.specs.declared.Node.TheVariants.{AndNode, OrNode, NotNode, LeafNode}
use Rattle.ast.specs.Record.{node_at}

-- "a link byte (1 Ethernet, 2 RawIp, 3 LinuxSll)"
abbrev pub link_of : ℕ → Out LinkType
link_of b = get_or (Err StrangeFile ∷ Ok Ethernet ∷ Ok RawIp ∷ Ok LinuxSll ∷ []) b (Err StrangeFile)

-- number 1, "under 8 bytes, or mark, version or link differs": the three letters `PFT`, a 16-bit version 1, a link byte
abbrev pub strange : List ℕ → Bool
strange s = ltb (length s) 8 || (not (eqb (be 3 0 s) 0x504654) || not (eqb (be 2 3 s) 1))

unfoldable pub header : List ℕ → Out LinkType
header s = cond (strange s) (Err StrangeFile) (link_of (be 1 5 s))

-- "a 16-bit record count"
abbrev pub count_of : List ℕ → ℕ
count_of s = be 2 6 s

-- number 2, "count 0 or over 128, or length not 8 + 24 × count"
abbrev pub wrong : List ℕ → Bool
wrong s = eqb (count_of s) 0 || (ltb 128 (count_of s) || not (eqb (length s) (8 + 24 * count_of s)))

unfoldable pub count : List ℕ → Out ℕ
count s = cond (wrong s) (Err WrongCount) (Ok (count_of s))

-- number 3 over n records from a place on, or their nodes
unfoldable pub nodes_at : ℕ → ℕ → List ℕ → Out (List Node)
nodes_at zero at s = Ok []
nodes_at (suc n) at s = do
  x ← node_at at s
  xs ← nodes_at n (at + 24) s
  Ok (x ∷ xs)

-- a node put before the trees that follow it takes its parts from them: "a node, its left part, its right part"
unfoldable pub grow : Node → List Expr → Out (List Expr)
grow AndNode [] = Err NotOneTree
grow AndNode (l ∷ []) = Err NotOneTree
grow AndNode (l ∷ r ∷ ts) = Ok (And l r ∷ ts)
grow OrNode [] = Err NotOneTree
grow OrNode (l ∷ []) = Err NotOneTree
grow OrNode (l ∷ r ∷ ts) = Ok (Or l r ∷ ts)
grow NotNode [] = Err NotOneTree
grow NotNode (t ∷ ts) = Ok (Not t ∷ ts)
grow (LeafNode p) ts = Ok (Leaf p ∷ ts)

-- the trees that nodes in prefix order make, in their order; a node that lacks a part is refused
unfoldable pub trees_of : List Node → Out (List Expr)
trees_of [] = Ok []
trees_of (x ∷ xs) = trees_of xs >>= grow x

-- number 4, "prefix reading doesn't end exactly at the last record"
abbrev pub only : List Expr → Out Expr
only [] = Err NotOneTree
only (t ∷ []) = Ok t
only (t ∷ u ∷ ts) = Err NotOneTree

pub record Filter : Type 0 where
  pub link : LinkType
  pub tree : Expr

-- a tree file's link and tree, or the first of 1, 2, 3, 4 that it meets
unfoldable pub parse : List ℕ → Out Filter
parse s = do
  link ← header s
  n ← count s
  nodes ← nodes_at n 8 s
  trees ← trees_of nodes
  tree ← only trees
  Ok (record { link = link; tree = tree })
