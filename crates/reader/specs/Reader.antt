-- The tree that stands at a record of a tree file, as a recursion over the records meets it, and the answer of the checks.
use Rattle.std.specs.Prelude.{Ok, Err}
use Rattle.ast.specs.declared.LinkType.{LinkType}
use Rattle.std.specs.Prelude.{ℕ, ◌+◌, ◌*◌, ◌-◌, ◌≤◌, ◌<◌, ◌≡◌, List, [], ◌∷◌, length}
use Rattle.error.specs.Answer.{Out, ◌>>=◌}
use Rattle.ast.specs.declared.Primitive.TheVariants.{EtherMulticast}
use Rattle.ast.specs.Tree.{Expr, Leaf, records}
use Rattle.ast.specs.File.{count_of, nodes_at, trees_of, Filter}

-- where record i starts
abbrev pub place : ℕ → ℕ
place i = 8 + 24 * i

-- the trees of the records from i on
unfoldable pub forest : List ℕ → ℕ → Out (List Expr)
forest s i = nodes_at (count_of s - i) (place i) s >>= trees_of

-- the first of them; some tree where there is none
abbrev pub first_of : Out (List Expr) → Expr
first_of (Err r) = Leaf EtherMulticast
first_of (Ok []) = Leaf EtherMulticast
first_of (Ok (t ∷ ts)) = t

unfoldable pub tree_of : List ℕ → ℕ → Expr
tree_of s i = first_of (forest s i)

-- the record after that tree
unfoldable pub end_of : List ℕ → ℕ → ℕ
end_of s i = i + records (tree_of s i)

-- a tree stands at record i
pub record Here (s : List ℕ) (i : ℕ) : Type 0 where
  pub within : i < count_of s
  pub most : count_of s ≤ 128
  pub whole : length s ≡ 8 + 24 * count_of s
  pub ends : end_of s i ≤ count_of s
  pub later : i < end_of s i
  pub rest : List Expr
  pub stands : forest s i ≡ Ok (tree_of s i ∷ rest)

-- the answer of the checks: a file's link, or its refusal
abbrev pub checked : Out Filter → Out LinkType
checked (Err r) = Err r
checked (Ok f) = Ok f.link
