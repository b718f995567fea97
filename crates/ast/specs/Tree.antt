-- The filter tree: ast.rs `Expr`, as far as a tree file can name it. A tree lies in its file: the code has no value for a whole one.
use Rattle.std.specs.Prelude.{ℕ, suc, ◌+◌}
use Rattle.ast.specs.declared.Primitive.{Primitive}

pub data Expr : Type 0 where
  Leaf : Primitive → Expr
  And Or : Expr → Expr → Expr
  Not : Expr → Expr

-- how many records a tree has in a file
abbrev pub records : Expr → ℕ
records (Leaf p) = 1
records (And l r) = suc (records l + records r)
records (Or l r) = suc (records l + records r)
records (Not t) = suc (records t)
