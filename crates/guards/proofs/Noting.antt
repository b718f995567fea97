-- The note of a record from those of the records after it.
use Prim.Native.Nat.{ℕ, ◌+◌, ◌*◌, ◌<◌}
use mathlib.Core.Path.{◌≡◌, ap, ◌∙◌}
use mathlib.Core.Logic.{◌⊎◌, inl, inr}
use mathlib.Core.List.{List}
use native.Mathlib.Omega.{arith}
use Rattle.std.proofs.Common.{Fits, w64, Ok}
use lib.ListN.{length, get_or}
use Rattle.ast.specs.declared.Node.{Node}
use Rattle.ast.specs.declared.Node.TheVariants.{AndNode, OrNode, NotNode, LeafNode}
use Rattle.ast.specs.declared.Primitive.{Primitive}
use Rattle.ast.specs.Record.{node_at}
use Rattle.ast.specs.Tree.{Expr, And, Or}
use Rattle.ast.specs.File.{count_of}
use Rattle.codegen.specs.declared.GuardSet.{GuardSet}
use Rattle.codegen.specs.Facts.{no_guards, union, intersect}
use Rattle.codegen.specs.Guards.{primitive_guards, required_guards}
use Rattle.reader.specs.Reader.{place, end_of, Here}
use Rattle.reader.proofs.Here.{TwoParts, OnePart, NoPart, here_and, here_or}
use Rattle.guards.specs.declared.Note.{Note}
use Rattle.guards.specs.Notes.{note_of, Next}

-- ---- a join

abbrev join_of : Node → Expr → Expr → Expr
join_of OrNode = Or
join_of AndNode = And
join_of NotNode = And
join_of (LeafNode p) = And

pub two_parts : {s : List ℕ} {i : ℕ} {n : Node} → Here s i → node_at (place i) s ≡ Ok n → (n ≡ AndNode) ⊎ (n ≡ OrNode) → TwoParts (join_of n) s i
two_parts h e (inl p) = rw p (here_and h (e ∙ ap Ok p))
two_parts h e (inr p) = rw p (here_or h (e ∙ ap Ok p))

pub other_join : {n : Node} → (n ≡ AndNode) ⊎ (n ≡ OrNode) → (n ≡ AndNode → ⊥) → n ≡ OrNode
other_join (inl p) h = absurd (h p)
other_join (inr p) h = p

-- ---- notes

abbrev made : GuardSet → ℕ → Note
made g e = record { guards = g; end = e }

module _ {s : List ℕ} {M : List Note} {i : ℕ} (q : Next s M i) where
  after : (j : ℕ) (d : Note) → i < j → j < count_of s → get_or M j d ≡ note_of s j
  after j d a b = q.noted.note j d (omega arith) b

  module _ {join : Expr → Expr → Expr} (p : TwoParts join s i) where
    left : (d : Note) → get_or M (i + 1) d ≡ note_of s (i + 1)
    left d = let l = p.left in after (i + 1) d (omega arith) l.within

    -- where the right part's note lies: its offset is that many notes of 48 bytes
    pub right_within : (d : Note) → (get_or M (i + 1) d).end < length M
    right_within d = let r = p.right in rw (left d) (omega arith)

    pub right_offset : (d : Note) → Fits w64 ((get_or M (i + 1) d).end * 48)
    right_offset d = let r = p.right in rw (left d) (omega arith)

    right : (d e : Note) → get_or M (get_or M (i + 1) d).end e ≡ note_of s (end_of s (i + 1))
    right d e = let l = p.left in let r = p.right in rw (left d) (after (end_of s (i + 1)) e (omega arith) r.within)

  module _ (d e : Note) {g : GuardSet} where
    pub and_note : TwoParts And s i → g ≡ union (get_or M (i + 1) d).guards (get_or M (get_or M (i + 1) d).end e).guards
        → made g (get_or M (get_or M (i + 1) d).end e).end ≡ note_of s i
    unfolding required_guards
    and_note p h = rw (h, right p d e, left p d, p.tree, p.end)

    pub or_note : TwoParts Or s i → g ≡ intersect (get_or M (i + 1) d).guards (get_or M (get_or M (i + 1) d).end e).guards
        → made g (get_or M (get_or M (i + 1) d).end e).end ≡ note_of s i
    unfolding required_guards
    or_note p h = rw (h, right p d e, left p d, p.tree, p.end)

  pub not_note : (d : Note) {g : GuardSet} → OnePart s i → g ≡ no_guards → made g (get_or M (i + 1) d).end ≡ note_of s i
  unfolding required_guards
  not_note d p h = let l = p.part in rw (h, after (i + 1) d (omega arith) l.within, p.tree, p.end)

  pub leaf_note : {k : Primitive} {g : GuardSet} → NoPart k s i → g ≡ primitive_guards k → made g (i + 1) ≡ note_of s i
  unfolding required_guards
  leaf_note p h = rw (h, p.tree, p.end)
