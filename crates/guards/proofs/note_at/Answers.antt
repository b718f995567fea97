use Rattle.std.proofs.Common.{arith, ap, ◌∙◌, Ok}
use Rattle.reader.proofs.Here.{here_and, here_or, here_leaf}
use Rattle.guards.proofs.Noting.{two_parts, other_join, right_within, right_offset, and_note, or_note, leaf_note}
use Rattle.guards.proofs.note_at.Goals as goal

pub bounds-notes-i : goal.bounds-notes-i
bounds-notes-i c = let p = two_parts c.requires.here c.node.ensures c.in-AndNode.is in let l = p.left in omega arith

pub offset_bounds-notes-left : goal.offset_bounds-notes-left
offset_bounds-notes-left c = right_offset c.requires (two_parts c.requires.here c.node.ensures c.in-AndNode.is) _

pub bounds-notes-left : goal.bounds-notes-left
bounds-notes-left c = right_within c.requires (two_parts c.requires.here c.node.ensures c.in-AndNode.is) _

pub returns-in-AndNode-join : goal.returns-in-AndNode-join
returns-in-AndNode-join c = and_note c.requires _ _ (here_and c.requires.here (c.node.ensures ∙ ap Ok c.in-AndNode-join.is)) c.union-guards.ensures

pub returns-in_default : goal.returns-in_default
returns-in_default c =
    let p = other_join c.in-AndNode.is c.in_default.not-AndNode in
    or_note c.requires _ _ (here_or c.requires.here (c.node.ensures ∙ ap Ok p)) c.intersect-guards.ensures

pub returns-in-LeafNode : goal.returns-in-LeafNode
returns-in-LeafNode c = leaf_note c.requires (here_leaf c.requires.here c.in-LeafNode.ensures) c.primitive_guards.ensures
