use Rattle.std.proofs.Common.{Ok, ◌+◌, ◌∙◌, ap, refl, length, ◌≤◌, arith}
use Rattle.codegen.specs.declared.Side.TheVariants.{Success, Failure}
use Rattle.codegen.specs.Block.{settle}
use Rattle.codegen.specs.Guards.{required_guards}
use Rattle.codegen.specs.Emit.{emit}
use Rattle.codegen.proofs.Semantics.{length_settle}
use Rattle.codegen.proofs.Shape.{weight}
use Rattle.emit.proofs.Grow.{sized, room_left, room_out}
use Rattle.emit.proofs.Settling.{settled, otherwise_size, turned_kept}
use Rattle.emit.proofs.Outcome.{reply_done, reply_refused, handed_on, bind_refused, turned_down}
use Rattle.emit.proofs.Joins.{settled_near, settled_then, settled_refused}
use Rattle.reader.specs.Reader.{tree_of, end_of}
use Rattle.reader.proofs.Here.{here_and, here_or, here_not, here_leaf}
use Rattle.compile.proofs.Walked.{and_left, and_right, or_left, or_right, not_part, tree_length, tree_sized, hoist_sized, room_open, arms_refused, arms_left, arms_done, turned_room, turned_emit, or_done, or_refused, not_refused, not_done, emitted, right_refused, right_done, arms_by, noted_end, noted_guards, done_unless}
use Rattle.compile.proofs.Noted.+emission.Goals as goal

-- ---- and

pub emit_and-returns-in_err-emit_expr : goal.emit_and-returns-in_err-emit_expr
unfolding emit
emit_and-returns-in_err-emit_expr t c =
    let v = c.requires.parts in
    handed_on c.from_residual.ensures.1 (rw v.tree (bind_refused c.emit_expr.ensures c.in_err-emit_expr.was _))

pub emit_and-settle-requires : goal.emit_and-settle-requires
emit_and-settle-requires t c =
    let a = c.args in
    let v = c.requires.walk in
    let p = c.requires.parts in
    let w = reply_done c.emit_expr.ensures c.in_ok-emit_expr.was in
    let l = tree_of a.self.tree.now (a.i + 1) in
    let s = ap weight p.tree in
    let z = room_left (weight l) {k = 0} (omega (arith, s)) c.requires.room (tree_sized a.e.now.link l a.e.now.facts (and_left v p).proper w) in
    room_open Success w.grew c.requires.room z

pub emit_and-returns-in_err-settle : goal.emit_and-returns-in_err-settle
unfolding emit
emit_and-returns-in_err-settle t c =
    let p = c.requires.parts in
    let w = reply_done c.emit_expr.ensures c.in_ok-emit_expr.was in
    handed_on c.from_residual-in_err-settle.ensures.1 (rw p.tree
    (settled_refused w (settle Success 0) _ (settled w.grew 0 Success (omega (arith, c.requires.room.successes)) c.settle.ensures) c.in_err-settle.was _))

pub emit_and-emit_expr-requires-2 : goal.emit_and-emit_expr-requires-2
emit_and-emit_expr-requires-2 t c =
    let a = c.args in
    let v = c.requires.walk in
    let p = c.requires.parts in
    let w = reply_done c.emit_expr.ensures c.in_ok-emit_expr.was in
    let l = tree_of a.self.tree.now (a.i + 1) in
    let s = ap weight p.tree in
    let n = settled_near (settle Success 0 w.code.block) c.emit_expr.new.e.facts a.e.now c.settle.new.self
    (settled w.grew 0 Success (omega (arith, c.requires.room.successes)) c.settle.ensures) c.in_ok-settle.was in
    let y = rw (← length_settle Success 0 w.code.block) at (tree_length a.e.now.link l a.e.now.facts (and_left v p).proper w) in
    rw (noted_end v p) (omega (arith, v.here, p.left), (and_right v p, room_left (weight l) (omega (arith, s)) c.requires.room (sized (weight l) y n.grew)))

pub emit_and-returns : goal.emit_and-returns
unfolding emit
emit_and-returns t c =
    let a = c.args in
    let v = c.requires.walk in
    let p = c.requires.parts in
    let w = reply_done c.emit_expr.ensures c.in_ok-emit_expr.was in
    let d = settled w.grew 0 Success (omega (arith, c.requires.room.successes)) c.settle.ensures in
    rw p.tree
    (settled_then w (settle Success 0) _ d c.in_ok-settle.was (λ b. emit a.e.now.link (tree_of a.self.tree.now (end_of a.self.tree.now (a.i + 1))) b.facts)
    (emitted (c.settle.ensures.kept.link ∙ w.grew.kept.link) (ap (tree_of a.self.tree.now) (noted_end v p)) (c.settle.ensures.facts ∙ w.grew.facts) c.emit_expr-2.ensures))

-- ---- or

pub emit_or-returns-in_err-emit_or_hoist : goal.emit_or-returns-in_err-emit_or_hoist
emit_or-returns-in_err-emit_or_hoist t c =
    let a = c.args in
    let p = c.requires.parts in
    let g = noted_guards c.requires.walk p ∙ ap required_guards p.tree in
    handed_on c.from_residual.ensures.1 (rw p.tree (or_refused a.e.now.link _ _ a.e.now.facts (reply_refused (rw g at c.emit_or_hoist.ensures.answer) c.in_err-emit_or_hoist.was) c.emit_or_hoist.ensures.answer.kept))

pub emit_or-emit_arms-requires : goal.emit_or-emit_arms-requires
emit_or-emit_arms-requires t c =
    let a = c.args in
    let v = c.requires.walk in
    let p = c.requires.parts in
    let s = ap weight p.tree in
    let w = reply_done (rw (noted_guards v p) at c.emit_or_hoist.ensures.answer) c.in_ok-emit_or_hoist.was in
    (omega arith, (v, (p, room_left 24 (omega (arith, s)) c.requires.room (hoist_sized a.e.now.link (tree_of a.self.tree.now a.i) a.e.now.facts v.proper w))))

pub emit_or-returns : goal.emit_or-returns
emit_or-returns t c =
    let a = c.args in
    let p = c.requires.parts in
    let g = noted_guards c.requires.walk p ∙ ap required_guards p.tree in
    let w = reply_done (rw g at c.emit_or_hoist.ensures.answer) c.in_ok-emit_or_hoist.was in
    rw p.tree (or_done a.e.now.link _ _ a.e.now.facts w (arms_by _ _ _ w.grew.kept.link c.emit_arms.ensures))

-- ---- the arms of an or

pub emit_arms-otherwise-requires-clause-room : goal.emit_arms-otherwise-requires-clause-room
emit_arms-otherwise-requires-clause-room t c =
    let a = c.args in
    let l = tree_of a.self.tree.now (a.i + 1) in
    let w = reply_done c.emit_expr.ensures c.in_ok-emit_expr.was in
    room_out (room_left (weight l) (omega arith) c.requires.room (tree_sized a.e.now.link l a.e.now.facts (or_left c.requires.walk c.requires.parts).proper w))

pub emit_arms-otherwise-requires-clause-open : goal.emit_arms-otherwise-requires-clause-open
emit_arms-otherwise-requires-clause-open t c =
    let a = c.args in
    let l = tree_of a.self.tree.now (a.i + 1) in
    let w = reply_done c.emit_expr.ensures c.in_ok-emit_expr.was in
    let z = room_left (weight l) {k = 1} (omega arith) c.requires.room (tree_sized a.e.now.link l a.e.now.facts (or_left c.requires.walk c.requires.parts).proper w) in
    room_open Failure w.grew c.requires.room z

pub emit_arms-emit_expr-requires-2 : goal.emit_arms-emit_expr-requires-2
emit_arms-emit_expr-requires-2 t c =
    let a = c.args in
    let v = c.requires.walk in
    let p = c.requires.parts in
    let l = tree_of a.self.tree.now (a.i + 1) in
    let r = tree_of a.self.tree.now (end_of a.self.tree.now (a.i + 1)) in
    let w = reply_done c.emit_expr.ensures c.in_ok-emit_expr.was in
    let n = arms_left a.e.now.link l r a.e.now.facts w c.otherwise.ensures (omega (arith, c.requires.room.failures)) c.in_ok-otherwise.was in
    let y = otherwise_size (weight l) w.code.block (tree_length a.e.now.link l a.e.now.facts (or_left v p).proper w) in
    let z = room_left (weight l + 1) {k = weight r} (omega arith) c.requires.room (sized (weight l + 1) y n.grew) in
    rw (noted_end v p) (omega (arith, v.here, p.left), (or_right v p, record { insns = z.insns; writings = z.writings; failures = z.failures; successes = z.successes }))

pub emit_arms-returns-in_err-otherwise : goal.emit_arms-returns-in_err-otherwise
emit_arms-returns-in_err-otherwise t c =
    let a = c.args in
    let w = reply_done c.emit_expr.ensures c.in_ok-emit_expr.was in
    handed_on c.from_residual-in_err-otherwise.ensures.1 (arms_refused a.e.now.link _ _ a.e.now.facts w c.otherwise.ensures (omega (arith, c.requires.room.failures)) c.in_err-otherwise.was)

pub emit_arms-returns-in_err-emit_expr-2 : goal.emit_arms-returns-in_err-emit_expr-2
emit_arms-returns-in_err-emit_expr-2 t c =
    let a = c.args in
    let v = c.requires.walk in
    let p = c.requires.parts in
    let r = tree_of a.self.tree.now (end_of a.self.tree.now (a.i + 1)) in
    let w = reply_done c.emit_expr.ensures c.in_ok-emit_expr.was in
    let h : a.e.now.failures ≤ length a.e.now.failure.now = omega (arith, c.requires.room.failures) in
    let n = arms_left a.e.now.link _ r a.e.now.facts w c.otherwise.ensures h c.in_ok-otherwise.was in
    handed_on c.from_residual-in_err-emit_expr-2.ensures.1
    (arms_done a.e.now.link _ r a.e.now.facts w c.otherwise.ensures h c.in_ok-otherwise.was c.restored-e.ensures
    (right_refused c.emit_expr.new.e.facts n.grew.kept.link (ap (tree_of a.self.tree.now) (noted_end v p)) refl c.emit_expr-2.ensures c.in_err-emit_expr-2.was))

pub emit_arms-returns : goal.emit_arms-returns
emit_arms-returns t c =
    let a = c.args in
    let v = c.requires.walk in
    let p = c.requires.parts in
    let r = tree_of a.self.tree.now (end_of a.self.tree.now (a.i + 1)) in
    let w = reply_done c.emit_expr.ensures c.in_ok-emit_expr.was in
    let h : a.e.now.failures ≤ length a.e.now.failure.now = omega (arith, c.requires.room.failures) in
    let n = arms_left a.e.now.link _ r a.e.now.facts w c.otherwise.ensures h c.in_ok-otherwise.was in
    arms_done a.e.now.link _ r a.e.now.facts w c.otherwise.ensures h c.in_ok-otherwise.was c.restored-e.ensures
    (right_done c.emit_expr.new.e.facts n.grew.kept.link (ap (tree_of a.self.tree.now) (noted_end v p)) refl c.emit_expr-2.ensures c.in_ok-emit_expr-2.was c.meet-e.ensures)

-- ---- not

pub emit_not-returns-in-Err : goal.emit_not-returns-in-Err
unfolding emit
emit_not-returns-in-Err t c =
    let a = c.args in
    let h = turned_emit (tree_of a.self.tree.now (a.i + 1)) c.turn.ensures c.emit_expr.ensures in
    rw (c.requires.part.tree, reply_refused h c.in-Err.is) (turned_down (turned_kept c.turn.ensures h.kept c.turn-in-Err.ensures))

pub emit_not-otherwise-settled-requires-clause-room : goal.emit_not-otherwise-settled-requires-clause-room
emit_not-otherwise-settled-requires-clause-room t c =
    let a = c.args in
    let v = c.requires.walk in
    let p = c.requires.part in
    let w = reply_done c.emit_expr.ensures (done_unless _ c.in_default.not-Err) in
    let s = ap weight p.tree in
    room_out (room_left (weight (tree_of a.self.tree.now (a.i + 1))) (omega (arith, s)) (turned_room c.turn.ensures c.requires.room) (tree_sized _ _ _ (not_part v p).proper w))

pub emit_not-otherwise-settled-requires-clause-open : goal.emit_not-otherwise-settled-requires-clause-open
emit_not-otherwise-settled-requires-clause-open t c =
    let a = c.args in
    let v = c.requires.walk in
    let p = c.requires.part in
    let w = reply_done c.emit_expr.ensures (done_unless _ c.in_default.not-Err) in
    let s = ap weight p.tree in
    let y = turned_room c.turn.ensures c.requires.room in
    room_open Failure w.grew y (room_left (weight (tree_of a.self.tree.now (a.i + 1))) {k = 1} (omega (arith, s)) y (tree_sized _ _ _ (not_part v p).proper w))

pub emit_not-returns-in_err-settled : goal.emit_not-returns-in_err-settled
emit_not-returns-in_err-settled t c =
    let a = c.args in
    let y = turned_room c.turn.ensures c.requires.room in
    let w = reply_done (turned_emit (tree_of a.self.tree.now (a.i + 1)) c.turn.ensures c.emit_expr.ensures) (done_unless _ c.in_default.not-Err) in
    handed_on c.from_residual.ensures.1
    (rw c.requires.part.tree (not_refused a.e.now.link _ a.e.now.facts c.turn.ensures w c.otherwise-settled.ensures (omega (arith, y.failures)) c.in_err-settled.was c.turn-2.ensures))

pub emit_not-returns : goal.emit_not-returns
emit_not-returns t c =
    let a = c.args in
    let y = turned_room c.turn.ensures c.requires.room in
    let w = reply_done (turned_emit (tree_of a.self.tree.now (a.i + 1)) c.turn.ensures c.emit_expr.ensures) (done_unless _ c.in_default.not-Err) in
    rw (c.requires.part.tree, c.restored-e.ensures)
    (not_done a.e.now.link _ a.e.now.facts c.turn.ensures w c.otherwise-settled.ensures (omega (arith, y.failures)) c.in_ok-settled.was c.turn-2.ensures refl)

-- ---- by the record

pub emit_expr-emit_and-requires : goal.emit_expr-emit_and-requires
emit_expr-emit_and-requires t c =
    let v = c.requires.walk in (omega arith, (v, (here_and v.here (c.node.ensures ∙ ap Ok c.in-AndNode.is), c.requires.room)))

pub emit_expr-emit_or-requires : goal.emit_expr-emit_or-requires
emit_expr-emit_or-requires t c =
    let v = c.requires.walk in (omega arith, (v, (here_or v.here (c.node.ensures ∙ ap Ok c.in-OrNode.is), c.requires.room)))

pub emit_expr-emit_not-requires : goal.emit_expr-emit_not-requires
emit_expr-emit_not-requires t c =
    let v = c.requires.walk in (omega arith, (v, (here_not v.here (c.node.ensures ∙ ap Ok c.in-NotNode.is), c.requires.room)))

pub emit_expr-emit_primitive-requires : goal.emit_expr-emit_primitive-requires
emit_expr-emit_primitive-requires t c =
    let v = c.requires.walk in
    rw (here_leaf v.here (c.node.ensures ∙ ap Ok c.in-LeafNode.is)).tree at c.requires.room

pub emit_expr-returns-in-LeafNode : goal.emit_expr-returns-in-LeafNode
unfolding emit
emit_expr-returns-in-LeafNode t c =
    let v = c.requires.walk in
    rw (here_leaf v.here (c.node.ensures ∙ ap Ok c.in-LeafNode.is)).tree c.emit_primitive.ensures
