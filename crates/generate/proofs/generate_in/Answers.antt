use Rattle.std.proofs.Common.{arith, length, ap, ◌∙◌, sym}
use Rattle.std.proofs.lemmas.Result.{err_from_is_err_and}
use lib.ListN.{length-replicate}
use Rattle.std.proofs.lemmas.List.{length-take-le}
use Rattle.reader.specs.Reader.{tree_of}
use Rattle.generate.proofs.Generating.{ready, held_by, not_made_by, few_lines, reaches, part_refused, part_short, part_written}
use Rattle.generate.proofs.generate_in.Goals as goal

pub whole_as_slice-new : goal.whole_as_slice-new
whole_as_slice-new g c = let z = c.requires.room.few in omega arith

pub whole_as_slice-new-2 : goal.whole_as_slice-new-2
whole_as_slice-new-2 g c = let z = c.requires.room.few in omega arith

pub whole_as_slice-new-3 : goal.whole_as_slice-new-3
whole_as_slice-new-3 g c = let z = c.requires.room.few in omega arith

pub whole_as_slice-compile : goal.whole_as_slice-compile
whole_as_slice-compile g c = let z = c.requires.room.few in omega arith

pub compile-requires : goal.compile-requires
compile-requires g c =
    ready c.requires.stands c.requires.room (length-replicate _ _) (length-replicate _ _) (length-replicate _ _) c.new-e.ensures.lent

pub returns-in_err-compile : goal.returns-in_err-compile
returns-in_err-compile g c =
    let p = err_from_is_err_and c.from_residual.result c.from_residual.ensures.1 in
    rw (p.1, p.2) (part_refused (not_made_by (tree_of c.args.tree.now 0) c.new-e.ensures.lent.link c.compile.ensures c.in_err-compile.was))

pub overflow_mul-count : goal.overflow_mul-count
overflow_mul-count g c =
    let h = held_by (tree_of c.args.tree.now 0) c.new-e.ensures.lent.link c.compile.ensures c.in_ok-compile.was in
    omega (arith, few_lines c.args.link c.requires.stands c.requires.room h)

pub slice_bounds-write_program-end : goal.slice_bounds-write_program-end
slice_bounds-write_program-end g c =
    let h = held_by (tree_of c.args.tree.now 0) c.new-e.ensures.lent.link c.compile.ensures c.in_ok-compile.was in
    let z = reaches c.args.link c.requires.stands c.requires.room h (ap length c.new-e.ensures.lent.insns ∙ length-replicate _ _) c.if-count-part.true in
    sym (length-take-le _ _ z)

pub returns-then-count-part : goal.returns-then-count-part
returns-then-count-part g c =
    let h = held_by (tree_of c.args.tree.now 0) c.new-e.ensures.lent.link c.compile.ensures c.in_ok-compile.was in
    let k = few_lines c.args.link c.requires.stands c.requires.room h in
    let z = reaches c.args.link c.requires.stands c.requires.room h (ap length c.new-e.ensures.lent.insns ∙ length-replicate _ _) c.if-count-part.true in
    part_written h k c.if-count-part.true z (rw (length-take-le _ _ z) at c.write_program.ensures)

pub returns-else-count-part : goal.returns-else-count-part
returns-else-count-part g c =
    let h = held_by (tree_of c.args.tree.now 0) c.new-e.ensures.lent.link c.compile.ensures c.in_ok-compile.was in
    let k = few_lines c.args.link c.requires.stands c.requires.room h in
    part_short h k c.if-count-part.false
