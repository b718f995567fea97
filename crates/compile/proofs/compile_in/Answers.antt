use Rattle.std.proofs.Common.{◌∙◌, rules}
use Rattle.std.proofs.lemmas.Result.{err_from_is_err_and}
use Rattle.reader.specs.Reader.{tree_of}
use Rattle.compile.proofs.Endings.{program_in, refused_in}
use Rattle.compile.proofs.compile_in.Goals as goal

pub compile-requires : goal.compile-requires
compile-requires c = let l = c.new-e.ensures.lent in rw (l.won, l.lost) c.requires

pub returns-in_err-compile : goal.returns-in_err-compile
returns-in_err-compile c =
    let p = err_from_is_err_and c.from_residual.result c.from_residual.ensures.1 in
    rw (p.1, p.2) (refused_in (tree_of c.args.tree.now 0) c.new-e.ensures.lent.link c.compile.ensures c.in_err-compile.was)

pub returns : goal.returns
returns c =
    let same = c.compile.ensures.kept.same_insns ∙ c.new-e.ensures.lent.same_insns in
    program_in (tree_of c.args.tree.now 0) c.new-e.ensures.lent.link c.compile.ensures c.in_ok-compile.was (search (rules, same))
