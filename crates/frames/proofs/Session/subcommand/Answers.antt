use Rattle.std.proofs.Common.{rules, codes, sym, arith}
use Rattle.frames.proofs.Spelled.{spelled}
use Rattle.frames.proofs.Commands.{known}
use Rattle.frames.proofs.Session.subcommand.Goals as goal

pub returns-in-list-clause-unknown : goal.returns-in-list-clause-unknown
returns-in-list-clause-unknown g c =
    let w = c.bytes.result.now in
    known _ _ _ w (search rules) (1, omega arith, sym (spelled w (codes "list") (omega arith) (search rules)))

pub returns-in-size-clause-unknown : goal.returns-in-size-clause-unknown
returns-in-size-clause-unknown g c =
    let w = c.bytes.result.now in
    known _ _ _ w (search rules) (2, omega arith, sym (spelled w (codes "size") (omega arith) (search rules)))

pub returns-in-count-clause-unknown : goal.returns-in-count-clause-unknown
returns-in-count-clause-unknown g c =
    let w = c.bytes.result.now in
    known _ _ _ w (search rules) (4, omega arith, sym (spelled w (codes "count") (omega arith) (search rules)))
