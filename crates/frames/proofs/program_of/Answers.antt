use Rattle.std.proofs.Common.{rules}
use Rattle.build.proofs.Demands.{fits}
use Rattle.frames.proofs.Built.{is_program}
use Rattle.frames.proofs.program_of.Goals as goal

pub shared_ref_as_front-result : goal.shared_ref_as_front-result
shared_ref_as_front-result c = fits c.args.tree.now 32768 c.in_ok-count.count (search rules)

pub returns-clause-program : goal.returns-clause-program
returns-clause-program c = is_program c.args.tree.now 32768 c.in_ok-count.count (search rules) c.build.new.program (search rules)
