use Rattle.std.proofs.Common.{rules}
use Rattle.files.proofs.Reading.{window_kept, window_used}
use Rattle.files.proofs.windows.Progress.use_window.Goals as goal

pub returns-then-used-gt0-clause-used : goal.returns-then-used-gt0-clause-used
returns-then-used-gt0-clause-used c =
    window_used c.args.program.now c.args.link c.args.self.now c.args.window.now c.take_window-step.result c.take_window-step.ensures
    (search rules) (search rules) c.add-self.result c.add-self.ensures c.copy_within.new.self c.copy_within.ensures.after

-- nothing was used, and nothing is moved
pub returns-else-used-gt0-clause-used : goal.returns-else-used-gt0-clause-used
returns-else-used-gt0-clause-used c =
    window_used c.args.program.now c.args.link c.args.self.now c.args.window.now c.take_window-step.result c.take_window-step.ensures
    (search rules) (search rules) c.add-self.result c.add-self.ensures c.args.window.now
    (window_kept c.args.program.now c.args.link c.args.self.now c.args.window.now c.take_window-step.result c.take_window-step.ensures (search rules))
