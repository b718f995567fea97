use Rattle.std.proofs.Common.{rules, ◌+◌, arith}
use Rattle.files.proofs.Reading.{whole, goes}
use Rattle.files.proofs.windows.count.Goals as goal

-- a window more was used
pub loop-link-preserved : goal.loop-link-preserved
loop-link-preserved g c =
    goes c.args.program.now c.args.link c.args.buffer.now c.loop-link.buffer c.loop-link.p c.loop-link.invariant
    c.read_from.new.buffer (c.loop-link.p.left + c.in_ok-n.n) c.use_window.new.self c.use_window.new.window
    c.in_ok-n.ensures.buffer_unchanged (search rules) (search rules) (search rules)
    (omega (arith, c.requires, c.loop-link.invariant.long)) (search rules) c.use_window.ensures.long c.use_window.ensures.used

-- what was read is the count of one capture
pub returns : goal.returns
returns g c = rw c.finish.ensures (whole c.args.program.now c.args.link c.args.buffer.now c.loop-link.buffer c.loop-link.p c.loop-link.invariant)
