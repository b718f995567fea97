use Rattle.std.proofs.Common.{◌≡◌, ◌-◌, ◌≤◌}
use Rattle.machine.specs.Runs.{from, zeros}
use Rattle.machine.proofs.Job.general.Given as goal

abbrev pub invariant-loop-pc : goal.invariant-loop-pc
invariant-loop-pc l = (l.steps ≤ l.pc) × (from l.self.program.now l.self.frame.now l.pc l.steps l.registers.a l.registers.x l.scratch ≡ from l.self.program.now l.self.frame.now l.start l.made l.fn.registers.a l.fn.registers.x zeros)

abbrev pub decreases-loop-pc : goal.decreases-loop-pc
decreases-loop-pc l = l.count - l.pc
