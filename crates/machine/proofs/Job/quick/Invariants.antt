use Rattle.std.proofs.Common.{◌≡◌, ◌-◌, ◌/◌, ◌%◌, ◌≤◌, length}
use Rattle.machine.specs.Runs.{from, zeros}
use Rattle.machine.proofs.Job.quick.Given as goal

abbrev pub invariant-loop-at : goal.invariant-loop-at
invariant-loop-at l = (l.at % 8 ≡ 0) × (l.steps ≤ l.at / 8) × (from l.self.program.now l.self.frame.now (l.at / 8) l.steps l.registers.a l.registers.x zeros ≡ from l.self.program.now l.self.frame.now 0 0 0 0 zeros)

abbrev pub decreases-loop-at : goal.decreases-loop-at
decreases-loop-at l = length l.self.program.now - l.at
