use Rattle.std.proofs.Common.{rules, sym}
use Rattle.vm.specs.Machine.{effect, ld, ldx}
use Rattle.machine.proofs.Low.{effect_low, by_low}
use Rattle.machine.proofs.State.effect.Goals as goal

pub returns-in-7 : goal.returns-in-7
unfolding effect
returns-in-7 c = sym (by_low _ _ _ _ _ _ c.in-7.is)

pub returns-in-96 : goal.returns-in-96
unfolding effect ld
returns-in-96 c = rw (by_low c.args.self.now.frame.now c.args.self.now.scratch.now c.args.insn _ c.args.self.now.registers.a c.args.self.now.registers.x c.in-96.is) (search rules)

pub returns-in-97 : goal.returns-in-97
unfolding effect ldx
returns-in-97 c = rw (by_low c.args.self.now.frame.now c.args.self.now.scratch.now c.args.insn _ c.args.self.now.registers.a c.args.self.now.registers.x c.in-97.is) (search rules)

pub returns-in-135 : goal.returns-in-135
unfolding effect
returns-in-135 c = sym (by_low _ _ _ _ _ _ c.in-135.is)

pub returns-in_default : goal.returns-in_default
returns-in_default c = rw c.by_class.ensures (effect_low _ _ _ _ _ _ _ _)
