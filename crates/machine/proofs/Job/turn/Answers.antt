use Rattle.vm.specs.Machine.{effect, ld, sized_load, jmp}
use Rattle.machine.proofs.Ways.{turned, placed, tested}
use Rattle.machine.proofs.Job.turn.Goals as goal

pub returns-in-32 : goal.returns-in-32
unfolding effect ld sized_load
returns-in-32 c = turned _ _ _ _ _ _ c.requires (rw (← c.le_u16-code.ensures, c.in-32.is, ← c.le_u32-k.ensures) c.load_then.ensures)

pub returns-in-48 : goal.returns-in-48
unfolding effect ld sized_load
returns-in-48 c = turned _ _ _ _ _ _ c.requires (rw (← c.le_u16-code.ensures, c.in-48.is, ← c.le_u32-k.ensures) c.load_then-in-48.ensures)

pub returns-in-21 : goal.returns-in-21
unfolding effect jmp
returns-in-21 c = turned _ _ _ _ _ _ c.requires (rw (← c.le_u16-code.ensures, c.in-21.is, ← c.le_u32-k.ensures) (tested _ _ _ _ _ _ c.requires c.test.ensures))

pub returns-in-37 : goal.returns-in-37
unfolding effect jmp
returns-in-37 c = turned _ _ _ _ _ _ c.requires (rw (← c.le_u16-code.ensures, c.in-37.is, ← c.le_u32-k.ensures) (tested _ _ _ _ _ _ c.requires c.test-in-37.ensures))

pub returns-in-53 : goal.returns-in-53
unfolding effect jmp
returns-in-53 c = turned _ _ _ _ _ _ c.requires (rw (← c.le_u16-code.ensures, c.in-53.is, ← c.le_u32-k.ensures) (tested _ _ _ _ _ _ c.requires c.test-in-53.ensures))

pub returns-in-69 : goal.returns-in-69
unfolding effect jmp
returns-in-69 c = turned _ _ _ _ _ _ c.requires (rw (← c.le_u16-code.ensures, c.in-69.is, ← c.le_u32-k.ensures) (tested _ _ _ _ _ _ c.requires c.test-in-69.ensures))

pub returns-in_default : goal.returns-in_default
returns-in_default c = placed _ _ _ _ _ _ c.requires (rw (← c.le_u16-code.ensures, ← c.le_u32-k.ensures) (c.rest.ensures _ _ _))
