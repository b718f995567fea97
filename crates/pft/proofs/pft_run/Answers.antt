use native.Mathlib.Omega.{arith}
use Rattle.pft.proofs.Numbers.{run_steps}
use Rattle.pft.proofs.pft_run.Goals as goal

pub overflow_add-result : goal.overflow_add-result
overflow_add-result c = omega (arith, rw (← c.run.ensures, c.in-Ok.is) at (run_steps c.args.program.now c.args.frame.now))
