use native.Mathlib.Omega.{arith}
use Rattle.nets.proofs.Numbers.{shifted}
use Rattle.nets.proofs.mask16.Goals as goal

pub returns : goal.returns
returns c = let t = shifted c.args.p c.requires in (rw t.is, omega arith)
