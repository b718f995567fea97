use mathlib.Core.Path.{refl}
use Rattle.std.proofs.Common.{rules}
use Rattle.records.proofs.Slices.{popping_stop, popping_next, popping_end}
use Rattle.records.proofs.Order.pop.Goals as goal

pub returns-then-join-depth : goal.returns-then-join-depth
returns-then-join-depth c = popping_stop _ c.loop-self.invariant c.loop-self-test.true refl c.if-join-depth.true

pub loop-self-preserved : goal.loop-self-preserved
loop-self-preserved c = popping_next _ c.loop-self.invariant c.loop-self-test.true refl c.requires (search rules) c.if-join-depth.false

pub returns : goal.returns
returns c = popping_end c.loop-self.invariant c.loop-self-test.false
