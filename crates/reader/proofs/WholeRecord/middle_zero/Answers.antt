use mathlib.Core.Path.{◌∙◌}
use native.Mathlib.Omega.{arith}
use Rattle.reader.proofs.Zeros.{zero_then, zero_not}
use Rattle.reader.proofs.WholeRecord.middle_zero.Goals as goal

pub returns-then-word-eq0 : goal.returns-then-word-eq0
returns-then-word-eq0 c = c.end_zero.ensures ∙ zero_then 4 8 _ _ c.word.ensures (omega arith) c.if-word-eq0.true

pub returns-else-word-eq0 : goal.returns-else-word-eq0
returns-else-word-eq0 c = zero_not 4 8 _ _ c.word.ensures c.if-word-eq0.false
