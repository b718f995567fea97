use native.Mathlib.Omega.{arith}
use Rattle.reader.proofs.Zeros.{zero_then, zero_not}
use Rattle.reader.proofs.WholeRecord.end_zero.Goals as goal

pub returns-then-word-eq0 : goal.returns-then-word-eq0
returns-then-word-eq0 c = rw c.word-then-word-eq0.ensures (zero_then 4 4 _ _ c.word.ensures (omega arith) c.if-word-eq0.true)

pub returns-else-word-eq0 : goal.returns-else-word-eq0
returns-else-word-eq0 c = zero_not 4 4 _ _ c.word.ensures c.if-word-eq0.false
