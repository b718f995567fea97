use Rattle.std.proofs.Common.{◌∙◌, arith}
use Rattle.reader.proofs.Fields.{unused_0, unused_4, unused_6, unused_8}
use Rattle.reader.proofs.Zeros.{zero_then, zero_not}
use Rattle.reader.proofs.WholeRecord.unused_zero.Goals as goal

pub returns-then-word-eq0 : goal.returns-then-word-eq0
returns-then-word-eq0 c = rw (c.in-0.is, unused_0) (c.middle_zero.ensures ∙ zero_then 4 12 _ _ c.word.ensures (omega arith) c.if-word-eq0.true)

pub returns-else-word-eq0 : goal.returns-else-word-eq0
returns-else-word-eq0 c = rw (c.in-0.is, unused_0) (zero_not 4 12 _ _ c.word.ensures c.if-word-eq0.false)

pub returns-in-4 : goal.returns-in-4
returns-in-4 c = rw (c.in-4.is, unused_4) c.middle_zero-in-4.ensures

pub returns-then-half-eq0 : goal.returns-then-half-eq0
returns-then-half-eq0 c = rw (c.in-6.is, unused_6) (c.end_zero.ensures ∙ zero_then 2 8 _ _ c.half.ensures (omega arith) c.if-half-eq0.true)

pub returns-else-half-eq0 : goal.returns-else-half-eq0
returns-else-half-eq0 c = rw (c.in-6.is, unused_6) (zero_not 2 8 _ _ c.half.ensures c.if-half-eq0.false)

pub returns-in-8 : goal.returns-in-8
returns-in-8 c = rw (c.in-8.is, unused_8) c.end_zero-in-8.ensures
