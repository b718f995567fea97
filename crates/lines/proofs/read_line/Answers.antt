use Rattle.std.proofs.Common.{ap₂, ◌∙◌, arith, rules}
use Rattle.lines.specs.Reads as R
use Rattle.lines.proofs.Lines.{past_space, goes_unread, goes_stopped, goes_done, goes_end}
use Rattle.lines.proofs.read_line.Goals as goal

pub loop-at-preserved-then-line-at-eq32 : goal.loop-at-preserved-then-line-at-eq32
loop-at-preserved-then-line-at-eq32 c = record { same_reference = c.loop-at.invariant.same_reference; goes = past_space c.loop-at.invariant.goes c.loop-at-test.true c.if-line-at-eq32.true }

pub returns-in_err-word : goal.returns-in_err-word
returns-in_err-word c =
    let h = goes_unread c.loop-at.invariant.goes c.loop-at-test.true c.if-line-at-eq32.false c.until.result c.until.ensures c.read_word.result c.read_word.ensures c.in_err-word.ensures.ok_part in
    search (rules, h)

pub returns-in_err-take : goal.returns-in_err-take
returns-in_err-take c =
    let h = goes_stopped c.loop-at.invariant.goes c.loop-at-test.true c.if-line-at-eq32.false c.until.result c.until.ensures c.read_word.result c.read_word.ensures c.in_ok-word.word c.in_ok-word.ensures.ok_part c.in_err-take.field-0.0 c.take.new.self.items.now c.in_err-take.ensures.result c.take.ensures.items in
    let same = c.take.ensures.same_reference ∙ c.loop-at.invariant.same_reference in
    grind (arith, h, same)

pub loop-at-preserved : goal.loop-at-preserved
loop-at-preserved c = record { same_reference = c.take.ensures.same_reference ∙ c.loop-at.invariant.same_reference; goes = goes_done c.loop-at.invariant.goes c.loop-at-test.true c.if-line-at-eq32.false c.until.result c.until.ensures c.read_word.result c.read_word.ensures c.in_ok-word.word c.in_ok-word.ensures.ok_part c.in_ok-take.field-0 c.take.new.self.sum c.take.new.self.items.now c.in_ok-take.ensures.result c.take.ensures.sum c.take.ensures.items }

pub returns : goal.returns
returns c =
    let h = ap₂ R.reading c.close.ensures.result c.close.ensures.items ∙ goes_end c.loop-at.invariant.goes c.loop-at-test.false in
    let same = c.close.ensures.same_reference ∙ c.loop-at.invariant.same_reference in
    search (rules, h, same)
