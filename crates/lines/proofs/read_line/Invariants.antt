use Rattle.std.proofs.Common.{length, ◌-◌, ◌≡◌}
use Rattle.typing.specs.Words.{line_words}
use Rattle.lines.specs.Reads as R
use Rattle.lines.proofs.Lines.{Goes}
use Rattle.lines.proofs.read_line.Given as goal

abbrev pub invariant-loop-at : goal.invariant-loop-at
invariant-loop-at l =
    record {
      same_reference : l.reader.items.ghost_name ≡ l.initial.reader.items.ghost_name;
      goes : Goes l.line l.reader.sum l.reader.items.now l.at (R.scans (length l.line) R.begin l.initial.reader.items.now (line_words l.line));
    }

abbrev pub decreases-loop-at : goal.decreases-loop-at
decreases-loop-at l = length l.line - l.at
