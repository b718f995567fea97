use mathlib.Core.Path.{◌∙◌}
use Rattle.ast.specs.Record.{record_at}
use Rattle.reader.proofs.WholeRecord.protocol.Goals as goal

pub returns : goal.returns
unfolding record_at
returns c = c.of_bytes.ensures ∙ rw (c.byte.ensures, c.byte-2.ensures)
