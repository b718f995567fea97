-- Where standard input was named, one argument lies behind.
use Rattle.std.proofs.Common.{◌<◌, IsTrue}
use Rattle.frames.proofs.over.names_input_twice.Given as goal

abbrev pub invariant-loop-i : goal.invariant-loop-i
invariant-loop-i g l = IsTrue l.is_named → l.fn.arguments.first < l.i
