use Rattle.words.proofs.Scans.{Before}
use Rattle.words.proofs.find.Given as goal

abbrev pub invariant-loop-place : goal.invariant-loop-place
invariant-loop-place l = Before l.stop l.text l.place
