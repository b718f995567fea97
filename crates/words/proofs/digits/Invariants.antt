use Rattle.std.proofs.Common.{◌≡◌, ◌≤◌, drop}
use Rattle.words.specs.Numbers.{counted}
use Rattle.words.proofs.digits.Given as goal

abbrev pub invariant-loop-byte : goal.invariant-loop-byte
invariant-loop-byte l = (l.value ≤ l.most) × (counted l.most l.value (drop l.byte-index l.text) ≡ counted l.most 0 l.text)
