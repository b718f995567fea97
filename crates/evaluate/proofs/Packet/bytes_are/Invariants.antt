use Rattle.std.proofs.Common.{◌≡◌, ◌+◌, drop}
use Rattle.direct.specs.Reading.{bytes_are}
use Rattle.evaluate.proofs.Packet.bytes_are.Given as goal

abbrev pub invariant-loop-i : goal.invariant-loop-i
invariant-loop-i l = bytes_are l.self.frame.now (l.at + l.i) (drop l.i l.b-items) ≡ bytes_are l.self.frame.now l.at l.b-items
