use Rattle.std.proofs.Common.{◌≡◌}
use Rattle.direct.specs.Reading.{segments_agree}
use Rattle.evaluate.proofs.Segments.{segments_from}
use Rattle.evaluate.proofs.Packet.segments_agree.Given as goal

abbrev pub invariant-loop-i : goal.invariant-loop-i
invariant-loop-i l = segments_from l.self.frame.now l.prefix l.at l.segment-items l.i ≡ segments_agree l.self.frame.now l.prefix l.at l.segment-items
