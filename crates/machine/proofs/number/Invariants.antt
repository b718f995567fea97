use Rattle.std.proofs.Common.{◌≡◌, ◌^◌, ◌<◌}
use Rattle.bpf.specs.Bytes.{be}
use Rattle.machine.proofs.number.Given as goal

abbrev pub invariant-loop-byte : goal.invariant-loop-byte
invariant-loop-byte l = (l.n ≡ be l.byte-index 0 l.bytes) × (l.n < 256 ^ l.byte-index)
