use Rattle.std.proofs.Common.{arith}
use Rattle.generate.proofs.generate_by.Goals as goal

pub generate_in-requires-2-clause-room : goal.generate_in-requires-2-clause-room
generate_in-requires-2-clause-room g c =
    let z = c.requires.room in
    record { notes = z.notes; jumps = z.jumps; places = z.places; lines = λ k. z.lines (omega arith); few = z.few }
