use Rattle.std.proofs.Common.{◌≡◌, ◌+◌, ◌-◌, arith}
use Rattle.reader.proofs.Here.{here_each}
use Rattle.guards.proofs.required_guards.Goals as goal

pub note_at-made-requires : goal.note_at-made-requires
note_at-made-requires c =
    let e : c.loop-i.i ≡ c.loop-i.i - 1 + 1 = omega arith in
    record { here = here_each (c.loop-i.i - 1) c.requires.0 (omega arith); long = omega arith; noted = rw (← c.requires.1) (rw e at c.loop-i.invariant.1) }
