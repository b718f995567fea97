use Rattle.emit.proofs.Settling.{otherwise_open, otherwise_of}
use Rattle.emit.proofs.Emitter.otherwise.Goals as goal

pub settle-requires : goal.settle-requires
settle-requires c = otherwise_open c.args.mark c.add.ensures.lines c.requires.open c.requires.room.insns

pub returns : goal.returns
returns c = otherwise_of c.args.mark c.add.ensures.lines c.settle.ensures
