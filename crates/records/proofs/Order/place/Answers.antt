use Rattle.std.proofs.Common.{rules}
use Rattle.records.proofs.Slices.{place_join, place_leaf}
use Rattle.records.proofs.Order.place.Goals as goal

pub returns-then-slot : goal.returns-then-slot
returns-then-slot c = place_join c.args.slot c.args.self.now c.if-slot.true c.requires (search rules)

pub returns-else-slot : goal.returns-else-slot
returns-else-slot c = place_leaf c.args.slot c.args.self.now c.if-slot.false c.requires (search rules)
