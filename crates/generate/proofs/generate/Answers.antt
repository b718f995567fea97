use Rattle.std.proofs.Common.{arith}
use Rattle.generate.proofs.Generating.{suffices}
use Rattle.generate.proofs.generate.Goals as goal

pub generate_by-requires-clause-room : goal.generate_by-requires-clause-room
generate_by-requires-clause-room c = let p = c.requires in suffices 2 p (omega (arith, p.here.whole)) (λ k. absurd (omega arith)) (omega arith) (omega arith) (omega arith) (omega arith) (omega arith) (omega arith)

pub generate_by-requires-then-tree-le-SMALL_FILE-clause-room : goal.generate_by-requires-then-tree-le-SMALL_FILE-clause-room
generate_by-requires-then-tree-le-SMALL_FILE-clause-room c = let p = c.requires in suffices 8 p (omega (arith, p.here.whole, p.here.most)) (λ k. omega arith) (omega arith) (omega arith) (omega arith) (omega arith) (omega arith) (omega arith)

pub generate_by-requires-then-tree-le-MEDIUM_FILE-clause-room : goal.generate_by-requires-then-tree-le-MEDIUM_FILE-clause-room
generate_by-requires-then-tree-le-MEDIUM_FILE-clause-room c = let p = c.requires in suffices 16 p (omega (arith, p.here.whole, p.here.most)) (λ k. omega arith) (omega arith) (omega arith) (omega arith) (omega arith) (omega arith) (omega arith)

pub generate_by-requires-then-tree-le-MIDDLE_FILE-clause-room : goal.generate_by-requires-then-tree-le-MIDDLE_FILE-clause-room
generate_by-requires-then-tree-le-MIDDLE_FILE-clause-room c = let p = c.requires in suffices 32 p (omega (arith, p.here.whole, p.here.most)) (λ k. omega arith) (omega arith) (omega arith) (omega arith) (omega arith) (omega arith) (omega arith)

pub generate_by-requires-else-tree-le-MIDDLE_FILE-clause-room : goal.generate_by-requires-else-tree-le-MIDDLE_FILE-clause-room
generate_by-requires-else-tree-le-MIDDLE_FILE-clause-room c = let p = c.requires in suffices 128 p (omega (arith, p.here.whole, p.here.most)) (λ k. omega arith) (omega arith) (omega arith) (omega arith) (omega arith) (omega arith) (omega arith)
