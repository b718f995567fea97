use Rattle.std.proofs.Common.{rules, codes, refl, sym, arith}
use Rattle.frames.proofs.Spelled.{spelled}
use Rattle.frames.proofs.typed.link_of.Goals as goal

pub returns-in-49-2 : goal.returns-in-49-2
returns-in-49-2 c = (λ _. (1, omega arith, sym (spelled c.args.word.now (codes "ethernet") (omega arith) (search rules))), λ _. refl)

pub returns-in-50 : goal.returns-in-50
returns-in-50 c = (λ _. (2, omega arith, sym (spelled c.args.word.now (codes "2") (omega arith) (search rules))), λ _. refl)

pub returns-in-50-2 : goal.returns-in-50-2
returns-in-50-2 c = (λ _. (3, omega arith, sym (spelled c.args.word.now (codes "raw") (omega arith) (search rules))), λ _. refl)

pub returns-in-51 : goal.returns-in-51
returns-in-51 c = (λ _. (4, omega arith, sym (spelled c.args.word.now (codes "3") (omega arith) (search rules))), λ _. refl)

pub returns-in-51-2 : goal.returns-in-51-2
returns-in-51-2 c = (λ _. (5, omega arith, sym (spelled c.args.word.now (codes "cooked") (omega arith) (search rules))), λ _. refl)
