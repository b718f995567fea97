use Rattle.std.proofs.Common.{length, codes, Contains, Err, ◌≡◌, ◌≢◌}
use Rattle.frames.specs.declared.ended.Ended.TheVariants.{Usage}
use Rattle.frames.specs.Endings.{NotUsage}
use Rattle.frames.specs.Words.{IfWord, IfWordRead, commands, links, count_of}
use Rattle.frames.proofs.Given.{given}
use Rattle.frames.proofs.Session.pft.Goals as goal

pub returns-clause-unknown : goal.returns-clause-unknown
returns-clause-unknown g c =
    given c.listed.result c.args.arguments.now 0
    (λ w. ¬ Contains commands w → c.subcommand.result ≡ Err Usage) (λ w. ¬ Contains commands w → c.how.result ≡ Usage)
    (λ w p n. c.how.ensures.usage (p n)) c.listed.ensures.command c.subcommand.ensures.unknown

pub returns-clause-link : goal.returns-clause-link
returns-clause-link g c =
    let l = c.listed.result in
    let xs = c.args.arguments.now in
    given l xs 0
    (λ w. w ≡ codes "type" → IfWordRead l 1 (λ v. ¬ Contains links v → c.subcommand.result ≡ Err Usage))
    (λ w. w ≡ codes "type" → IfWord xs 1 (λ v. ¬ Contains links v → c.how.result ≡ Usage))
    (λ w p e. given l xs 1
    (λ v. ¬ Contains links v → c.subcommand.result ≡ Err Usage) (λ v. ¬ Contains links v → c.how.result ≡ Usage)
    (λ v q n. c.how.ensures.usage (q n)) c.listed.ensures.second (p e))
    c.listed.ensures.command c.subcommand.ensures.link

pub returns-clause-typed : goal.returns-clause-typed
returns-clause-typed g c =
    let l = c.listed.result in
    let xs = c.args.arguments.now in
    given l xs 0
    (λ w. w ≡ codes "type" → count_of l.arguments ≡ 3 → IfWordRead l 1 (λ v. Contains links v → NotUsage c.subcommand.result))
    (λ w. w ≡ codes "type" → length xs ≡ 3 → IfWord xs 1 (λ v. Contains links v → c.how.result ≢ Usage))
    (λ w p e k. given l xs 1
    (λ v. Contains links v → NotUsage c.subcommand.result) (λ v. Contains links v → c.how.result ≢ Usage)
    (λ v q n. c.how.ensures.other (q n)) c.listed.ensures.second (p e (rw c.listed.ensures.count k)))
    c.listed.ensures.command c.subcommand.ensures.typed
