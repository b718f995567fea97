use mathlib.Core.Path.{refl, ap, ap₂, ◌∙◌}
use Rattle.std.proofs.Common.{rules, arith, ℕ, ◌≡◌, ◌++◌, ◌+◌, ◌*◌, length, take, drop}
use Rattle.records.specs.Order.{head_bytes, slot_rows}
use Rattle.records.specs.Arrange.{arranged, rows}
use Rattle.records.proofs.Writes.{file_is}
use Rattle.records.proofs.Stands.{slots_inside, slots_written, inside_as, rest_whole, rest_long}
use Rattle.records.proofs.write_file.Goals as goal

pub write_items-requires : goal.write_items-requires
write_items-requires g c =
    let r = g.T.Record in
    let xs = c.args.items.now in
    let o = c.arrange.new.self in
    let n = rest_long o.slots o.from (length xs) (search rules) c.arrange.ensures.1 in
    let m : length c.put.new.tree ≡ length c.args.tree.now = search rules in (
      omega (arith, n, c.requires.0),
      omega (arith, n, m, c.requires.1),
      inside_as (length xs) (rest_whole o.slots o.from ∙ c.arrange.ensures.0) (slots_inside r.deep r.joins r.written xs),
    )

pub returns : goal.returns
returns g c =
    let r = g.T.Record in
    let xs = c.args.items.now in
    let o = c.arrange.new.self in
    let t = c.put.new.tree in
    let n = rest_long o.slots o.from (length xs) (search rules) c.arrange.ensures.1 in
    let these = ap (slot_rows r.written xs) (rest_whole o.slots o.from ∙ c.arrange.ensures.0) ∙ slots_written r.deep r.joins r.written xs in
    let all : c.write_items.new.tree ≡ take 8 t ++ rows r.written (arranged r.deep r.joins xs) ++ drop (8 + 24 * length xs) t =
    c.write_items.ensures ∙ ap₂ (λ s (k : ℕ). take 8 t ++ s ++ drop (8 + 24 * k) t) these n in
    let head = head_bytes c.args.link (length xs) in
    let start : t ≡ head ++ drop 8 c.args.tree.now = search rules in
    file_is c.args.tree.now head (rows r.written (arranged r.deep r.joins xs)) (24 * length xs) refl start all
