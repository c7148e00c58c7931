use Rattle.std.proofs.Common.{◌<◌, length, ap, sym, ◌∙◌, arith}
use Rattle.key_rows.specs.KeyRowLaws.{joined_long}
use Rattle.key_rows.proofs.assigned.joined_row.Goals as goal

pub or_from-requires : goal.or_from-requires
or_from-requires c =
    let x = c.loop-x.x in
    let low : x < length c.args.by_var.now = omega (arith, c.loop-x-test.true, c.requires.count) in
    ap length c.loop-x.invariant ∙ joined_long c.args.by_var.now c.args.bits x (omega (arith, low)) c.requires.shape.each ∙ sym (ap length c.row.ensures ∙ c.requires.shape.each x low)
