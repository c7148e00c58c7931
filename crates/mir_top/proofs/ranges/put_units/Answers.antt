use Rattle.std.proofs.Common.{◌++◌, ◌∙◌, ap, append_assoc, refl, List, ℕ}
use Rattle.std.proofs.lemmas.Option.{slice_get_read}
use Rattle.mir_top.proofs.RangeLaws.{next_range}
use Rattle.mir_top.proofs.ranges.put_units.Goals as goal

-- the unit whose text is put is the next one
pub loop-unit-preserved : goal.loop-unit-preserved
loop-unit-preserved c =
    let before = c.loop-unit.invariant in
    let put = c.in_ok-put_unit.ensures in
    let units = c.args.units.now in
    let i = c.loop-unit.unit-index in
    (before.0 ++ put.0, next_range units i c.unit-item.result before.0 put.0 before.1 (slice_get_read units _ i c.unit-item.result refl c.loop-unit-test.true c.unit-item.is) put.1, put.2 ∙ ap (λ (l : List ℕ). l ++ put.0) before.2 ∙ append_assoc c.args.text.now.items before.0 put.0)
