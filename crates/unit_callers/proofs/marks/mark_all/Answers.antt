use Rattle.std.proofs.Common.{slice_index_or}
use Rattle.std.proofs.lemmas.Option.{slice_get-get_or}
use Rattle.unit_callers.proofs.Marked.{all_more}
use Rattle.unit_callers.proofs.marks.mark_all.Goals as goal

pub loop-unit-preserved : goal.loop-unit-preserved
loop-unit-preserved c =
    let units = c.args.units.now in
    let i = c.loop-unit.unit-index in
    all_more units i (slice_index_or units i 0) c.args.stale.now.items c.loop-unit.stale.items c.mark.new.stale.items (slice_get-get_or units i 0 c.loop-unit-test.true) c.loop-unit.invariant c.mark.ensures
