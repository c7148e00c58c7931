use Rattle.std.proofs.Common.{false, slice_index_or, refl, sym, subst, map}
use Rattle.flow_graph.specs.NumberTables.{number_at}
use Rattle.flow_graph.specs.Retained.{AreRanks, marked, marked_below}
use Rattle.called_units.specs.CalledUnits.{with_calls}
use Rattle.called_units.proofs.Ranking.{calls_same, marks_index, push_one}
use Rattle.called_units.proofs.programs.marked_units.Goals as goal

pub loop-number-preserved : goal.loop-number-preserved
loop-number-preserved c =
    let marks = c.args.marks.now in
    let units = c.args.program.now.units in
    let i = c.loop-number.number in
    let unit = c.unit-unit.result.now in
    let ranks = c.as_slice.result.now in
    let are = subst (AreRanks marks) (sym c.as_slice.ensures.value) c.in_ok-ranks.ensures in
    push_one (with_calls (marked_below marks)) marks units c.loop-number.units.items c.push_marked.new.units.items i (slice_index_or marks i false) unit (with_calls (number_at ranks) unit) (map (with_calls (marked_below marks)) (marked marks units))
    (marks_index marks i (slice_index_or marks i false) c.loop-number-test.true refl) c.unit-unit.ensures.unit (calls_same units marks ranks c.requires are unit c.unit-unit.ensures.fits) c.in_ok-push_marked.ensures c.loop-number.invariant
