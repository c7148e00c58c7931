use Rattle.std.proofs.Common.{length}
use Rattle.path_laws.specs.Paths.{has_bit}
use Rattle.path_laws.specs.RowLaws.{are_alike, like_rows}
use Rattle.latest_place.proofs.Reading.{rows_are_lazy}
use Rattle.latest_place.proofs.placement.placed.Goals as goal

pub placement_of-placement-requires-clause-uses : goal.placement_of-placement-requires-clause-uses
placement_of-placement-requires-clause-uses g c = are_alike (length c.args.graph.now.nodes) (length c.args.table.now) c.in_ok-late.late.uses c.in_ok-late.late.latest c.in_ok-late.ensures.uses.shape c.in_ok-late.ensures.latest.shape

pub placement_of-placement-requires-clause-isolated : goal.placement_of-placement-requires-clause-isolated
placement_of-placement-requires-clause-isolated g c = are_alike (length c.args.graph.now.nodes) (length c.args.table.now) c.in_ok-late.late.isolated c.in_ok-late.late.latest c.in_ok-late.ensures.isolated.shape c.in_ok-late.ensures.latest.shape

pub returns : goal.returns
returns g c = record {
  insert_rows = like_rows (length c.args.graph.now.nodes) (length c.args.table.now) c.in_ok-late.late.latest c.placement_of-placement.result.insert c.in_ok-late.ensures.latest.shape c.placement_of-placement.ensures.insert_alike;
  replace_rows = like_rows (length c.args.graph.now.nodes) (length c.args.table.now) c.in_ok-late.late.uses c.placement_of-placement.result.replace c.in_ok-late.ensures.uses.shape c.placement_of-placement.ensures.replace_alike;
  lazy = λ i e at.
      rows_are_lazy c.args.graph.now e (g.R.DownRule.is_down c.args.rule.now c.args.graph.now e)
      (has_bit c.in_ok-late.late.uses i) (has_bit c.in_ok-late.late.latest i) (has_bit c.in_ok-late.late.isolated i) _
      (record {
        used_is = λ n below. c.in_ok-late.ensures.uses.bits n i e below at;
        latest_is = λ n below. c.in_ok-late.ensures.latest.bits n i e below at;
        isolated_is = λ n below. c.in_ok-late.ensures.isolated.bits n i e below at;
        inserts_is = λ n. c.placement_of-placement.ensures.inserted n i;
        replaces_is = λ n. c.placement_of-placement.ensures.replaced n i;
      });
}
