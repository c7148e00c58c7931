use Rattle.std.proofs.Common.{List, ap, subst}
use Rattle.mir_base.specs.Shapes.{UnitShape}
use Rattle.flow_graph.specs.ListLaws.{some_at}
use Rattle.table_text.specs.Lines.{names_of_units}
use Rattle.table_text.specs.Steps.{ShowsSteps}
use Rattle.table_text.proofs.steps.PassUnitsPieces.put.Goals as goal

-- the graphs are those of the unit of this number
pub returns : goal.returns
returns g c =
    let self = c.args.self.now in
    let units = self.program.now.units in
    let steps = c.in_ok-steps.steps in
    let at = some_at units c.args.number c.requires.number in
    let put = c.in_ok-put_steps.ensures in
    let shows = subst (λ (l : List UnitShape). ShowsSteps self.pass.now (g.T.PassTable.finds self.table.now l c.args.number) (names_of_units l) steps put.0) c.units_of.ensures put.1 in (
      put.0,
      record {
        unit = at.0;
        steps = steps;
        found = shows.found;
        stands = at.1;
        steps_are = c.in_ok-steps.ensures at.0 at.1;
        is_found = shows.is_found;
        text_is = shows.text_is;
      },
      put.2,
    )
