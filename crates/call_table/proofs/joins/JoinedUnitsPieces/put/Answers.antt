use Rattle.std.proofs.Common.{◌++◌, ◌∙◌, List, ap, refl}
use Rattle.mir_base.specs.Shapes.{UnitShape}
use Rattle.flow_graph.specs.ListLaws.{some_at}
use Rattle.table_text.specs.Lines.{names_of_units}
use Rattle.call_table.specs.Joins.{joined_text}
use Rattle.call_table.proofs.joins.JoinedUnitsPieces.put.Goals as goal

-- the graphs are those of the unit of this number
pub returns : goal.returns
returns c =
    let units = c.args.self.now.program.now.units in
    let leaves = c.args.self.now.leaves.now.units in
    let made = c.in_ok-made.made in
    let at = some_at units c.args.number c.requires.number in
    let put = c.in_ok-put_tables.ensures
    ∙ ap (λ (l : List UnitShape). c.args.text.now.items ++ joined_text (names_of_units l) leaves made) c.units_of.ensures in (
      joined_text (names_of_units units) leaves made,
      record {
        unit = at.0;
        made = made;
        stands = at.1;
        are = c.in_ok-made.ensures at.0 at.1;
        text_is = refl;
      },
      put,
    )
