use Rattle.std.proofs.Common.{◌++◌, ◌∙◌, List, ap, refl}
use Rattle.mir_base.specs.Shapes.{UnitShape}
use Rattle.table_text.specs.Lines.{names_of_units}
use Rattle.call_table.specs.Joins.{body_line}
use Rattle.call_table.proofs.joins.BodiesPieces.put.Goals as goal

-- the line that is put is that of the unit of this number
pub returns : goal.returns
returns c =
    let units = c.args.self.now.program.now.units in
    let n = c.args.number in
    let test = c.leaf_test-test.result in
    let put = c.in_ok-put_body.ensures
    ∙ ap (λ (l : List UnitShape). c.args.text.now.items ++ body_line (names_of_units l) n test) c.units_of.ensures in (
      body_line (names_of_units units) n test,
      record { unit = c.unit.result.now; test = test; stands = c.unit.ensures.unit; told = c.leaf_test-test.ensures; text_is = refl },
      put,
    )
