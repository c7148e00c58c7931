use Rattle.std.proofs.Common.{refl}
use Rattle.division_table.specs.Expressions.{lines_of_expressions}
use Rattle.division_table.proofs.ColumnBits.{column_bits, own_count}
use Rattle.division_table.proofs.expressions.put_divisions.Goals as goal

pub returns : goal.returns
returns c =
    let columns = c.in_ok-columns.columns in
    (lines_of_expressions c.args.unit.now columns, record { columns = columns; tell = c.in_ok-columns.ensures; text_is = refl }, c.in_ok-put_expressions.ensures)

-- the placement has a row for each node and a bit for each expression
pub put_expressions-requires-clause-insert : goal.put_expressions-requires-clause-insert
put_expressions-requires-clause-insert c = own_count _ _ c.args.unit.now.placement.insert c.requires.placed.insert_rows

pub put_expressions-requires-clause-rows : goal.put_expressions-requires-clause-rows
put_expressions-requires-clause-rows c = λ i low. column_bits c.args.unit.now c.in_ok-columns.columns i c.requires c.in_ok-columns.ensures low
