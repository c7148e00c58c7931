use Rattle.division_table.proofs.expressions.columns_found.Goals as goal

pub returns : goal.returns
returns c = record { rows = c.in_ok-rows.rows; rows_are = c.in_ok-rows.ensures; columns_are = c.in_ok-columns.ensures }
