use Rattle.table_text.proofs.ColumnLaws.{one_column_more}
use Rattle.table_text.proofs.columns.all_columns.Goals as goal

-- the columns stand one behind the other
pub loop-number-preserved : goal.loop-number-preserved
loop-number-preserved c = one_column_more c.args.rows.now c.loop-number.number c.loop-number.words.items c.push_column.new.words.items c.loop-number.invariant c.in_ok-push_column.ensures
