use Rattle.table_text.specs.Columns.{AreColumns}
use Rattle.table_text.proofs.columns.all_columns.Given as goal

abbrev pub invariant-loop-number : goal.invariant-loop-number
invariant-loop-number l = AreColumns l.rows l.number l.words.items
