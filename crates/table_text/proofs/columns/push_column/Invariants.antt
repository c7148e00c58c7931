use Rattle.table_text.specs.Columns.{AddsColumn}
use Rattle.table_text.proofs.columns.push_column.Given as goal

abbrev pub invariant-loop-row : goal.invariant-loop-row
invariant-loop-row l = AddsColumn l.rows l.number l.row l.fn.words.items l.words.items
