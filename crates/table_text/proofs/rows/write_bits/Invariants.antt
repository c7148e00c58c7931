use Rattle.std.proofs.Common.{◌≡◌, ◌+◌, ◌++◌, drop, take}
use Rattle.table_text.specs.Columns.{column_below}
use Rattle.table_text.proofs.rows.write_bits.Given as goal

abbrev pub invariant-loop-row : goal.invariant-loop-row
invariant-loop-row l = l.bytes ≡ take l.start l.fn.bytes ++ (column_below l.column l.bit l.row ++ drop (l.start + l.row) l.fn.bytes)
