use Rattle.std.proofs.Common.{◌≡◌, ◌++◌}
use Rattle.wanted_table.specs.WantedLines.{row_text}
use Rattle.wanted_table.proofs.numbers.put_row.Given as goal

abbrev pub invariant-loop-x : goal.invariant-loop-x
invariant-loop-x l = l.text.items ≡ l.fn.text.items ++ row_text l.row l.x
