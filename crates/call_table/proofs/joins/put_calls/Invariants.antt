use Rattle.std.proofs.Common.{◌≡◌, ◌++◌}
use Rattle.table_text.specs.Lines.{names_of_units}
use Rattle.call_table.specs.Joins.{calls_below}
use Rattle.call_table.proofs.joins.put_calls.Given as goal

abbrev pub invariant-loop-number : goal.invariant-loop-number
invariant-loop-number l = l.text.items ≡ l.fn.text.items ++ calls_below (names_of_units l.units) l.leaves.units l.nodes l.number
