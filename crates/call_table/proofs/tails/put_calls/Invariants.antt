use Rattle.std.proofs.Common.{◌≡◌, ◌++◌}
use Rattle.table_text.specs.Lines.{names_of_units}
use Rattle.call_table.specs.Tails.{tails_below}
use Rattle.call_table.proofs.tails.put_calls.Given as goal

abbrev pub invariant-loop-node : goal.invariant-loop-node
invariant-loop-node l = l.text.items ≡ l.fn.text.items ++ tails_below (names_of_units l.units) l.calls l.node
