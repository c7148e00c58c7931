use Rattle.std.proofs.Common.{◌≡◌, ◌++◌}
use Rattle.wanted_table.specs.WantedLines.{lines_of}
use Rattle.wanted_table.proofs.numbers.put_each.Given as goal

abbrev pub invariant-loop-node : goal.invariant-loop-node
invariant-loop-node l = l.text.items ≡ l.fn.text.items ++ lines_of l.vars l.rows l.node
