use Rattle.std.proofs.Common.{◌≡◌, ◌++◌}
use Rattle.pass_table.specs.Copies.{copies_below}
use Rattle.pass_table.proofs.copies.put_each.Given as goal

abbrev pub invariant-loop-number : goal.invariant-loop-number
invariant-loop-number l =
    l.text.items ≡ l.fn.text.items ++ copies_below l.graph.vars l.table l.held l.number
