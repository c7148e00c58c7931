use Rattle.std.proofs.Common.{◌≡◌, ◌++◌}
use Rattle.pass_table.specs.Patterns.{found_of, patterns_below}
use Rattle.pass_table.proofs.patterns.put_each.Given as goal

abbrev pub invariant-loop-number : goal.invariant-loop-number
invariant-loop-number l =
    l.text.items ≡ l.fn.text.items ++ patterns_below l.graph.vars (found_of l.lines) l.number
