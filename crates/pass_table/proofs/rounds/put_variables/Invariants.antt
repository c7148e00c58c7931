use Rattle.std.proofs.Common.{◌≡◌, ◌++◌}
use Rattle.pass_table.specs.Rounds.{variables_below}
use Rattle.pass_table.proofs.rounds.put_variables.Given as goal

abbrev pub invariant-loop-number : goal.invariant-loop-number
invariant-loop-number l = l.text.items ≡ l.fn.text.items ++ variables_below l.graph.vars l.live l.number
