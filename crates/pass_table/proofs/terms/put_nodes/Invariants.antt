use Rattle.std.proofs.Common.{◌≡◌, ◌++◌}
use Rattle.pass_table.specs.Terms.{nodes_below}
use Rattle.pass_table.proofs.terms.put_nodes.Given as goal

abbrev pub invariant-loop-node : goal.invariant-loop-node
invariant-loop-node l = l.text.items ≡ l.fn.text.items ++ nodes_below l.nodes l.node
