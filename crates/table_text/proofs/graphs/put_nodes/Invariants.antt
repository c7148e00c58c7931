use Rattle.std.proofs.Common.{◌≡◌, ◌++◌, drop}
use Rattle.table_text.specs.Lines.{names_of_units}
use Rattle.table_text.specs.Nodes.{node_lines}
use Rattle.table_text.proofs.graphs.put_nodes.Given as goal

abbrev pub invariant-loop-number : goal.invariant-loop-number
invariant-loop-number l =
    l.text.items ++ node_lines (names_of_units l.units) l.graph.vars l.number (drop l.number l.nodes)
    ≡ l.fn.text.items ++ node_lines (names_of_units l.units) l.graph.vars 0 l.nodes
