use Rattle.std.proofs.Common.{◌≡◌, ℕ, ◌<◌, true, slice_get, Some}
use Rattle.flow_graph.specs.declared.nodes.Node.{Node}
use Rattle.cond_flow.specs.Reading.{goes_on}
use Rattle.cond_flow.proofs.reading.all_go_on.Given as goal

abbrev pub invariant-loop-i : goal.invariant-loop-i
invariant-loop-i l =
    (j n : ℕ) (node : Node) → j < l.i → slice_get l.list j ≡ Some n → slice_get l.graph.nodes n ≡ Some node
    → goes_on node ≡ true
