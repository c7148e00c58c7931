use Rattle.std.proofs.Common.{◌≡◌, ◌<◌, ℕ, false, slice_get, Some}
use Rattle.flow_graph.specs.declared.nodes.Node.{Node}
use Rattle.unread_div.specs.Flags.{divides_there}
use Rattle.unread_div.proofs.dead.has_division.Given as goal

abbrev pub invariant-loop-node : goal.invariant-loop-node
invariant-loop-node l = (n : ℕ) (node : Node) → n < l.node-index → slice_get l.nodes n ≡ Some node → divides_there node ≡ false
