use Rattle.std.proofs.Common.{◌≡◌, ℕ, ◌<◌, length, slice_get, Some}
use Rattle.flow_graph.specs.declared.nodes.Node.{Node}
use Rattle.cond_flow.specs.Reading.{AgreeOnNode}
use Rattle.cond_flow.proofs.reading.take_read.Given as goal

abbrev pub invariant-loop-i : goal.invariant-loop-i
invariant-loop-i g l = record {
  long : length l.into ≡ length l.fn.into;
  alike : (j n : ℕ) (node : Node) → j < l.i → slice_get l.list j ≡ Some n → slice_get l.graph.nodes n ≡ Some node
      → AgreeOnNode g.K.Knowledge.rules l.known l.into node;
}
