use Rattle.std.proofs.Common.{◌≤◌, List, drop, length}
use Rattle.flow_graph.specs.declared.nodes.Node.{Node}
use Rattle.tail_loop.specs.Tails.{AreLooped}
use Rattle.tail_loop.proofs.looping.looped.Given as goal

abbrev pub invariant-loop-call : goal.invariant-loop-call
invariant-loop-call l = record {
  long : length l.graph.nodes ≤ length l.nodes.items;
  goes_on : (looped : List Node) → AreLooped l.graph l.unit (drop l.call-index l.calls) l.nodes.items looped → AreLooped l.graph l.unit l.calls l.graph.nodes looped;
}
