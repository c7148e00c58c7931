use Rattle.std.proofs.Common.{◌≡◌, ◌++◌, drop, ◌+◌, length}
use Rattle.flow_graph.specs.Lowered.{all_nodes as nodes_of, nodes_from}
use Rattle.flow_graph.proofs.lowering.all_nodes.Given as goal

abbrev pub invariant-loop-inst : goal.invariant-loop-inst
invariant-loop-inst l = record {
  all : l.nodes.items ++ nodes_from l.place (drop l.inst-index l.insts) ≡ nodes_of l.insts;
  place : l.place ≡ l.inst-index;
  long : length l.nodes.items ≡ l.place + 1;
}
