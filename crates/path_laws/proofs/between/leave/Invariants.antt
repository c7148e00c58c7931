use Rattle.path_laws.specs.Between.{AreOutTo}
use Rattle.flow_graph.specs.FlowEdges.{first_out}
use Rattle.path_laws.proofs.between.leave.Given as goal

abbrev pub invariant-loop-number : goal.invariant-loop-number
invariant-loop-number l = AreOutTo l.against l.graph.nodes l.blocks.lists l.block l.from (first_out l.against l.graph.nodes l.from) l.number l.fn.list.items l.list.items
