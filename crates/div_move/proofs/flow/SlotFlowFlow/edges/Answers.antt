use Rattle.std.proofs.Common.{◌∙◌, true, length, sym, ap}
use Rattle.flow_graph.specs.Edges.{EdgesShape}
use Rattle.flow_graph.specs.FlowEdgeLaws.{length_flow_edges}
use Rattle.div_move.proofs.flow.SlotFlowFlow.edges.Goals as goal

pub returns : goal.returns
returns g c = c.len.ensures ∙ ap (λ (x : EdgesShape). length x.edges) c.requires.edges_are ∙ sym (length_flow_edges true c.args.self.now.graph.now.nodes c.requires.within)
