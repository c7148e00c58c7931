use Rattle.std.proofs.Common.{◌∙◌}
use Rattle.flow_graph.specs.Edges.{by_target}
use Rattle.flow_graph.proofs.EdgeOrder.{edge_by_target, sources_by_target, targets_by_target}
use Rattle.flow_graph.proofs.edges.Edges.entering_edge.Goals as goal

pub returns : goal.returns
returns c =
    let now = c.args.self.now in
    let inside = c.self.inside in
    let sources = c.items.ensures ∙ sources_by_target inside.nodes inside.edges inside.sources inside.targets inside.starts inside.entries now c.self.invariant c.self.view_is in
    let targets = c.items-2.ensures ∙ targets_by_target inside.nodes inside.edges inside.sources inside.targets inside.starts inside.entries now c.self.invariant c.self.view_is in
    edge_by_target (by_target now.nodes now.edges) c.items.result.now c.items-2.result.now c.args.number _ _ sources targets c.requires
