use Rattle.std.proofs.Common.{ap, ◌∙◌}
use Rattle.flow_graph.specs.Edges.{EdgesShape}
use Rattle.flow_graph.specs.Graphs.{IsGraph}
use Rattle.live_range.proofs.HeldEdges.{held_rows}
use Rattle.live_range.proofs.Targets.{edges_enter}
use Rattle.live_range.specs.Wanted.{rows_by_target}
use Rattle.live_range.proofs.holding.held_edges.Goals as goal

pub by_target-requires-clause-within : goal.by_target-requires-clause-within
by_target-requires-clause-within g c =
    let is_graph : IsGraph c.args.graph.now.vars c.args.graph.now.received c.args.graph.now.nodes = rw (← c.nodes-nodes.ensures.value) c.nodes-nodes.ensures.graph in
    rw (c.in_ok-wanted.ensures.shape.len, c.requires.edges) (edges_enter c.args.graph.now.nodes (λ m slot s edge. (is_graph.can.succs m slot s edge).1))

pub returns : goal.returns
returns g c =
    let graph = c.args.graph.now in
    let is_graph : IsGraph c.args.graph.now.vars c.args.graph.now.received c.args.graph.now.nodes = rw (← c.nodes-nodes.ensures.value) c.nodes-nodes.ensures.graph in
    record {
      held = held_rows graph is_graph c.requires.split c.args.table.now (g.R.DownRule.is_down c.args.rule.now graph) c.args.placement.now c.requires.admissible
          c.in_ok-wanted.wanted c.in_ok-edges.edges (rw (← c.len.ensures.len) c.in_ok-wanted.ensures.shape) (rw (← c.len.ensures.len) c.in_ok-wanted.ensures.wanted)
          (c.in_ok-edges.ensures ∙ ap (λ (edges : EdgesShape). rows_by_target edges.edges c.in_ok-wanted.wanted) c.requires.edges);
    }
