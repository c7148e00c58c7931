use Rattle.flow_graph.specs.Graphs.{IsGraph}
use Rattle.live_range.proofs.HeldEdges.{lazy_admissible}
use Rattle.live_range.proofs.holding.ranges.Goals as goal

pub held_edges-requires-clause-admissible : goal.held_edges-requires-clause-admissible
held_edges-requires-clause-admissible g c =
    let graph = c.args.graph.now in
    let is_graph : IsGraph c.args.graph.now.vars c.args.graph.now.received c.args.graph.now.nodes = rw (← c.nodes-nodes.ensures.value) c.nodes-nodes.ensures.graph in
    lazy_admissible graph is_graph c.requires.split c.args.table.now (g.R.DownRule.is_down c.args.rule.now graph) (λ e. g.met.R.DownRule.laws c.args.rule.now graph is_graph c.requires.split e) c.args.placement.now c.requires.lazy
