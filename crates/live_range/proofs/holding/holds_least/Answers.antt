use Rattle.flow_graph.specs.Graphs.{IsGraph}
use Rattle.motion_rewrite.specs.Placements.{places_of}
use Rattle.live_range.proofs.HeldEdges.{lazy_least}
use Rattle.live_range.proofs.holding.holds_least.Goals as goal

pub returns : goal.returns
returns g c = λ i e at.
    let graph = c.args.graph.now in
    let is_graph : IsGraph c.args.graph.now.vars c.args.graph.now.received c.args.graph.now.nodes = rw (← c.nodes-nodes.ensures.value) c.nodes-nodes.ensures.graph in
    lazy_least graph is_graph c.requires.split e (g.R.DownRule.is_down c.args.rule.now graph e) (g.met.R.DownRule.laws c.args.rule.now graph is_graph c.requires.split e) (places_of c.args.placement.now i) (c.requires.lazy i e at)
