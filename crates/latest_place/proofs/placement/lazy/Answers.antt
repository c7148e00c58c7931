use Rattle.flow_graph.specs.Graphs.{IsGraph}
use Rattle.motion_rewrite.specs.PlacementLaws.{admissible_flattens}
use Rattle.latest_place.specs.Optimal.{lazy_optimal}
use Rattle.latest_place.proofs.placement.lazy.Goals as goal

pub returns-clause-optimal : goal.returns-clause-optimal
returns-clause-optimal g c = λ i e at.
    let is_graph : IsGraph c.args.graph.now.vars c.args.graph.now.received c.args.graph.now.nodes = rw (← c.nodes.ensures.value) c.nodes.ensures.graph in
    lazy_optimal c.args.graph.now is_graph c.requires.split e (g.R.DownRule.is_down c.args.rule.now c.args.graph.now e)
    (g.met.R.DownRule.laws c.args.rule.now c.args.graph.now is_graph c.requires.split e) _
    (c.in_ok-placement.ensures.lazy i e at)

pub returns-clause-flattens : goal.returns-clause-flattens
returns-clause-flattens g c = λ i e at.
    let is_graph : IsGraph c.args.graph.now.vars c.args.graph.now.received c.args.graph.now.nodes = rw (← c.nodes.ensures.value) c.nodes.ensures.graph in
    admissible_flattens c.args.graph.now e (g.R.DownRule.is_down c.args.rule.now c.args.graph.now e) (g.met.R.DownRule.laws c.args.rule.now c.args.graph.now is_graph c.requires.split e) is_graph.can _
    (returns-clause-optimal g c i e at).admissible
