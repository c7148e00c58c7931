use Rattle.std.proofs.Common.{◌≡◌, [], None, subst, arith}
use Rattle.std.proofs.lemmas.Grind.{common_steps}
use Rattle.flow_graph.specs.Graphs.{IsGraph}
use Rattle.value_number.specs.TermWalks.{IsUnvisited, IsUnderWay}
use Rattle.value_number.proofs.Unvisited.{none_left}
use Rattle.value_number.proofs.TermWalks.{all_listed}
use Rattle.value_number.proofs.walk.Walk.walk_to.Goals as goal

pub loop-step-preserved : goal.loop-step-preserved
loop-step-preserved c =
    let e = c.in_ok-take.ensures in
    (e.walks, e.unvisited c.args.n c.in_default-stop_at.ensures.other (subst (IsUnvisited c.args.n c.loop-step.self.listed.items) c.in-Some.ensures.items c.loop-step.invariant.1))

pub unreachable-requires : goal.unreachable-requires
unreachable-requires c =
    let graph = c.args.graph.now in
    let walk = c.loop-step.self in
    let none : walk.steps.items ≡ [] = grind (arith, common_steps) in
    let kept = subst (λ l. IsUnderWay graph walk.table walk.numbers walk.listed.items l walk.holders.items None) none c.loop-step.invariant.0 in
    let is_graph = subst (λ l. IsGraph graph.vars graph.received l) c.nodes-nodes.ensures.value c.nodes-nodes.ensures.graph in
    none_left c.args.n walk.listed.items (subst (IsUnvisited c.args.n walk.listed.items) none c.loop-step.invariant.1)
    (all_listed graph is_graph walk.table walk.numbers walk.listed.items walk.holders.items kept c.args.n c.requires.there)
