use Rattle.std.proofs.Common.{◌≡◌, [], None, subst, arith}
use Rattle.std.proofs.lemmas.Grind.{common_steps}
use Rattle.flow_graph.specs.Graphs.{IsGraph}
use Rattle.value_number.specs.TermWalks.{IsUnderWay}
use Rattle.value_number.proofs.TermWalks.{all_visited}
use Rattle.value_number.proofs.walk.holders.Goals as goal

pub returns : goal.returns
returns c =
    let graph = c.args.graph.now in
    let walk = c.loop-step.walk in
    let none : walk.steps.items ≡ [] = grind (arith, common_steps) in
    all_visited graph (subst (λ l. IsGraph graph.vars graph.received l) c.nodes-nodes.ensures.value c.nodes-nodes.ensures.graph) walk.table walk.numbers walk.listed.items walk.holders.items
    (subst (λ l. IsUnderWay graph walk.table walk.numbers walk.listed.items l walk.holders.items None) none c.loop-step.invariant)
