use Rattle.std.proofs.Common.{◌≡◌, ◌∙◌, [], None, subst, arith, inl}
use Rattle.std.proofs.lemmas.Grind.{common_steps}
use Rattle.flow_graph.specs.Graphs.{IsGraph}
use Rattle.value_number.specs.KeptTerms.{AreKeptOrLeft}
use Rattle.value_number.specs.TermWalks.{IsUnderWay}
use Rattle.value_number.proofs.KeptTerms.{all_kept, keeps_long, step_kept}
use Rattle.value_number.proofs.all_terms.walk_over.Goals as goal

pub loop-step-init : goal.loop-step-init
loop-step-init c = (c.requires.walks, c.requires.long, λ n. inl (c.requires.unvisited n))

pub loop-step-preserved : goal.loop-step-preserved
loop-step-preserved c =
    let graph = c.args.graph.now in
    let before = c.loop-step.walk in
    let after = c.take.new.self in
    let e = c.in_ok-take.ensures in
    let walks = subst (λ l. IsUnderWay graph before.table before.numbers before.listed.items l before.holders.items None) c.in-Some.ensures.items c.loop-step.invariant.0 in
    let kept = subst (λ l. AreKeptOrLeft graph before.table before.listed.items l c.loop-step.nodes.items) c.in-Some.ensures.items c.loop-step.invariant.2 in
    let long = keeps_long c.in-Some.step before.numbers c.loop-step.nodes.items c.keep.new.nodes.items c.in_ok-keep.ensures ∙ c.loop-step.invariant.1 in
    (e.walks, long, step_kept graph before.table after.table before.numbers before.listed.items after.listed.items c.pop.new.self.items after.steps.items before.holders.items c.loop-step.nodes.items c.keep.new.nodes.items c.loop-step.invariant.1 e.stay e.walks.stand c.in-Some.step walks c.in_ok-keep.ensures e.unvisited kept)

pub returns-clause-terms : goal.returns-clause-terms
returns-clause-terms c =
    let graph = c.args.graph.now in
    let walk = c.loop-step.walk in
    let none : walk.steps.items ≡ [] = grind (arith, common_steps) in
    all_kept graph (subst (λ l. IsGraph graph.vars graph.received l) c.nodes-nodes.ensures.value c.nodes-nodes.ensures.graph) walk.table walk.numbers walk.listed.items walk.holders.items c.loop-step.nodes.items
    (subst (λ l. IsUnderWay graph walk.table walk.numbers walk.listed.items l walk.holders.items None) none c.loop-step.invariant.0) c.loop-step.invariant.1
    (subst (λ l. AreKeptOrLeft graph walk.table walk.listed.items l c.loop-step.nodes.items) none c.loop-step.invariant.2)

pub returns-clause-entries : goal.returns-clause-entries
returns-clause-entries c = c.loop-step.invariant.0.entries
