use Rattle.std.proofs.Common.{◌∙◌, ◌<◌, ℕ, length, sym, ap, subst, arith}
use Rattle.std.specs.Option.{option_map}
use Rattle.std.proofs.lemmas.List.{get_or_default}
use Rattle.std.proofs.lemmas.Option.{slice_get_within}
use Rattle.flow_graph.specs.Graphs.{IsEdge}
use Rattle.cond_flow.specs.States.{Unreached, state_where}
use Rattle.cond_flow.specs.FlowLaws.{where_size}
use Rattle.cond_flow.specs.Holding.{HoldsAt}
use Rattle.cond_flow.specs.KnownBefore.{AreStatesOf, IsKnownBefore, PassesTo, state_of_known}
use Rattle.cond_flow.specs.BecomingLaws.{known_is_one}
use Rattle.cond_flow.specs.StepLaws.{states_hold}
use Rattle.cond_flow.proofs.Rewrites.{passes_known}
use Rattle.cond_flow.proofs.least_states.LeastStates.before.Goals as goal
use Rattle.cond_flow.proofs.least_states.LeastStates.before.Goals.{In_ok-told}
use Rattle.cond_flow.proofs.least_states.LeastStates.before.Given.{Over}

-- what passes to the node is what is known before it
tells : (g : Over) (c : In_ok-told g) → IsKnownBefore g.K.Knowledge.below g.K.Knowledge.rules c.args.graph.now c.args.node (option_map (λ list. list.items) c.in_ok-told.told)
tells g c =
    let laws = g.met.K.Knowledge.laws in
    let graph = c.args.graph.now in
    let inside = c.self.inside in
    let b = c.block_of-block.result in
    let list = c.nodes-list.result.now in
    let state = c.value-state.result.now in
    let are = subst (AreStatesOf g.K.Knowledge.below g.K.Knowledge.rules graph) (sym c.self.view_is) c.requires.states in
    let low : b < length inside.values = omega (arith, slice_get_within inside.blocks.lists b list c.nodes-list.ensures, are.least.long) in
    let succs = λ (m : ℕ) (slot : ℕ) (s : ℕ) (edge : IsEdge graph.nodes m slot s). c.nodes-nodes.ensures.graph.can.succs m slot s (subst (λ l. IsEdge l m slot s) (sym c.nodes-nodes.ensures.value) edge) in
    passes_known laws.order laws.rising graph inside.blocks inside.values (λ m slot s edge. subst (λ l. s < length l) c.nodes-nodes.ensures.value (succs m slot s edge).1) (λ m slot edge. (let bad = (succs m slot 0 edge).0 in omega (arith, bad))) are.least
    b c.args.node list state c.pass_in-reaches.result c.pass_in-reaches.new.known (option_map (λ list. list.items) c.in_ok-told.told)
    c.requires.there c.nodes-list.ensures (c.value-state.ensures ∙ get_or_default inside.values b state (Unreached 0) low)
    (subst (λ s. PassesTo g.K.Knowledge.rules graph list c.args.node s (state_where c.pass_in-reaches.result c.pass_in-reaches.new.known)) (ap (state_where c.state.inside.reached) c.in_ok-known.ensures ∙ c.state.view_is) c.pass_in-reaches.ensures)
    (ap (λ n. state_of_known n (option_map (λ list. list.items) c.in_ok-told.told)) (sym (where_size c.pass_in-reaches.result c.pass_in-reaches.new.known)) ∙ sym c.in_ok-told.ensures)

pub returns-clause-known : goal.returns-clause-known
returns-clause-known g c = tells g (goal.at.returns-clause-known g c).In_ok-told

pub returns-clause-only : goal.returns-clause-only
returns-clause-only g c = λ other is. known_is_one g.met.K.Knowledge.laws.order c.args.graph.now c.args.node other _ c.requires.there is (tells g (goal.at.returns-clause-only g c).In_ok-told)

pub returns-clause-holds : goal.returns-clause-holds
returns-clause-holds g c = λ frame of_run at.
    let graph = c.args.graph.now in
    let known = tells g (goal.at.returns-clause-holds g c).In_ok-told in
    subst (λ s. HoldsAt g.K.Knowledge.holds g.K.Knowledge.rules s frame.values) (ap known.states at ∙ known.here) (states_hold g.met.K.Knowledge.laws graph.shared graph.received graph.nodes (length graph.vars) known.states known.least.are g.met.K.Knowledge.is_open frame of_run)
