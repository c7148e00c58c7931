use Rattle.std.proofs.Common.{◌≡◌, ◌+◌, ◌<◌, ◌≤◌, not, suc, length, slice_get, Some, sym, ap, subst, arith, ◌∙◌}
use Rattle.std.proofs.lemmas.Result.{on_ok_weaker}
use Rattle.flow_graph.specs.Graphs.{AllWithin}
use Rattle.flow_graph.specs.FlowEdges.{first_out, flow_edges}
use Rattle.flow_graph.specs.FlowEdgeLaws.{flow_edges_are}
use Rattle.path_laws.proofs.Joining.{TellStepsTo, joined_all, joined_first, joined_next, joined_none}
use Rattle.path_laws.proofs.joins.push_step.Goals as goal
use Rattle.path_laws.proofs.joins.push_step.Goals.{After-flow_edge-next, After-flow_edge-start, After-leaving-first}

within : (c : After-leaving-first) → AllWithin c.args.graph.now.nodes
within c = λ m slot s edge. rw (← c.nodes-nodes.ensures.value) (c.nodes-nodes.ensures.graph.can.succs m slot s (rw c.nodes-nodes.ensures.value edge)).1

first_is : (c : After-leaving-first) → c.leaving-first.result.0 ≡ first_out (not c.args.against) c.args.graph.now.nodes c.args.node
first_is c = rw c.requires.edges at c.leaving-first.ensures.first

end_is : (c : After-leaving-first) → c.leaving-first.result.1 ≡ first_out (not c.args.against) c.args.graph.now.nodes (suc c.args.node)
end_is c = rw c.requires.edges at c.leaving-first.ensures.end

there : (c : After-flow_edge-start) → slice_get (flow_edges (not c.args.against) c.args.graph.now.nodes) c.leaving-first.result.0 ≡ Some (record { source = c.flow_edge-start.result.0; target = c.flow_edge-start.result.1 })
there c = rw c.requires.edges at c.flow_edge-start.ensures

start_in : (c : After-flow_edge-start) → c.flow_edge-start.result.1 < length c.args.graph.now.nodes
start_in c = ((flow_edges_are c.args.graph.now.nodes (within (goal.at.After-flow_edge-start c).After-leaving-first) (not c.args.against)).ends c.leaving-first.result.0 _ (there c)).1

next_there : (c : After-flow_edge-next) → slice_get (flow_edges (not c.args.against) c.args.graph.now.nodes) c.loop-number.number ≡ Some (record { source = c.flow_edge-next.result.0; target = c.flow_edge-next.result.1 })
next_there c = rw c.requires.edges at c.flow_edge-next.ensures

next_in : (c : After-flow_edge-next) → c.flow_edge-next.result.1 < length c.args.graph.now.nodes
next_in c = ((flow_edges_are c.args.graph.now.nodes (within (goal.at.After-flow_edge-next c).After-leaving-first) (not c.args.against)).ends c.loop-number.number _ (next_there c)).1

pub flow_edge-start-requires : goal.flow_edge-start-requires
flow_edge-start-requires c =
    let known = (goal.at.flow_edge-start-requires c).After-leaving-first in
    let few = (flow_edges_are c.args.graph.now.nodes (within known) (not c.args.against)).stops c.args.node in
    let early : c.leaving-first.result.0 < length (flow_edges (not c.args.against) c.args.graph.now.nodes) = omega (arith, c.if-first-end.true, end_is known, few) in
    rw c.requires.edges early

pub row-requires : goal.row-requires
row-requires c = rw c.requires.rows.len (start_in (goal.at.row-requires c).After-flow_edge-start)

pub push-requires : goal.push-requires
push-requires c =
    let long = ap length c.row.ensures ∙ c.requires.rows.each c.flow_edge-start.result.1 (start_in (goal.at.push-requires c).After-flow_edge-start) in
    record { each = λ k h. c.requires.all.shape.each k (rw c.requires.all.shape.len at h) ∙ sym long }

pub loop-number-init : goal.loop-number-init
loop-number-init c =
    let known = (goal.at.loop-number-init c).After-flow_edge-start in
    let early = (goal.at.After-flow_edge-start known).After-leaving-first in
    let nodes = c.args.graph.now.nodes in
    let first = first_is early in
    let some : first_out (not c.args.against) c.args.graph.now.nodes c.args.node < first_out (not c.args.against) c.args.graph.now.nodes (suc c.args.node) = omega (arith, c.if-first-end.true, first, end_is early) in
    let made = joined_first c.args.against nodes (within early) c.args.bits c.args.rows.now c.args.node c.flow_edge-start.result.1 c.flow_edge-start.result.0 c.args.all.now c.push.new.self
    c.requires.all (c.requires.rows.each c.flow_edge-start.result.1 (start_in known)) (subst (λ e. slice_get (flow_edges (not c.args.against) c.args.graph.now.nodes) e ≡ Some (record { source = c.flow_edge-start.result.0; target = c.flow_edge-start.result.1 })) first (there known)) some (rw c.row.ensures at c.in_ok-push.ensures.ok) in
    subst (λ k. TellStepsTo c.args.against c.args.graph.now.nodes c.args.bits c.args.rows.now c.args.node (k + 1) c.push.new.self) (sym first) made

pub flow_edge-next-requires : goal.flow_edge-next-requires
flow_edge-next-requires c =
    let known = (goal.at.flow_edge-next-requires c).After-leaving-first in
    let few = (flow_edges_are c.args.graph.now.nodes (within known) (not c.args.against)).stops c.args.node in
    let early : c.loop-number.number < length (flow_edges (not c.args.against) c.args.graph.now.nodes) = omega (arith, c.loop-number-test.true, end_is known, few) in
    rw c.requires.edges early

pub row-requires-in-loop-number : goal.row-requires-in-loop-number
row-requires-in-loop-number c = rw c.requires.rows.len (next_in (goal.at.row-requires-in-loop-number c).After-flow_edge-next)

pub or_from-requires-clause-equally_long : goal.or_from-requires-clause-equally_long
or_from-requires-clause-equally_long c =
    c.loop-number.invariant.shape.each c.args.node (omega arith)
    ∙ sym (ap length c.row-in-loop-number.ensures ∙ c.requires.rows.each c.flow_edge-next.result.1 (next_in (goal.at.or_from-requires-clause-equally_long c).After-flow_edge-next))

pub loop-number-preserved : goal.loop-number-preserved
loop-number-preserved c =
    let known = (goal.at.loop-number-preserved c).After-flow_edge-next in
    let early = (goal.at.After-flow_edge-next known).After-leaving-first in
    let low : first_out (not c.args.against) c.args.graph.now.nodes c.args.node ≤ c.loop-number.number = omega (arith, c.loop-number.auto.number, first_is early) in
    let high : c.loop-number.number < first_out (not c.args.against) c.args.graph.now.nodes (suc c.args.node) = omega (arith, c.loop-number-test.true, end_is early) in
    joined_next c.args.against c.args.graph.now.nodes (within early) c.args.bits c.args.rows.now c.args.node c.loop-number.number c.flow_edge-next.result.1 c.flow_edge-next.result.0 c.loop-number.all c.or_from.new.self
    c.loop-number.invariant (c.requires.rows.each c.flow_edge-next.result.1 (next_in known)) (next_there known) low high (rw c.row-in-loop-number.ensures at c.or_from.ensures)

pub returns-after-loop-number : goal.returns-after-loop-number
returns-after-loop-number c =
    let known = (goal.at.returns-after-loop-number c).After-leaving-first in
    let late : first_out (not c.args.against) c.args.graph.now.nodes (suc c.args.node) ≤ c.loop-number.number = omega (arith, c.loop-number-test.false, end_is known) in
    joined_all c.args.against c.args.graph.now.nodes (within known) c.args.bits c.args.rows.now c.args.node c.loop-number.number c.loop-number.all c.loop-number.invariant late

pub returns-else-first-end : goal.returns-else-first-end
returns-else-first-end c =
    let known = (goal.at.returns-else-first-end c).After-leaving-first in
    let none : first_out (not c.args.against) c.args.graph.now.nodes (suc c.args.node) ≤ first_out (not c.args.against) c.args.graph.now.nodes c.args.node = omega (arith, c.if-first-end.false, first_is known, end_is known) in
    on_ok_weaker c.push_false.result (joined_none c.args.against c.args.graph.now.nodes (within known) c.args.bits c.args.rows.now c.args.node c.args.all.now c.push_false.new.self c.requires.all none) c.push_false.ensures.ok
