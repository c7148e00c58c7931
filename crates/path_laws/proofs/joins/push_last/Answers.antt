use Rattle.std.proofs.Common.{◌≡◌, false, ◌<◌, ◌≤◌, suc, length, slice_get, Some, sym, ap, arith, ◌∙◌}
use Rattle.flow_graph.specs.Graphs.{AllWithin}
use Rattle.flow_graph.specs.FlowEdges.{first_out, flow_edges}
use Rattle.flow_graph.specs.FlowEdgeLaws.{flow_edges_are}
use Rattle.path_laws.proofs.Lasting.{ended_all, ended_next, stopped_first}
use Rattle.path_laws.proofs.joins.push_last.Goals as goal
use Rattle.path_laws.proofs.joins.push_last.Goals.{After-flow_edge-next, After-leaving-first}

within : (c : After-leaving-first) → AllWithin c.args.graph.now.nodes
within c = λ m slot s edge. rw (← c.nodes-nodes.ensures.value) (c.nodes-nodes.ensures.graph.can.succs m slot s (rw c.nodes-nodes.ensures.value edge)).1

first_is : (c : After-leaving-first) → c.leaving-first.result.0 ≡ first_out false c.args.graph.now.nodes c.args.node
first_is c = rw c.requires.edges at c.leaving-first.ensures.first

end_is : (c : After-leaving-first) → c.leaving-first.result.1 ≡ first_out false c.args.graph.now.nodes (suc c.args.node)
end_is c = rw c.requires.edges at c.leaving-first.ensures.end

next_there : (c : After-flow_edge-next) → slice_get (flow_edges false c.args.graph.now.nodes) c.loop-number.number ≡ Some (record { source = c.flow_edge-next.result.0; target = c.flow_edge-next.result.1 })
next_there c = rw c.requires.edges at c.flow_edge-next.ensures

next_in : (c : After-flow_edge-next) → c.flow_edge-next.result.1 < length c.args.graph.now.nodes
next_in c = ((flow_edges_are c.args.graph.now.nodes (within (goal.at.After-flow_edge-next c).After-leaving-first) false).ends c.loop-number.number _ (next_there c)).1

pub loop-number-init : goal.loop-number-init
loop-number-init c =
    let known = (goal.at.loop-number-init c).After-leaving-first in
    let pushed = rw c.row.ensures at c.in_ok-push.ensures.ok in
    let kept = rw c.row-here.ensures at c.and_from.ensures in
    rw (first_is known) (stopped_first c.args.graph.now.nodes (within known) c.args.bits c.args.rows.now c.args.stop.now c.args.node c.args.all.now c.push.new.self c.and_from.new.self
    c.requires.all (c.requires.rows.each c.args.node c.requires.node) (c.requires.stop.each c.args.node c.requires.node) pushed kept)

pub flow_edge-next-requires : goal.flow_edge-next-requires
flow_edge-next-requires c =
    let known = (goal.at.flow_edge-next-requires c).After-leaving-first in
    let few = (flow_edges_are c.args.graph.now.nodes (within known) false).stops c.args.node in
    let early : c.loop-number.number < length (flow_edges false c.args.graph.now.nodes) = omega (arith, c.loop-number-test.true, end_is known, few) in
    rw c.requires.edges early

pub row-requires-in-loop-number : goal.row-requires-in-loop-number
row-requires-in-loop-number c = rw c.requires.rows.len (next_in (goal.at.row-requires-in-loop-number c).After-flow_edge-next)

pub or_minus_from-requires-clause-less : goal.or_minus_from-requires-clause-less
or_minus_from-requires-clause-less c =
    c.loop-number.invariant.shape.each c.args.node (omega arith)
    ∙ sym (ap length c.row-in-loop-number.ensures ∙ c.requires.rows.each c.flow_edge-next.result.1 (next_in (goal.at.or_minus_from-requires-clause-less c).After-flow_edge-next))

pub loop-number-preserved : goal.loop-number-preserved
loop-number-preserved c =
    let known = (goal.at.loop-number-preserved c).After-flow_edge-next in
    let early = (goal.at.After-flow_edge-next known).After-leaving-first in
    let low : first_out false c.args.graph.now.nodes c.args.node ≤ c.loop-number.number = omega (arith, c.loop-number.auto.number, first_is early) in
    let high : c.loop-number.number < first_out false c.args.graph.now.nodes (suc c.args.node) = omega (arith, c.loop-number-test.true, end_is early) in
    ended_next c.args.graph.now.nodes (within early) c.args.bits c.args.rows.now c.args.stop.now c.args.node c.loop-number.number c.flow_edge-next.result.1 c.flow_edge-next.result.0 c.loop-number.all c.or_minus_from.new.self
    c.loop-number.invariant (c.requires.rows.each c.args.node c.requires.node) (c.requires.rows.each c.flow_edge-next.result.1 (next_in known)) (next_there known) low high (rw (c.row-here.ensures, c.row-in-loop-number.ensures) at c.or_minus_from.ensures)

pub returns : goal.returns
returns c =
    let known = (goal.at.returns c).After-leaving-first in
    let late : first_out false c.args.graph.now.nodes (suc c.args.node) ≤ c.loop-number.number = omega (arith, c.loop-number-test.false, end_is known) in
    ended_all c.args.graph.now.nodes (within known) c.args.bits c.args.rows.now c.args.stop.now c.args.node c.loop-number.number c.loop-number.all c.loop-number.invariant late
