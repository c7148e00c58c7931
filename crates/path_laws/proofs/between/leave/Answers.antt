use Rattle.std.proofs.Common.{◌≡◌, ◌<◌, ◌≤◌, suc, length, slice_get, Some, refl, sym, subst, arith}
use Rattle.flow_graph.specs.Graphs.{AllWithin}
use Rattle.path_laws.specs.Between.{AreOutTo}
use Rattle.flow_graph.specs.FlowEdges.{first_out, flow_edges}
use Rattle.flow_graph.specs.FlowEdgeLaws.{flow_edges_are}
use Rattle.path_laws.specs.Leaving.{out_all, out_more, out_none}
use Rattle.path_laws.proofs.between.leave.Goals as goal
use Rattle.path_laws.proofs.between.leave.Goals.{After-flow_edge-target, After-leaving-first}

within : (c : After-leaving-first) → AllWithin c.args.graph.now.nodes
within c = λ m slot s edge. rw (← c.nodes-nodes.ensures.value) (c.nodes-nodes.ensures.graph.can.succs m slot s (rw c.nodes-nodes.ensures.value edge)).1

first_is : (c : After-leaving-first) → c.leaving-first.result.0 ≡ first_out c.args.against c.args.graph.now.nodes c.args.from
first_is c = rw c.requires.edges at c.leaving-first.ensures.first

end_is : (c : After-leaving-first) → c.leaving-first.result.1 ≡ first_out c.args.against c.args.graph.now.nodes (suc c.args.from)
end_is c = rw c.requires.edges at c.leaving-first.ensures.end

pub flow_edge-target-requires : goal.flow_edge-target-requires
flow_edge-target-requires c =
    let known = (goal.at.flow_edge-target-requires c).After-leaving-first in
    let end = end_is known in
    let few = (flow_edges_are c.args.graph.now.nodes (within known) c.args.against).stops c.args.from in
    let early : c.loop-number.number < length (flow_edges c.args.against c.args.graph.now.nodes) = omega (arith, c.loop-number-test.true, end, few) in
    rw c.requires.edges early

pub loop-number-init : goal.loop-number-init
loop-number-init c =
    let none = out_none c.args.against c.args.graph.now.nodes c.args.blocks.now.lists c.args.block c.args.from c.requires.ahead c.args.list.now.items c.args.list.now.items refl in
    subst (λ k. AreOutTo c.args.against c.args.graph.now.nodes c.args.blocks.now.lists c.args.block c.args.from (first_out c.args.against c.args.graph.now.nodes c.args.from) k c.args.list.now.items c.args.list.now.items) (sym (first_is (goal.at.loop-number-init c).After-leaving-first)) none

there : (c : After-flow_edge-target) → slice_get (flow_edges c.args.against c.args.graph.now.nodes) c.loop-number.number ≡ Some (record { source = c.flow_edge-target.result.0; target = c.flow_edge-target.result.1 })
there c = rw c.requires.edges at c.flow_edge-target.ensures

pub block_of-requires : goal.block_of-requires
block_of-requires c =
    let known = (goal.at.block_of-requires c).After-flow_edge-target in
    let ends = (flow_edges_are c.args.graph.now.nodes (within (goal.at.After-flow_edge-target known).After-leaving-first) c.args.against).ends c.loop-number.number _ (there known) in
    rw c.requires.blocks.count ends.1

pub loop-number-preserved : goal.loop-number-preserved
loop-number-preserved c =
    let known = (goal.at.loop-number-preserved c).After-flow_edge-target in
    let early = (goal.at.After-flow_edge-target known).After-leaving-first in
    let first = first_is early in
    let end = end_is early in
    let low : first_out c.args.against c.args.graph.now.nodes c.args.from ≤ c.loop-number.number = omega (arith, c.loop-number.auto.number, first) in
    let high : c.loop-number.number < first_out c.args.against c.args.graph.now.nodes (suc c.args.from) = omega (arith, c.loop-number-test.true, end) in
    out_more c.args.against c.args.graph.now.nodes c.args.blocks.now.lists c.args.block c.args.from c.requires.ahead c.args.list.now.items (within early) c.loop-number.number c.flow_edge-target.result.0 c.flow_edge-target.result.1
    c.loop-number.list.items c.push.new.self.items (record { source = c.args.block; target = c.block_of.result }) c.loop-number.invariant (there known) low high refl c.block_of.ensures c.in_ok-push.ensures.items

pub returns : goal.returns
returns c =
    let known = (goal.at.returns c).After-leaving-first in
    let late : first_out c.args.against c.args.graph.now.nodes (suc c.args.from) ≤ c.loop-number.number = omega (arith, c.loop-number-test.false, end_is known) in
    out_all c.args.against c.args.graph.now.nodes c.args.blocks.now.lists c.args.block c.args.from c.requires.ahead c.args.list.now.items (within known) c.loop-number.number c.loop-number.list.items c.loop-number.invariant late
