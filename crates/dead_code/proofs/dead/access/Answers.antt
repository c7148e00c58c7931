use Rattle.std.proofs.Common.{◌-◌, ◌<◌, ◌∙◌, sym, true, length, slice_index_or, rules, arith}
use Rattle.dead_code.proofs.Flagging.{accessed_all, accessed_more, turn_at, turn_below, turn_graph, turn_node, turn_within}
use Rattle.dead_code.proofs.PrunedMarks.{marks_none, passes_none}
use Rattle.dead_code.proofs.dead.access.Goals as goal

pub offset_bounds-nodes-list : goal.offset_bounds-nodes-list
offset_bounds-nodes-list c =
    let within : slice_index_or c.nodes-list.result.now (length c.nodes-list.result.now - 1 - c.loop-back.back) 0 < length c.nodes-nodes.result.now
    = turn_within c.args.graph.now c.nodes-nodes.result.now c.nodes-nodes.ensures.value c.nodes-nodes.ensures.graph c.args.blocks.now.lists c.requires.blocks.are c.args.block c.nodes-list.result.now c.nodes-list.ensures c.loop-back.back c.loop-back-test.true in
    search rules

pub bounds-nodes-list : goal.bounds-nodes-list
bounds-nodes-list c = turn_within c.args.graph.now c.nodes-nodes.result.now c.nodes-nodes.ensures.value c.nodes-nodes.ensures.graph c.args.blocks.now.lists c.requires.blocks.are c.args.block c.nodes-list.result.now c.nodes-list.ensures c.loop-back.back c.loop-back-test.true

pub mark_assigned-requires-clause-vars : goal.mark_assigned-requires-clause-vars
mark_assigned-requires-clause-vars c =
    turn_below c.args.graph.now c.nodes-nodes.result.now c.nodes-nodes.ensures.value c.nodes-nodes.ensures.graph c.args.blocks.now.lists c.requires.blocks.are c.args.block c.nodes-list.result.now c.nodes-list.ensures c.loop-back.back c.loop-back-test.true
    _ c.index-nodes-list.result (c.loop-back.invariant.assigns_shape.each c.args.block c.requires.block) c.index-nodes-list.is

pub pass_back-requires-clause-vars : goal.pass_back-requires-clause-vars
pass_back-requires-clause-vars c =
    turn_below c.args.graph.now c.nodes-nodes.result.now c.nodes-nodes.ensures.value c.nodes-nodes.ensures.graph c.args.blocks.now.lists c.requires.blocks.are c.args.block c.nodes-list.result.now c.nodes-list.ensures c.loop-back.back c.loop-back-test.true
    _ c.index-nodes-list.result (c.loop-back.invariant.reads_shape.each c.args.block c.requires.block) c.index-nodes-list.is

pub loop-back-preserved : goal.loop-back-preserved
loop-back-preserved c =
    let list = c.nodes-list.result.now in
    let place = length list - 1 - c.loop-back.back in
    accessed_more c.args.graph.now c.args.blocks.now.lists c.args.block list
    (turn_graph c.args.graph.now c.nodes-nodes.result.now c.nodes-nodes.ensures.value c.nodes-nodes.ensures.graph c.args.blocks.now.lists c.requires.blocks.are c.args.block c.nodes-list.result.now c.nodes-list.ensures) c.requires.blocks.are c.nodes-list.ensures
    c.loop-back.back place (slice_index_or list place 0) c.index-nodes-list.result c.loop-back.reads c.loop-back.assigns c.pass_back.new.rows c.mark_assigned.new.rows
    c.loop-back.invariant (omega (arith, c.loop-back-test.true))
    (turn_at c.args.graph.now c.nodes-nodes.result.now c.nodes-nodes.ensures.value c.nodes-nodes.ensures.graph c.args.blocks.now.lists c.requires.blocks.are c.args.block c.nodes-list.result.now c.nodes-list.ensures c.loop-back.back c.loop-back-test.true)
    (turn_node c.args.graph.now c.nodes-nodes.result.now c.nodes-nodes.ensures.value c.nodes-nodes.ensures.graph c.args.blocks.now.lists c.requires.blocks.are c.args.block c.nodes-list.result.now c.nodes-list.ensures c.loop-back.back c.loop-back-test.true c.index-nodes-list.result c.index-nodes-list.is)
    c.mark_assigned.ensures c.pass_back.ensures

-- nothing is marked for a node that touches nothing
pub loop-back-preserved-then-touches_none : goal.loop-back-preserved-then-touches_none
loop-back-preserved-then-touches_none c =
    let list = c.nodes-list.result.now in
    let place = length list - 1 - c.loop-back.back in
    let node = c.index-nodes-list.result in
    let none = sym c.touches_none.ensures ∙ c.if-touches_none.true in
    accessed_more c.args.graph.now c.args.blocks.now.lists c.args.block list
    (turn_graph c.args.graph.now c.nodes-nodes.result.now c.nodes-nodes.ensures.value c.nodes-nodes.ensures.graph c.args.blocks.now.lists c.requires.blocks.are c.args.block c.nodes-list.result.now c.nodes-list.ensures) c.requires.blocks.are c.nodes-list.ensures
    c.loop-back.back place (slice_index_or list place 0) node c.loop-back.reads c.loop-back.assigns c.loop-back.reads c.loop-back.assigns
    c.loop-back.invariant (omega (arith, c.loop-back-test.true))
    (turn_at c.args.graph.now c.nodes-nodes.result.now c.nodes-nodes.ensures.value c.nodes-nodes.ensures.graph c.args.blocks.now.lists c.requires.blocks.are c.args.block c.nodes-list.result.now c.nodes-list.ensures c.loop-back.back c.loop-back-test.true)
    (turn_node c.args.graph.now c.nodes-nodes.result.now c.nodes-nodes.ensures.value c.nodes-nodes.ensures.graph c.args.blocks.now.lists c.requires.blocks.are c.args.block c.nodes-list.result.now c.nodes-list.ensures c.loop-back.back c.loop-back-test.true node c.index-nodes-list.is)
    (marks_none true c.args.graph.now node c.args.block c.loop-back.assigns none) (passes_none c.args.graph.now node c.args.block c.loop-back.reads none)

pub returns : goal.returns
returns c =
    accessed_all c.args.graph.now c.args.blocks.now.lists c.args.block c.nodes-list.result.now
    (turn_graph c.args.graph.now c.nodes-nodes.result.now c.nodes-nodes.ensures.value c.nodes-nodes.ensures.graph c.args.blocks.now.lists c.requires.blocks.are c.args.block c.nodes-list.result.now c.nodes-list.ensures) c.requires.blocks.are c.nodes-list.ensures
    c.loop-back.back c.loop-back.reads c.loop-back.assigns (omega (arith, c.loop-back-test.false, c.loop-back.auto.back-end)) c.loop-back.invariant
