use Rattle.std.proofs.Common.{◌-◌, ◌<◌, ◌∙◌, sym, length, slice_index_or, slice_set, ap, rules, arith}
use Rattle.dead_code.proofs.Flagging.{flagged_dead, flagged_more, flagged_none, turn_at, turn_below, turn_graph, turn_node, turn_within}
use Rattle.dead_code.proofs.PrunedMarks.{passes_none}
use Rattle.dead_code.proofs.dead.flag.Goals as goal

pub loop-back-init : goal.loop-back-init
loop-back-init c =
    flagged_none c.args.graph.now c.args.blocks.now.lists c.args.block c.nodes-list.result.now
    (turn_graph c.args.graph.now c.nodes-nodes.result.now c.nodes-nodes.ensures.value c.nodes-nodes.ensures.graph c.args.blocks.now.lists c.requires.blocks.are c.args.block c.nodes-list.result.now c.nodes-list.ensures) c.requires.blocks.are c.nodes-list.ensures
    c.args.live.now c.args.dead.now c.requires.live c.requires.dead

pub offset_bounds-nodes-n : goal.offset_bounds-nodes-n
offset_bounds-nodes-n c =
    let within : slice_index_or c.nodes-list.result.now (length c.nodes-list.result.now - 1 - c.loop-back.back) 0 < length c.nodes-nodes.result.now
    = turn_within c.args.graph.now c.nodes-nodes.result.now c.nodes-nodes.ensures.value c.nodes-nodes.ensures.graph c.args.blocks.now.lists c.requires.blocks.are c.args.block c.nodes-list.result.now c.nodes-list.ensures c.loop-back.back c.loop-back-test.true in
    search rules

pub bounds-nodes-n : goal.bounds-nodes-n
bounds-nodes-n c = turn_within c.args.graph.now c.nodes-nodes.result.now c.nodes-nodes.ensures.value c.nodes-nodes.ensures.graph c.args.blocks.now.lists c.requires.blocks.are c.args.block c.nodes-list.result.now c.nodes-list.ensures c.loop-back.back c.loop-back-test.true

pub is_dead-requires-clause-below : goal.is_dead-requires-clause-below
is_dead-requires-clause-below c =
    turn_below c.args.graph.now c.nodes-nodes.result.now c.nodes-nodes.ensures.value c.nodes-nodes.ensures.graph c.args.blocks.now.lists c.requires.blocks.are c.args.block c.nodes-list.result.now c.nodes-list.ensures c.loop-back.back c.loop-back-test.true
    _ c.index-nodes-n.result (c.loop-back.invariant.shape.each c.args.block c.requires.block) c.index-nodes-n.is

pub bounds-dead-n : goal.bounds-dead-n
bounds-dead-n c =
    let within = turn_within c.args.graph.now c.nodes-nodes.result.now c.nodes-nodes.ensures.value c.nodes-nodes.ensures.graph c.args.blocks.now.lists c.requires.blocks.are c.args.block c.nodes-list.result.now c.nodes-list.ensures c.loop-back.back c.loop-back-test.true in
    let many = ap length c.nodes-nodes.ensures.value in
    let long = c.loop-back.invariant.long in
    omega (arith, within, many, long)

pub pass_back-requires-clause-vars : goal.pass_back-requires-clause-vars
pass_back-requires-clause-vars c =
    turn_below c.args.graph.now c.nodes-nodes.result.now c.nodes-nodes.ensures.value c.nodes-nodes.ensures.graph c.args.blocks.now.lists c.requires.blocks.are c.args.block c.nodes-list.result.now c.nodes-list.ensures c.loop-back.back c.loop-back-test.true
    _ c.index-nodes-n.result (c.loop-back.invariant.shape.each c.args.block c.requires.block) c.index-nodes-n.is

pub loop-back-preserved : goal.loop-back-preserved
loop-back-preserved c =
    let list = c.nodes-list.result.now in
    let place = length list - 1 - c.loop-back.back in
    let n = slice_index_or list place 0 in
    flagged_more c.args.graph.now c.args.blocks.now.lists c.args.block list
    (turn_graph c.args.graph.now c.nodes-nodes.result.now c.nodes-nodes.ensures.value c.nodes-nodes.ensures.graph c.args.blocks.now.lists c.requires.blocks.are c.args.block c.nodes-list.result.now c.nodes-list.ensures) c.requires.blocks.are c.nodes-list.ensures
    c.loop-back.back place n c.index-nodes-n.result c.loop-back.live c.pass_back.new.rows c.loop-back.dead (slice_set c.loop-back.dead n c.is_dead.result)
    c.loop-back.invariant (omega (arith, c.loop-back-test.true))
    (turn_at c.args.graph.now c.nodes-nodes.result.now c.nodes-nodes.ensures.value c.nodes-nodes.ensures.graph c.args.blocks.now.lists c.requires.blocks.are c.args.block c.nodes-list.result.now c.nodes-list.ensures c.loop-back.back c.loop-back-test.true)
    (turn_node c.args.graph.now c.nodes-nodes.result.now c.nodes-nodes.ensures.value c.nodes-nodes.ensures.graph c.args.blocks.now.lists c.requires.blocks.are c.args.block c.nodes-list.result.now c.nodes-list.ensures c.loop-back.back c.loop-back-test.true c.index-nodes-n.result c.index-nodes-n.is)
    (ap (slice_set c.loop-back.dead n) c.is_dead.ensures) c.pass_back.ensures

-- what is live stays where a node touches nothing
pub loop-back-preserved-then-touches_none : goal.loop-back-preserved-then-touches_none
loop-back-preserved-then-touches_none c =
    let list = c.nodes-list.result.now in
    let place = length list - 1 - c.loop-back.back in
    let n = slice_index_or list place 0 in
    let node = c.index-nodes-n.result in
    flagged_more c.args.graph.now c.args.blocks.now.lists c.args.block list
    (turn_graph c.args.graph.now c.nodes-nodes.result.now c.nodes-nodes.ensures.value c.nodes-nodes.ensures.graph c.args.blocks.now.lists c.requires.blocks.are c.args.block c.nodes-list.result.now c.nodes-list.ensures) c.requires.blocks.are c.nodes-list.ensures
    c.loop-back.back place n node c.loop-back.live c.loop-back.live c.loop-back.dead (slice_set c.loop-back.dead n c.is_dead.result)
    c.loop-back.invariant (omega (arith, c.loop-back-test.true))
    (turn_at c.args.graph.now c.nodes-nodes.result.now c.nodes-nodes.ensures.value c.nodes-nodes.ensures.graph c.args.blocks.now.lists c.requires.blocks.are c.args.block c.nodes-list.result.now c.nodes-list.ensures c.loop-back.back c.loop-back-test.true)
    (turn_node c.args.graph.now c.nodes-nodes.result.now c.nodes-nodes.ensures.value c.nodes-nodes.ensures.graph c.args.blocks.now.lists c.requires.blocks.are c.args.block c.nodes-list.result.now c.nodes-list.ensures c.loop-back.back c.loop-back-test.true node c.index-nodes-n.is)
    (ap (slice_set c.loop-back.dead n) c.is_dead.ensures) (passes_none c.args.graph.now node c.args.block c.loop-back.live (sym c.touches_none.ensures ∙ c.if-touches_none.true))

pub returns-clause-dead : goal.returns-clause-dead
returns-clause-dead c =
    flagged_dead c.args.graph.now c.args.blocks.now.lists c.args.block c.nodes-list.result.now
    (turn_graph c.args.graph.now c.nodes-nodes.result.now c.nodes-nodes.ensures.value c.nodes-nodes.ensures.graph c.args.blocks.now.lists c.requires.blocks.are c.args.block c.nodes-list.result.now c.nodes-list.ensures) c.requires.blocks.are c.nodes-list.ensures
    c.loop-back.back c.loop-back.live c.loop-back.dead c.loop-back-test.false c.loop-back.invariant
