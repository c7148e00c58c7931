use Rattle.std.proofs.Common.{◌≡◌, ◌+◌, ◌-◌, ◌<◌, ◌↔◌, ◌∙◌, Bool, List, true, false, get_or, sym, length, slice_index_or, subst, ap, rules, arith}
use Rattle.dead_code.specs.Liveness.{IsLiveBefore}
use Rattle.dead_code.proofs.Flagging.{live_done, live_more, live_none, live_told, turn_at, turn_below, turn_graph, turn_node, turn_within}
use Rattle.dead_code.proofs.LiveNodes.{have_all, have_more, have_none}
use Rattle.dead_code.proofs.lives.fill_live.Goals as goal

pub loop-back-init : goal.loop-back-init
loop-back-init c = record {
  live = live_none c.args.graph.now c.args.blocks.now.lists c.args.block c.nodes-list.result.now (turn_graph c.args.graph.now c.nodes-nodes.result.now c.nodes-nodes.ensures.value c.nodes-nodes.ensures.graph c.args.blocks.now.lists c.requires.blocks.are c.args.block c.nodes-list.result.now c.nodes-list.ensures) c.requires.blocks.are c.nodes-list.ensures c.args.live.now c.requires.live;
  rows = have_none c.args.graph.now c.args.blocks.now.lists c.args.block c.nodes-list.result.now c.args.rows.now c.requires.rows;
}

pub offset_bounds-nodes-n : goal.offset_bounds-nodes-n
offset_bounds-nodes-n c =
    let within : slice_index_or c.nodes-list.result.now (length c.nodes-list.result.now - 1 - c.loop-back.back) 0 < length c.nodes-nodes.result.now
    = turn_within c.args.graph.now c.nodes-nodes.result.now c.nodes-nodes.ensures.value c.nodes-nodes.ensures.graph c.args.blocks.now.lists c.requires.blocks.are c.args.block c.nodes-list.result.now c.nodes-list.ensures c.loop-back.back c.loop-back-test.true in
    search rules

pub bounds-nodes-n : goal.bounds-nodes-n
bounds-nodes-n c = turn_within c.args.graph.now c.nodes-nodes.result.now c.nodes-nodes.ensures.value c.nodes-nodes.ensures.graph c.args.blocks.now.lists c.requires.blocks.are c.args.block c.nodes-list.result.now c.nodes-list.ensures c.loop-back.back c.loop-back-test.true

pub pass_back-requires-clause-globals : goal.pass_back-requires-clause-globals
pass_back-requires-clause-globals c = omega (arith, c.shared-shared.ensures.value, c.shared-shared.ensures.shares.count, c.loop-back.invariant.live.shape.each c.args.block c.requires.block)

pub pass_back-requires-clause-row : goal.pass_back-requires-clause-row
pass_back-requires-clause-row c = omega (arith, c.loop-back.invariant.live.shape.len, c.requires.block)

pub pass_back-requires-clause-vars : goal.pass_back-requires-clause-vars
pass_back-requires-clause-vars c =
    turn_below c.args.graph.now c.nodes-nodes.result.now c.nodes-nodes.ensures.value c.nodes-nodes.ensures.graph c.args.blocks.now.lists c.requires.blocks.are c.args.block c.nodes-list.result.now c.nodes-list.ensures c.loop-back.back c.loop-back-test.true
    _ c.index-nodes-n.result (c.loop-back.invariant.live.shape.each c.args.block c.requires.block) c.index-nodes-n.is

pub row-requires : goal.row-requires
row-requires c = omega (arith, c.pass_back.ensures.len, c.loop-back.invariant.live.shape.len, c.requires.block)

pub or_from-requires-clause-row : goal.or_from-requires-clause-row
or_from-requires-clause-row c =
    let within = turn_within c.args.graph.now c.nodes-nodes.result.now c.nodes-nodes.ensures.value c.nodes-nodes.ensures.graph c.args.blocks.now.lists c.requires.blocks.are c.args.block c.nodes-list.result.now c.nodes-list.ensures c.loop-back.back c.loop-back-test.true in
    omega (arith, within, ap length c.nodes-nodes.ensures.value, c.loop-back.invariant.rows.shape.len)

pub or_from-requires-clause-equally_long : goal.or_from-requires-clause-equally_long
or_from-requires-clause-equally_long c =
    let within = turn_within c.args.graph.now c.nodes-nodes.result.now c.nodes-nodes.ensures.value c.nodes-nodes.ensures.graph c.args.blocks.now.lists c.requires.blocks.are c.args.block c.nodes-list.result.now c.nodes-list.ensures c.loop-back.back c.loop-back-test.true in
    c.loop-back.invariant.rows.shape.each (slice_index_or c.nodes-list.result.now (length c.nodes-list.result.now - 1 - c.loop-back.back) 0) (omega (arith, within, ap length c.nodes-nodes.ensures.value))
    ∙ sym (ap length c.row.ensures ∙ c.pass_back.ensures.each c.args.block ∙ c.loop-back.invariant.live.shape.each c.args.block c.requires.block)

pub loop-back-preserved : goal.loop-back-preserved
loop-back-preserved c =
    let graph = c.args.graph.now in
    let lists = c.args.blocks.now.lists in
    let block = c.args.block in
    let list = c.nodes-list.result.now in
    let back = c.loop-back.back in
    let place = length list - 1 - back in
    let n = slice_index_or list place 0 in
    let node = c.index-nodes-n.result in
    let live = c.loop-back.live in
    let new = c.pass_back.new.rows in
    let whole : length c.nodes-list.result.now - 1 - c.loop-back.back + c.loop-back.back + 1 ≡ length c.nodes-list.result.now = omega (arith, c.loop-back-test.true) in
    let at = turn_at c.args.graph.now c.nodes-nodes.result.now c.nodes-nodes.ensures.value c.nodes-nodes.ensures.graph c.args.blocks.now.lists c.requires.blocks.are c.args.block c.nodes-list.result.now c.nodes-list.ensures back c.loop-back-test.true in
    let node_is = turn_node c.args.graph.now c.nodes-nodes.result.now c.nodes-nodes.ensures.value c.nodes-nodes.ensures.graph c.args.blocks.now.lists c.requires.blocks.are c.args.block c.nodes-list.result.now c.nodes-list.ensures back c.loop-back-test.true node c.index-nodes-n.is in
    let is_graph = turn_graph c.args.graph.now c.nodes-nodes.result.now c.nodes-nodes.ensures.value c.nodes-nodes.ensures.graph c.args.blocks.now.lists c.requires.blocks.are c.args.block c.nodes-list.result.now c.nodes-list.ensures in
    let within = turn_within c.args.graph.now c.nodes-nodes.result.now c.nodes-nodes.ensures.value c.nodes-nodes.ensures.graph c.args.blocks.now.lists c.requires.blocks.are c.args.block c.nodes-list.result.now c.nodes-list.ensures back c.loop-back-test.true in
    let told = live_told graph lists block list is_graph c.requires.blocks.are c.nodes-list.ensures back place n node live new c.loop-back.invariant.live whole at node_is c.pass_back.ensures in
    record {
      live = live_more graph lists block list is_graph c.requires.blocks.are c.nodes-list.ensures back place n node live new c.loop-back.invariant.live whole at node_is c.pass_back.ensures;
      rows = have_more graph lists block list back place n c.loop-back.rows c.or_from.new.self c.row.result c.loop-back.invariant.rows whole at (omega (arith, within, ap length c.nodes-nodes.ensures.value))
          (ap length c.row.ensures ∙ c.pass_back.ensures.each block ∙ c.loop-back.invariant.live.shape.each block c.requires.block)
          (λ x x_in. subst (λ (r : List Bool). (get_or r x false ≡ true) ↔ IsLiveBefore graph x n) (sym c.row.ensures) (told x x_in))
          c.or_from.ensures;
    }

pub returns-clause-live : goal.returns-clause-live
returns-clause-live c = live_done c.args.graph.now c.args.blocks.now.lists c.args.block c.nodes-list.result.now (turn_graph c.args.graph.now c.nodes-nodes.result.now c.nodes-nodes.ensures.value c.nodes-nodes.ensures.graph c.args.blocks.now.lists c.requires.blocks.are c.args.block c.nodes-list.result.now c.nodes-list.ensures) c.requires.blocks.are c.nodes-list.ensures c.loop-back.back c.loop-back.live c.loop-back.invariant.live

pub returns-clause-rows : goal.returns-clause-rows
returns-clause-rows c = have_all c.args.graph.now c.args.blocks.now.lists c.args.block c.nodes-list.result.now c.loop-back.back c.loop-back.rows c.nodes-list.ensures c.loop-back-test.false c.loop-back.invariant.rows
