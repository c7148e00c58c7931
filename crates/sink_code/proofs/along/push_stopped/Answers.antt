use Rattle.std.proofs.Common.{◌≡◌, Some, ap, rules, slice_get, ◌∙◌, ◌<◌, ℕ, List, get_or, length, sym, subst, arith}
use Rattle.std.proofs.lemmas.Option.{slice_get-get_or}
use Rattle.flow_graph.specs.BlockLaws.{chain_within, edge_within}
use Rattle.flow_graph.specs.declared.nodes.Node.{Node}
use Rattle.flow_graph.specs.Graphs.{IsGraph}
use Rattle.sink_code.proofs.BlockedIn.{joined_all, joined_none}
use Rattle.sink_code.proofs.Carrying.{skip_frees, stopped_more, stopped_none}
use Rattle.sink_code.proofs.along.push_stopped.Goals as goal
use Rattle.sink_code.proofs.along.push_stopped.Goals.{After-nodes-nodes, In_ok-push_false}

is_graph : (c : After-nodes-nodes) → IsGraph c.args.over.now.graph.now.vars c.args.over.now.graph.now.received c.args.over.now.graph.now.nodes
is_graph c = subst (λ (l : List Node). IsGraph c.args.over.now.graph.now.vars c.args.over.now.graph.now.received l) c.nodes-nodes.ensures.value c.nodes-nodes.ensures.graph

-- a node of the block is one of the graph
node_within : (c : In_ok-push_false) (index : ℕ) → index < length c.nodes-list.result.now → get_or c.nodes-list.result.now index 0 < length c.args.over.now.graph.now.nodes
node_within c index lt =
    let nodes = c.args.over.now.graph.now.nodes in
    let list = c.nodes-list.result.now in
    chain_within nodes list index (get_or list index 0) (λ m k edge. edge_within nodes m k edge) (c.requires.over.blocks.are.blocks c.args.block list c.nodes-list.ensures).chain (slice_get-get_or list index 0 lt)

-- and of the list of them
listed : (c : In_ok-push_false) (index : ℕ) → index < length c.nodes-list.result.now → get_or c.nodes-list.result.now index 0 < length c.nodes-nodes.result.now
listed c index lt = subst (λ (l : List Node). get_or c.nodes-list.result.now index 0 < length l) (sym c.nodes-nodes.ensures.value) (node_within c index lt)

pub offset_bounds-nodes-node : goal.offset_bounds-nodes-node
offset_bounds-nodes-node c = let within = listed (goal.at.offset_bounds-nodes-node c).In_ok-push_false c.loop-node.node-index c.loop-node-test.true in search rules

pub bounds-nodes-node : goal.bounds-nodes-node
bounds-nodes-node c = listed (goal.at.bounds-nodes-node c).In_ok-push_false c.loop-node.node-index c.loop-node-test.true

pub loop-node-init : goal.loop-node-init
loop-node-init c =
    let over = c.args.over.now in
    joined_none over.graph.now (is_graph (goal.at.loop-node-init c).After-nodes-nodes) over.blocks.now.lists over.table.now c.args.block c.nodes-list.result.now c.args.rows.now c.push_false.new.self c.requires.rows (rw c.len.ensures.len at c.in_ok-push_false.ensures.ok)

pub or_into-requires-clause-from : goal.or_into-requires-clause-from
or_into-requires-clause-from c = rw c.requires.blocked.shape.len (node_within (goal.at.or_into-requires-clause-from c).In_ok-push_false c.loop-node.node-index c.loop-node-test.true)

pub or_into-requires-clause-equally_long : goal.or_into-requires-clause-equally_long
or_into-requires-clause-equally_long c =
    c.loop-node.invariant.shape.each c.args.block (omega arith)
    ∙ sym (c.requires.blocked.shape.each (get_or c.nodes-list.result.now c.loop-node.node-index 0) (node_within (goal.at.or_into-requires-clause-equally_long c).In_ok-push_false c.loop-node.node-index c.loop-node-test.true))

-- a Skip blocks nothing
pub loop-node-preserved-then-is_skip : goal.loop-node-preserved-then-is_skip
loop-node-preserved-then-is_skip c =
    let list = c.nodes-list.result.now in
    let index = c.loop-node.node-index in
    let n = get_or list index 0 in
    let stands : slice_get c.args.over.now.graph.now.nodes (get_or c.nodes-list.result.now c.loop-node.node-index 0) ≡ Some c.index-nodes-node.result
    = ap (λ (l : List Node). slice_get l (get_or c.nodes-list.result.now c.loop-node.node-index 0)) (sym c.nodes-nodes.ensures.value) ∙ slice_get-get_or c.nodes-nodes.result.now n c.index-nodes-node.result (listed (goal.at.loop-node-preserved-then-is_skip c).In_ok-push_false index c.loop-node-test.true) ∙ ap Some (sym c.index-nodes-node.is) in
    stopped_none c.args.over.now c.args.block list index n c.loop-node.rows (slice_get-get_or list index 0 c.loop-node-test.true)
    (skip_frees c.args.over.now n c.index-nodes-node.result stands (sym c.is_skip.ensures ∙ c.if-is_skip.true)) c.loop-node.invariant

pub loop-node-preserved : goal.loop-node-preserved
loop-node-preserved c =
    let list = c.nodes-list.result.now in
    let index = c.loop-node.node-index in
    stopped_more c.args.over.now c.args.block list c.args.blocked.now c.requires.blocked index (get_or list index 0) c.loop-node.rows c.or_into.new.self (slice_get-get_or list index 0 c.loop-node-test.true) (node_within (goal.at.loop-node-preserved c).In_ok-push_false index c.loop-node-test.true) c.loop-node.invariant c.or_into.ensures

pub returns : goal.returns
returns c =
    let over = c.args.over.now in
    joined_all over.graph.now (is_graph (goal.at.returns c).After-nodes-nodes) over.blocks.now.lists over.table.now c.args.block c.nodes-list.result.now c.loop-node.node-index c.loop-node.rows c.nodes-list.ensures c.loop-node-test.false c.loop-node.invariant
