use Rattle.std.proofs.Common.{◌≡◌, ℕ, ◌<◌, ◌≤◌, ◌∙◌, List, Some, get_or, length, rules, slice_get, subst, sym, ap}
use Rattle.std.proofs.lemmas.Option.{slice_get-get_or}
use Rattle.mir_base.specs.Shapes.{AllBelow}
use Rattle.flow_graph.specs.declared.nodes.Node.{Node}
use Rattle.flow_graph.specs.BlockLaws.{chain_within, edge_within}
use Rattle.flow_graph.specs.Blocks.{IsBlocks}
use Rattle.flow_graph.specs.Graphs.{IsGraph, node_vars}
use Rattle.sink_code.specs.PatternRows.{JoinsBlocked}
use Rattle.sink_code.proofs.BlockedIn.{joined_all, joined_next, joined_none}
use Rattle.sink_code.proofs.between.push_joined.Goals as goal
use Rattle.sink_code.proofs.between.push_joined.Goals.{After-index-nodes-node, After-nodes-nodes}

is_graph : (c : After-nodes-nodes) → IsGraph c.args.over.now.graph.now.vars c.args.over.now.graph.now.received c.args.over.now.graph.now.nodes
is_graph c = subst (λ (l : List Node). IsGraph c.args.over.now.graph.now.vars c.args.over.now.graph.now.received l) c.nodes-nodes.ensures.value c.nodes-nodes.ensures.graph

pub loop-node-init : goal.loop-node-init
loop-node-init c =
    let known = goal.at.loop-node-init c in
    let over = c.args.over.now in
    joined_none over.graph.now (is_graph known.After-nodes-nodes) over.blocks.now.lists over.table.now c.args.block c.nodes-list.result.now c.args.rows.now c.push_false.new.self c.requires.rows (rw c.len.ensures.len at c.in_ok-push_false.ensures.ok)

pub returns : goal.returns
returns c =
    let known = goal.at.returns c in
    let over = c.args.over.now in
    joined_all over.graph.now (is_graph known.After-nodes-nodes) over.blocks.now.lists over.table.now c.args.block c.nodes-list.result.now c.loop-node.node-index c.loop-node.rows c.nodes-list.ensures c.loop-node-test.false c.loop-node.invariant

-- a node of a block is one of the graph
node_within : (nodes of_graph : List Node) (lists : List (List ℕ)) (block index : ℕ) (list : List ℕ) → nodes ≡ of_graph → IsBlocks of_graph lists → slice_get lists block ≡ Some list → index < length list → get_or list index 0 < length nodes
node_within nodes of_graph lists block index list is are is_block h =
    subst (λ (l : List Node). get_or list index 0 < length l) (sym is)
    (chain_within of_graph list index (get_or list index 0) (λ m k edge. edge_within of_graph m k edge) (are.blocks block list is_block).chain (slice_get-get_or list index 0 h))

-- it stands at its number
node_at : (c : After-index-nodes-node) → slice_get c.args.over.now.graph.now.nodes (get_or c.nodes-list.result.now c.loop-node.node-index 0) ≡ Some c.index-nodes-node.result
node_at c =
    ap (λ (l : List Node). slice_get l (get_or c.nodes-list.result.now c.loop-node.node-index 0)) (sym c.nodes-nodes.ensures.value)
    ∙ slice_get-get_or c.nodes-nodes.result.now (get_or c.nodes-list.result.now c.loop-node.node-index 0) c.index-nodes-node.result (node_within c.nodes-nodes.result.now c.args.over.now.graph.now.nodes c.args.over.now.blocks.now.lists c.args.block c.loop-node.node-index c.nodes-list.result.now c.nodes-nodes.ensures.value c.requires.over.blocks.are c.nodes-list.ensures c.loop-node-test.true) ∙ ap Some (sym c.index-nodes-node.is)

pub bounds-nodes-node : goal.bounds-nodes-node
bounds-nodes-node c = node_within c.nodes-nodes.result.now c.args.over.now.graph.now.nodes c.args.over.now.blocks.now.lists c.args.block c.loop-node.node-index c.nodes-list.result.now c.nodes-nodes.ensures.value c.requires.over.blocks.are c.nodes-list.ensures c.loop-node-test.true

pub offset_bounds-nodes-node : goal.offset_bounds-nodes-node
offset_bounds-nodes-node c = let within : get_or c.nodes-list.result.now c.loop-node.node-index 0 < length c.nodes-nodes.result.now = node_within c.nodes-nodes.result.now c.args.over.now.graph.now.nodes c.args.over.now.blocks.now.lists c.args.block c.loop-node.node-index c.nodes-list.result.now c.nodes-nodes.ensures.value c.requires.over.blocks.are c.nodes-list.ensures c.loop-node-test.true in search rules

pub join_blocked-requires-clause-below : goal.join_blocked-requires-clause-below
join_blocked-requires-clause-below c =
    let known = (goal.at.join_blocked-requires-clause-below c).After-index-nodes-node in
    subst (λ n. AllBelow n (node_vars c.index-nodes-node.result)) (sym c.requires.by_variable.assigning_shape.len) ((is_graph (goal.at.join_blocked-requires-clause-below c).After-nodes-nodes).can.below (get_or c.nodes-list.result.now c.loop-node.node-index 0) c.index-nodes-node.result (node_at known))

pub loop-node-preserved : goal.loop-node-preserved
loop-node-preserved c =
    let known = (goal.at.loop-node-preserved c).After-index-nodes-node in
    let over = c.args.over.now in
    let by = c.args.by_variable.now in
    let list = c.nodes-list.result.now in
    let n = get_or list c.loop-node.node-index 0 in
    let at = slice_get-get_or list c.loop-node.node-index 0 c.loop-node-test.true in
    let few = subst (λ (k : ℕ). k ≤ length c.args.over.now.graph.now.vars) c.shared-shared.ensures.value c.shared-shared.ensures.shares.count in
    joined_next over.graph.now (is_graph (goal.at.loop-node-preserved c).After-nodes-nodes) over.blocks.now.lists over.table.now c.args.block by few c.requires.by_variable list c.loop-node.node-index n c.index-nodes-node.result c.loop-node.rows c.join_blocked.new.rows at
    (c.requires.apart c.loop-node.node-index n list c.nodes-list.ensures at) (node_at known) c.loop-node.invariant
    (subst (λ (k : ℕ). JoinsBlocked c.args.by_variable.now.assigning c.args.by_variable.now.naming k c.index-nodes-node.result c.args.block c.loop-node.rows c.join_blocked.new.rows) c.shared-shared.ensures.value c.join_blocked.ensures)
