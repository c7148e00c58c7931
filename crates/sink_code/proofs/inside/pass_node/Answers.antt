use Rattle.std.proofs.Common.{◌≡◌, ℕ, ◌<◌, ◌≤◌, ◌∙◌, List, Some, ap, get_or, length, rules, slice_get, subst, sym}
use Rattle.std.proofs.lemmas.Option.{slice_get-get_or}
use Rattle.mir_base.specs.Shapes.{AllBelow}
use Rattle.flow_graph.specs.declared.nodes.Node.{Node}
use Rattle.flow_graph.specs.BlockLaws.{chain_within, edge_within}
use Rattle.flow_graph.specs.Graphs.{node_vars}
use Rattle.sink_code.proofs.Noted.{accessed_below, taken_more}
use Rattle.sink_code.proofs.inside.pass_node.Goals as goal
use Rattle.sink_code.proofs.inside.pass_node.Goals.{After-index-nodes-at, After-nodes-nodes}

-- the node at the index is one of the graph
node_within : (c : After-nodes-nodes) → get_or c.args.at.now.list.now c.args.index 0 < length c.nodes-nodes.result.now
node_within c =
    let at = c.args.at.now in
    let block = c.requires.block.blocks.are.blocks at.block at.list.now c.requires.block.is in
    let n = get_or at.list.now c.args.index 0 in
    let listed = slice_get-get_or at.list.now c.args.index 0 c.requires.index in
    subst (λ (l : List Node). get_or c.args.at.now.list.now c.args.index 0 < length l) (sym c.nodes-nodes.ensures.value)
    (chain_within at.graph.now.nodes at.list.now c.args.index n (λ m k edge. edge_within at.graph.now.nodes m k edge) block.chain listed)

-- it stands at its number
node_at : (c : After-index-nodes-at) → slice_get c.args.at.now.graph.now.nodes (get_or c.args.at.now.list.now c.args.index 0) ≡ Some c.index-nodes-at.result
node_at c =
    let n = get_or c.args.at.now.list.now c.args.index 0 in
    ap (λ (l : List Node). slice_get l (get_or c.args.at.now.list.now c.args.index 0)) (sym c.nodes-nodes.ensures.value)
    ∙ slice_get-get_or c.nodes-nodes.result.now n c.index-nodes-at.result (node_within (goal.at.After-index-nodes-at c).After-nodes-nodes) ∙ ap Some (sym c.index-nodes-at.is)

-- its variables are those of the graph
node_below : (c : After-index-nodes-at) → AllBelow (length c.args.at.now.graph.now.vars) (node_vars c.index-nodes-at.result)
node_below c =
    let n = get_or c.args.at.now.list.now c.args.index 0 in
    c.nodes-nodes.ensures.graph.can.below n c.index-nodes-at.result (ap (λ (l : List Node). slice_get l (get_or c.args.at.now.list.now c.args.index 0)) c.nodes-nodes.ensures.value ∙ node_at c)

pub bounds-nodes-at : goal.bounds-nodes-at
bounds-nodes-at c = node_within (goal.at.bounds-nodes-at c).After-nodes-nodes

pub offset_bounds-nodes-at : goal.offset_bounds-nodes-at
offset_bounds-nodes-at c = let within = node_within (goal.at.offset_bounds-nodes-at c).After-nodes-nodes in search rules

pub occurs-requires-clause-node : goal.occurs-requires-clause-node
occurs-requires-clause-node c =
    let at = c.args.at.now in
    (get_or at.list.now c.args.index 0, slice_get-get_or at.list.now c.args.index 0 c.requires.index, node_at (goal.at.occurs-requires-clause-node c).After-index-nodes-at)

pub take_in-requires-clause-below : goal.take_in-requires-clause-below
take_in-requires-clause-below c =
    subst (λ n. AllBelow n (node_vars c.index-nodes-at.result)) (sym c.requires.places.access_long) (node_below (goal.at.take_in-requires-clause-below c).After-index-nodes-at)

pub returns-clause-places : goal.returns-clause-places
returns-clause-places c =
    let known = (goal.at.returns-clause-places c).After-index-nodes-at in
    let at = c.args.at.now in
    let graph = at.graph.now in
    let n = get_or at.list.now c.args.index 0 in
    let few = subst (λ (k : ℕ). k ≤ length c.args.at.now.graph.now.vars) c.shared-shared.ensures.value c.shared-shared.ensures.shares.count in
    taken_more graph at.block c.args.index n c.index-nodes-at.result at.list.now c.args.places.now c.take_in.new.self (slice_get-get_or at.list.now c.args.index 0 c.requires.index) (node_at known)
    (accessed_below graph (length graph.vars) c.index-nodes-at.result few (node_below known)) c.requires.places c.take_in.ensures
