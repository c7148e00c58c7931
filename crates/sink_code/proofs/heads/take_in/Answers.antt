use Rattle.std.proofs.Common.{◌≡◌, ℕ, ◌<◌, ◌≤◌, ◌∙◌, List, Some, ap, get_or, length, rules, slice_get, subst, sym, arith}
use Rattle.std.proofs.lemmas.Option.{slice_get-get_or}
use Rattle.mir_base.specs.Shapes.{AllBelow}
use Rattle.flow_graph.specs.declared.nodes.Node.{Node}
use Rattle.flow_graph.specs.BlockLaws.{chain_within, edge_within}
use Rattle.flow_graph.specs.Graphs.{node_vars}
use Rattle.sink_code.proofs.Noted.{accessed_below, taken_more}
use Rattle.sink_code.proofs.heads.take_in.Goals as goal
use Rattle.sink_code.proofs.heads.take_in.Goals.{After-index-nodes-list, After-nodes-nodes}

-- the node at the index is one of the graph
node_within : (c : After-nodes-nodes) → get_or c.args.list.now c.args.index 0 < length c.nodes-nodes.result.now
node_within c =
    let over = c.args.over.now in
    let n = get_or c.args.list.now c.args.index 0 in
    let block = c.requires.over.blocks.are.blocks c.args.block c.args.list.now c.requires.list in
    subst (λ (l : List Node). get_or c.args.list.now c.args.index 0 < length l) (sym c.nodes-nodes.ensures.value)
    (chain_within over.graph.now.nodes c.args.list.now c.args.index n (λ m k edge. edge_within over.graph.now.nodes m k edge) block.chain (slice_get-get_or c.args.list.now c.args.index 0 c.requires.index))

-- it stands at its number
node_at : (c : After-index-nodes-list) → slice_get c.args.over.now.graph.now.nodes (get_or c.args.list.now c.args.index 0) ≡ Some c.index-nodes-list.result
node_at c =
    let n = get_or c.args.list.now c.args.index 0 in
    ap (λ (l : List Node). slice_get l (get_or c.args.list.now c.args.index 0)) (sym c.nodes-nodes.ensures.value)
    ∙ slice_get-get_or c.nodes-nodes.result.now n c.index-nodes-list.result (node_within (goal.at.After-index-nodes-list c).After-nodes-nodes) ∙ ap Some (sym c.index-nodes-list.is)

-- its variables are those of the graph
node_below : (c : After-index-nodes-list) → AllBelow (length c.args.over.now.graph.now.vars) (node_vars c.index-nodes-list.result)
node_below c =
    let n = get_or c.args.list.now c.args.index 0 in
    c.nodes-nodes.ensures.graph.can.below n c.index-nodes-list.result (ap (λ (l : List Node). slice_get l (get_or c.args.list.now c.args.index 0)) c.nodes-nodes.ensures.value ∙ node_at c)

pub bounds-nodes-list : goal.bounds-nodes-list
bounds-nodes-list c = node_within (goal.at.bounds-nodes-list c).After-nodes-nodes

pub offset_bounds-nodes-list : goal.offset_bounds-nodes-list
offset_bounds-nodes-list c = let within = node_within (goal.at.offset_bounds-nodes-list c).After-nodes-nodes in search rules

pub take_in-requires-clause-shared : goal.take_in-requires-clause-shared
take_in-requires-clause-shared c = let few = c.shared-shared.ensures.shares.count in let long = c.requires.places.access_long in let is = c.shared-shared.ensures.value in omega (arith, few, long, is)

pub take_in-requires-clause-long : goal.take_in-requires-clause-long
take_in-requires-clause-long c = c.requires.places.assign_long ∙ sym c.requires.places.access_long

pub take_in-requires-clause-below : goal.take_in-requires-clause-below
take_in-requires-clause-below c =
    subst (λ n. AllBelow n (node_vars c.index-nodes-list.result)) (sym c.requires.places.access_long) (node_below (goal.at.take_in-requires-clause-below c).After-index-nodes-list)

pub returns : goal.returns
returns c =
    let known = (goal.at.returns c).After-index-nodes-list in
    let graph = c.args.over.now.graph.now in
    let n = get_or c.args.list.now c.args.index 0 in
    let few = subst (λ (k : ℕ). k ≤ length c.args.over.now.graph.now.vars) c.shared-shared.ensures.value c.shared-shared.ensures.shares.count in
    taken_more graph c.args.block c.args.index n c.index-nodes-list.result c.args.list.now c.args.places.now c.take_in.new.self (slice_get-get_or c.args.list.now c.args.index 0 c.requires.index) (node_at known)
    (accessed_below graph (length graph.vars) c.index-nodes-list.result few (node_below known)) c.requires.places c.take_in.ensures
