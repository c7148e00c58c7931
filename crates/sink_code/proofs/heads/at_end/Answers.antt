use Rattle.std.proofs.Common.{◌≡◌, ◌<◌, ◌-◌, ◌∙◌, List, Bool, Some, get_or, length, rules, slice_get, ap, sym, subst, arith}
use Rattle.std.proofs.lemmas.Option.{slice_get-get_or, slice_get_within}
use Rattle.std.proofs.lemmas.Result.{on_ok_weaker}
use Rattle.bit_rows.specs.Bits.{minus_bits, row_of}
use Rattle.flow_graph.specs.declared.nodes.Node.{Node}
use Rattle.flow_graph.specs.BlockLaws.{chain_some, chain_within, edge_within}
use Rattle.flow_graph.specs.Graphs.{succs_of}
use Rattle.path_laws.specs.Leaving.{ends_last}
use Rattle.sink_code.proofs.EndPuts.{ends_more, ends_none, skip_some}
use Rattle.sink_code.proofs.heads.at_end.Goals as goal
use Rattle.sink_code.proofs.heads.at_end.Goals.{After-index-nodes-last, After-nodes-list}

-- the block has a node
some : (c : After-nodes-list) → 0 < length c.nodes-list.result.now
some c = chain_some c.args.over.now.graph.now.nodes c.nodes-list.result.now (c.requires.over.blocks.are.blocks c.args.block c.nodes-list.result.now c.nodes-list.ensures).chain

-- its last node
last_at : (c : After-nodes-list) → slice_get c.nodes-list.result.now (length c.nodes-list.result.now - 1) ≡ Some (get_or c.nodes-list.result.now (length c.nodes-list.result.now - 1) 0)
last_at c = let many = some c in slice_get-get_or c.nodes-list.result.now (length c.nodes-list.result.now - 1) 0 (omega (arith, many))

-- is one of the graph
last_within : (c : After-nodes-list) → get_or c.nodes-list.result.now (length c.nodes-list.result.now - 1) 0 < length c.nodes-nodes.result.now
last_within c =
    let over = c.args.over.now in
    let list = c.nodes-list.result.now in
    subst (λ (l : List Node). get_or c.nodes-list.result.now (length c.nodes-list.result.now - 1) 0 < length l) (sym c.nodes-nodes.ensures.value)
    (chain_within over.graph.now.nodes list (length list - 1) (get_or list (length list - 1) 0) (λ m k edge. edge_within over.graph.now.nodes m k edge) (c.requires.over.blocks.are.blocks c.args.block list c.nodes-list.ensures).chain (last_at c))

-- it stands at its number
node_at : (c : After-index-nodes-last) → slice_get c.args.over.now.graph.now.nodes (get_or c.nodes-list.result.now (length c.nodes-list.result.now - 1) 0) ≡ Some c.index-nodes-last.result
node_at c =
    let list = c.nodes-list.result.now in
    ap (λ (l : List Node). slice_get l (get_or c.nodes-list.result.now (length c.nodes-list.result.now - 1) 0)) (sym c.nodes-nodes.ensures.value)
    ∙ slice_get-get_or c.nodes-nodes.result.now (get_or list (length list - 1) 0) c.index-nodes-last.result (last_within (goal.at.After-index-nodes-last c).After-nodes-list) ∙ ap Some (sym c.index-nodes-last.is)

pub overflow_sub-last : goal.overflow_sub-last
overflow_sub-last c = let many = some (goal.at.overflow_sub-last c).After-nodes-list in omega (arith, many)

pub bounds-list-list : goal.bounds-list-list
bounds-list-list c = let many = some (goal.at.bounds-list-list c).After-nodes-list in omega (arith, many)

pub offset_bounds-nodes-last : goal.offset_bounds-nodes-last
offset_bounds-nodes-last c = let within = last_within (goal.at.offset_bounds-nodes-last c).After-nodes-list in search rules

pub bounds-nodes-last : goal.bounds-nodes-last
bounds-nodes-last c = last_within (goal.at.bounds-nodes-last c).After-nodes-list

pub block_of-requires : goal.block_of-requires
block_of-requires c =
    let over = c.args.over.now in
    let nodes = c.nodes-nodes.result.now in
    let last = get_or c.nodes-list.result.now (length c.nodes-list.result.now - 1) 0 in
    let known = (goal.at.block_of-requires c).After-index-nodes-last in
    let skips = skip_some c.index-nodes-last.result c.in-Some.next (sym c.skip_to.ensures ∙ c.in-Some.is) in
    let within = (c.nodes-nodes.ensures.graph.can.succs last 0 c.in-Some.next (ap (λ (l : List Node). slice_get (succs_of (slice_get l last)) 0) c.nodes-nodes.ensures.value ∙ ap (λ o. slice_get (succs_of o) 0) (node_at known ∙ ap Some skips))).1 in
    let many = ap length c.nodes-nodes.ensures.value in
    let count = c.requires.over.blocks.count in
    omega (arith, within, many, count)

pub row-requires-in-Some : goal.row-requires-in-Some
row-requires-in-Some c =
    let within = slice_get_within c.args.over.now.blocks.now.lists c.block_of.result c.block_of.ensures.list c.block_of.ensures.listed in
    let long = c.requires.into.len in
    omega (arith, within, long)

pub minus_from-requires : goal.minus_from-requires
minus_from-requires c =
    let within = slice_get_within c.args.over.now.blocks.now.lists c.block_of.result c.block_of.ensures.list c.block_of.ensures.listed in
    ap length (c.in_ok-gone-in-Some.ensures ∙ c.row.ensures) ∙ c.requires.leaves.each c.args.block c.requires.block
    ∙ sym (ap length c.row-in-Some.ensures ∙ c.requires.into.each c.block_of.result within)

pub returns-in_ok-gone-in-Some : goal.returns-in_ok-gone-in-Some
returns-in_ok-gone-in-Some c = λ begun was.
    let known = (goal.at.returns-in_ok-gone-in-Some c).After-index-nodes-last in
    let over = c.args.over.now in
    let list = c.nodes-list.result.now in
    on_ok_weaker c.push_chosen.result
    (λ is. ends_more over c.requires.over.blocks.are c.args.into.now c.args.leaves.now c.args.block list (get_or list (length list - 1) 0) c.index-nodes-last.result c.nodes-list.ensures (ends_last list (some (goal.at.After-index-nodes-last known).After-nodes-list)) (node_at known) begun c.args.puts.now.items was
    c.in-Some.next c.block_of.result c.view.result c.push_chosen.new.puts.items c.requires.into c.requires.leaves (sym c.skip_to.ensures ∙ c.in-Some.is) c.block_of.ensures
    (c.view.ensures ∙ c.minus_from.ensures.minus ∙ ap (λ (r : List Bool). minus_bits r c.row-in-Some.result) (c.in_ok-gone-in-Some.ensures ∙ c.row.ensures) ∙ ap (minus_bits (row_of c.args.leaves.now c.args.block)) c.row-in-Some.ensures) is)
    c.push_chosen.ensures

pub returns-in-None : goal.returns-in-None
returns-in-None c = λ begun was.
    let known = (goal.at.returns-in-None c).After-index-nodes-last in
    let over = c.args.over.now in
    let list = c.nodes-list.result.now in
    ends_none over c.requires.over.blocks.are c.args.into.now c.args.leaves.now c.args.block list (get_or list (length list - 1) 0) c.index-nodes-last.result c.nodes-list.ensures (ends_last list (some (goal.at.After-index-nodes-last known).After-nodes-list)) (node_at known) begun c.args.puts.now.items was
    (sym c.skip_to.ensures ∙ c.in-None.is)
