use Rattle.std.proofs.Common.{◌≡◌, ◌-◌, ◌+◌, ◌<◌, ◌∙◌, suc, false, not, List, Option, Some, ap, get_or, length, rules, slice_get, subst, sym, arith}
use Rattle.std.proofs.lemmas.Option.{slice_get-get_or}
use Rattle.flow_graph.specs.declared.nodes.Node.{Node}
use Rattle.flow_graph.specs.BlockLaws.{chain_some, chain_within, edge_within}
use Rattle.flow_graph.specs.Paths.{is_return}
use Rattle.path_laws.specs.Counting.{ahead_is}
use Rattle.path_laws.specs.Leaving.{ends_last}
use Rattle.sink_code.specs.Inside.{AreFoundFrom}
use Rattle.sink_code.specs.BlockPlaces.{AreTakenIn}
use Rattle.sink_code.proofs.Noted.{taken_none}
use Rattle.sink_code.proofs.Sinks.{all_found, none_yet}
use Rattle.sink_code.proofs.inside.inside_block.Goals as goal
use Rattle.sink_code.proofs.inside.inside_block.Goals.{After-index-nodes-list, After-nodes-list}

-- the block has a node
some : (c : After-nodes-list) → 0 < length c.nodes-list.result.now
some c = chain_some c.args.graph.now.nodes c.nodes-list.result.now (c.requires.blocks.are.blocks c.args.block c.nodes-list.result.now c.nodes-list.ensures).chain

-- its last node
last_at : (c : After-nodes-list) → slice_get c.nodes-list.result.now (length c.nodes-list.result.now - 1) ≡ Some (get_or c.nodes-list.result.now (length c.nodes-list.result.now - 1) 0)
last_at c = let many = some c in slice_get-get_or c.nodes-list.result.now (length c.nodes-list.result.now - 1) 0 (omega (arith, many))

-- is one of the graph
last_within : (c : After-nodes-list) → get_or c.nodes-list.result.now (length c.nodes-list.result.now - 1) 0 < length c.nodes-nodes.result.now
last_within c =
    let graph = c.args.graph.now in
    let list = c.nodes-list.result.now in
    subst (λ (l : List Node). get_or c.nodes-list.result.now (length c.nodes-list.result.now - 1) 0 < length l) (sym c.nodes-nodes.ensures.value)
    (chain_within graph.nodes list (length list - 1) (get_or list (length list - 1) 0) (λ m k edge. edge_within graph.nodes m k edge) (c.requires.blocks.are.blocks c.args.block list c.nodes-list.ensures).chain (last_at c))

-- it stands at its number
node_at : (c : After-index-nodes-list) → slice_get c.args.graph.now.nodes (get_or c.nodes-list.result.now (length c.nodes-list.result.now - 1) 0) ≡ Some c.index-nodes-list.result
node_at c =
    let list = c.nodes-list.result.now in
    ap (λ (l : List Node). slice_get l (get_or c.nodes-list.result.now (length c.nodes-list.result.now - 1) 0)) (sym c.nodes-nodes.ensures.value)
    ∙ slice_get-get_or c.nodes-nodes.result.now (get_or list (length list - 1) 0) c.index-nodes-list.result (last_within (goal.at.After-index-nodes-list c).After-nodes-list) ∙ ap Some (sym c.index-nodes-list.is)

pub overflow_sub-list : goal.overflow_sub-list
overflow_sub-list c = let many = some (goal.at.overflow_sub-list c).After-nodes-list in omega (arith, many)

pub bounds-list-list : goal.bounds-list-list
bounds-list-list c = let many = some (goal.at.bounds-list-list c).After-nodes-list in omega (arith, many)

pub offset_bounds-nodes-list : goal.offset_bounds-nodes-list
offset_bounds-nodes-list c = let within = last_within (goal.at.offset_bounds-nodes-list c).After-nodes-list in search rules

pub bounds-nodes-list : goal.bounds-nodes-list
bounds-nodes-list c = last_within (goal.at.bounds-nodes-list c).After-nodes-list

pub pass_node-requires-clause-block : goal.pass_node-requires-clause-block
pass_node-requires-clause-block c =
    let known = (goal.at.pass_node-requires-clause-block c).After-index-nodes-list in
    let graph = c.args.graph.now in
    let list = c.nodes-list.result.now in
    let last = get_or list (length list - 1) 0 in
    record {
      blocks = c.requires.blocks;
      is = c.nodes-list.ensures;
      on = c.goes_on.ensures ∙ sym (ap (λ n. not (is_return (slice_get graph.nodes n))) (ahead_is false list last (ends_last list (some (goal.at.After-index-nodes-list known).After-nodes-list))) ∙ ap (λ (o : Option Node). not (is_return o)) (node_at known));
    }

pub loop-back-init : goal.loop-back-init
loop-back-init c =
    let list = c.nodes-list.result.now in
    record {
      taken = taken_none c.args.graph.now c.args.block (length list - 0) list c.args.places.now (omega arith) c.requires.places;
      found = none_yet c.args.graph.now c.args.blocks.now.lists c.args.block (length list - 0) list c.args.found.now c.nodes-list.ensures (omega arith) c.requires.found;
    }

pub pass_node-requires-clause-places : goal.pass_node-requires-clause-places
pass_node-requires-clause-places c =
    let list = c.nodes-list.result.now in
    let same : length c.nodes-list.result.now - c.loop-back.back ≡ suc (length c.nodes-list.result.now - 1 - c.loop-back.back) = omega (arith, c.loop-back-test.true) in
    subst (λ i. AreTakenIn c.args.graph.now c.args.block i list c.loop-back.places) same c.loop-back.invariant.taken

pub pass_node-requires-clause-found : goal.pass_node-requires-clause-found
pass_node-requires-clause-found c =
    let same : length c.nodes-list.result.now - c.loop-back.back ≡ suc (length c.nodes-list.result.now - 1 - c.loop-back.back) = omega (arith, c.loop-back-test.true) in
    subst (λ i. AreFoundFrom c.args.graph.now c.args.blocks.now.lists c.args.block i c.loop-back.found) same c.loop-back.invariant.found

pub loop-back-preserved : goal.loop-back-preserved
loop-back-preserved c =
    let list = c.nodes-list.result.now in
    let same : length c.nodes-list.result.now - 1 - c.loop-back.back ≡ length c.nodes-list.result.now - (c.loop-back.back + 1) = omega (arith, c.loop-back-test.true) in
    record {
      taken = subst (λ i. AreTakenIn c.args.graph.now c.args.block i list c.pass_node.new.places) same c.in_ok-pass_node.ensures.places;
      found = subst (λ i. AreFoundFrom c.args.graph.now c.args.blocks.now.lists c.args.block i c.pass_node.new.found) same c.in_ok-pass_node.ensures.found;
    }

pub returns-clause-places : goal.returns-clause-places
returns-clause-places c =
    let taken = c.loop-back.invariant.taken in
    record { access_long = taken.access_long; assign_long = taken.assign_long; access_from = taken.access_from; assign_from = taken.assign_from }

pub returns-clause-found : goal.returns-clause-found
returns-clause-found c = all_found c.args.graph.now c.args.blocks.now.lists c.args.block (length c.nodes-list.result.now - c.loop-back.back) c.loop-back.found (omega (arith, c.loop-back-test.false)) c.loop-back.invariant.found
