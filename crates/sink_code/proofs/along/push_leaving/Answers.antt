use Rattle.std.proofs.Common.{◌≡◌, ◌-◌, ◌<◌, ◌&&◌, ◌∙◌, not, true, false, List, Option, Some, ap, get_or, length, rules, slice_get, subst, sym, arith}
use Rattle.std.proofs.lemmas.Option.{slice_get-get_or}
use Rattle.flow_graph.specs.declared.nodes.Node.{Node}
use Rattle.flow_graph.specs.BlockLaws.{chain_some, chain_within, edge_within}
use Rattle.flow_graph.specs.Paths.{is_return}
use Rattle.path_laws.specs.Counting.{ahead_is}
use Rattle.path_laws.specs.Leaving.{ends_last}
use Rattle.sink_code.specs.Inside.{comes_past, goes_on}
use Rattle.sink_code.proofs.Carrying.{has_passed_all, has_passed_end, has_passed_none}
use Rattle.sink_code.proofs.along.push_leaving.Goals as goal
use Rattle.sink_code.proofs.along.push_leaving.Goals.{After-goes_on, After-index-nodes-list, After-nodes-list}

-- the block has a node
some : (c : After-nodes-list) → 0 < length c.nodes-list.result.now
some c = chain_some c.args.over.now.graph.now.nodes c.nodes-list.result.now (c.requires.over.blocks.are.blocks c.args.block c.nodes-list.result.now c.nodes-list.ensures).chain

-- its last node
last_at : (c : After-nodes-list) → slice_get c.nodes-list.result.now (length c.nodes-list.result.now - 1) ≡ Some (get_or c.nodes-list.result.now (length c.nodes-list.result.now - 1) 0)
last_at c = let many = some c in slice_get-get_or c.nodes-list.result.now (length c.nodes-list.result.now - 1) 0 (omega (arith, many))

-- is one of the graph
last_within : (c : After-nodes-list) → get_or c.nodes-list.result.now (length c.nodes-list.result.now - 1) 0 < length c.nodes-nodes.result.now
last_within c =
    let nodes = c.args.over.now.graph.now.nodes in
    let list = c.nodes-list.result.now in
    subst (λ (l : List Node). get_or c.nodes-list.result.now (length c.nodes-list.result.now - 1) 0 < length l) (sym c.nodes-nodes.ensures.value)
    (chain_within nodes list (length list - 1) (get_or list (length list - 1) 0) (λ m k edge. edge_within nodes m k edge) (c.requires.over.blocks.are.blocks c.args.block list c.nodes-list.ensures).chain (last_at c))

-- it stands at its number
node_at : (c : After-index-nodes-list) → slice_get c.args.over.now.graph.now.nodes (get_or c.nodes-list.result.now (length c.nodes-list.result.now - 1) 0) ≡ Some c.index-nodes-list.result
node_at c =
    let list = c.nodes-list.result.now in
    ap (λ (l : List Node). slice_get l (get_or c.nodes-list.result.now (length c.nodes-list.result.now - 1) 0)) (sym c.nodes-nodes.ensures.value)
    ∙ slice_get-get_or c.nodes-nodes.result.now (get_or list (length list - 1) 0) c.index-nodes-list.result (last_within (goal.at.After-index-nodes-list c).After-nodes-list) ∙ ap Some (sym c.index-nodes-list.is)

-- so it is known whether paths go on from its end
on : (c : After-goes_on) → c.goes_on.result ≡ goes_on c.args.over.now.graph.now c.nodes-list.result.now
on c =
    let nodes = c.args.over.now.graph.now.nodes in
    let list = c.nodes-list.result.now in
    let last = get_or list (length list - 1) 0 in
    c.goes_on.ensures ∙ sym (ap (λ n. not (is_return (slice_get nodes n))) (ahead_is false list last (ends_last list (some (goal.at.After-goes_on c).After-nodes-list))) ∙ ap (λ (o : Option Node). not (is_return o)) (node_at (goal.at.After-goes_on c).After-index-nodes-list))

pub overflow_sub-list : goal.overflow_sub-list
overflow_sub-list c = let many = some (goal.at.overflow_sub-list c).After-nodes-list in omega (arith, many)

pub bounds-list-list : goal.bounds-list-list
bounds-list-list c = let many = some (goal.at.bounds-list-list c).After-nodes-list in omega (arith, many)

pub offset_bounds-nodes-list : goal.offset_bounds-nodes-list
offset_bounds-nodes-list c = let within = last_within (goal.at.offset_bounds-nodes-list c).After-nodes-list in search rules

pub bounds-nodes-list : goal.bounds-nodes-list
bounds-nodes-list c = last_within (goal.at.bounds-nodes-list c).After-nodes-list

pub pass_all-requires-clause-rows : goal.pass_all-requires-clause-rows
pass_all-requires-clause-rows c = has_passed_none c.args.over.now c.args.block c.nodes-list.result.now c.args.rows.now c.push_false.new.self c.requires.rows (rw c.len.ensures.len at c.in_ok-push_false.ensures.ok)

pub returns-then-goes_on : goal.returns-then-goes_on
returns-then-goes_on c =
    let list = c.nodes-list.result.now in
    let goes : goes_on c.args.over.now.graph.now c.nodes-list.result.now ≡ true = sym (on (goal.at.returns-then-goes_on c).After-goes_on) ∙ c.if-goes_on.true in
    has_passed_all c.args.over.now c.args.block list (length list) c.pass_all.new.rows c.nodes-list.ensures (omega arith) (λ p. ap (λ b. b && comes_past c.args.over.now.graph.now p.var p.rhs false c.nodes-list.result.now) goes) c.pass_all.ensures

pub returns-else-goes_on : goal.returns-else-goes_on
returns-else-goes_on c =
    let list = c.nodes-list.result.now in
    let stays : goes_on c.args.over.now.graph.now c.nodes-list.result.now ≡ false = sym (on (goal.at.returns-else-goes_on c).After-goes_on) ∙ c.if-goes_on.false in
    has_passed_end c.args.over.now c.args.block list c.push_false.new.self c.nodes-list.ensures (λ p. ap (λ b. b && comes_past c.args.over.now.graph.now p.var p.rhs false c.nodes-list.result.now) stays)
    (has_passed_none c.args.over.now c.args.block list c.args.rows.now c.push_false.new.self c.requires.rows (rw c.len.ensures.len at c.in_ok-push_false.ensures.ok))
