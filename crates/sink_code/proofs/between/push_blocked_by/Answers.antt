use Rattle.std.proofs.Common.{◌<◌, ◌++◌, ◌∷◌, [], ◌∙◌, List, true, ap, length, replicate, subst}
use Rattle.std.proofs.lemmas.Result.{on_ok_weaker}
use Rattle.flow_graph.specs.declared.nodes.Node.{Node}
use Rattle.flow_graph.specs.BlockLaws.{chain_some}
use Rattle.flow_graph.specs.Graphs.{IsGraph}
use Rattle.sink_code.proofs.BlockedIn.{apart_from_start, start_row}
use Rattle.sink_code.proofs.between.push_blocked_by.Goals as goal
use Rattle.sink_code.proofs.between.push_blocked_by.Goals.{After-nodes-list, After-nodes-nodes}

is_graph : (c : After-nodes-nodes) → IsGraph c.args.over.now.graph.now.vars c.args.over.now.graph.now.received c.args.over.now.graph.now.nodes
is_graph c = subst (λ (l : List Node). IsGraph c.args.over.now.graph.now.vars c.args.over.now.graph.now.received l) c.nodes-nodes.ensures.value c.nodes-nodes.ensures.graph

some : (c : After-nodes-list) → 0 < length c.nodes-list.result.now
some c = chain_some c.args.over.now.graph.now.nodes c.nodes-list.result.now (c.requires.over.blocks.are.blocks c.args.block c.nodes-list.result.now c.nodes-list.ensures).chain

pub bounds-list-0 : goal.bounds-list-0
bounds-list-0 c = some (goal.at.bounds-list-0 c).After-nodes-list

pub returns-then-first-eq0 : goal.returns-then-first-eq0
returns-then-first-eq0 c =
    let known = goal.at.returns-then-first-eq0 c in
    let over = c.args.over.now in
    on_ok_weaker c.push_true.result
    (λ is. start_row over.graph.now (is_graph known.After-nodes-nodes) over.blocks.now.lists over.table.now c.args.block c.nodes-list.result.now c.args.rows.now c.push_true.new.rows c.nodes-list.ensures (some known.After-nodes-list) c.if-first-eq0.true c.requires.rows (is ∙ ap (λ n. c.args.rows.now ++ replicate n true ∷ []) c.len.ensures.len))
    c.push_true.ensures.ok

pub push_joined-requires-clause-apart : goal.push_joined-requires-clause-apart
push_joined-requires-clause-apart c =
    let known = goal.at.push_joined-requires-clause-apart c in
    let over = c.args.over.now in
    apart_from_start over.graph.now (is_graph known.After-nodes-nodes) over.blocks.now.lists c.args.block c.nodes-list.result.now c.requires.over.blocks.are c.nodes-list.ensures c.if-first-eq0.false
