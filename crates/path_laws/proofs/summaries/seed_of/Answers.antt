use Rattle.std.proofs.Common.{◌≡◌, ◌<◌, ◌≤◌, false, length, replicate, slice_get, Some, sym, ap, ◌∙◌}
use Rattle.std.proofs.lemmas.List.{take_all}
use Rattle.flow_graph.specs.BlockLaws.{chain_some}
use Rattle.path_laws.specs.Problem.{orders, row_through}
use Rattle.path_laws.specs.Places.{long_is, node_in}
use Rattle.path_laws.proofs.RowsPassed.{seed_row_is, through_first, through_more}
use Rattle.path_laws.proofs.summaries.seed_of.Goals as goal
use Rattle.path_laws.proofs.summaries.seed_of.Goals.{After-node_at-first, After-node_at-node}

first : (c : After-node_at-first) → (slice_get (orders c.args.problem.now c.args.block) 0 ≡ Some c.node_at-first.result) × (c.node_at-first.result < length c.args.problem.now.graph.now.nodes)
first c = node_in c.args.problem.now c.args.block 0 c.node_at-first.result c.nodes-nodes.result.now c.requires.problem c.nodes-nodes.ensures c.node_at-first.ensures

item : (c : After-node_at-node) → (slice_get (orders c.args.problem.now c.args.block) c.loop-place.place ≡ Some c.node_at-node.result) × (c.node_at-node.result < length c.args.problem.now.graph.now.nodes)
item c = node_in c.args.problem.now c.args.block c.loop-place.place c.node_at-node.result c.nodes-nodes.result.now c.requires.problem c.nodes-nodes.ensures c.node_at-node.ensures

pub node_at-first-requires : goal.node_at-first-requires
node_at-first-requires c = chain_some c.args.problem.now.graph.now.nodes c.nodes-nodes.result.now (c.requires.problem.blocks_are.are.blocks c.args.block c.nodes-nodes.result.now c.nodes-nodes.ensures).chain

pub seeds_at-requires-clause-node : goal.seeds_at-requires-clause-node
seeds_at-requires-clause-node c = (first (goal.at.seeds_at-requires-clause-node c).After-node_at-first).1

pub loop-place-init : goal.loop-place-init
loop-place-init c = through_first c.args.problem.now c.requires.problem (orders c.args.problem.now c.args.block) c.node_at-first.result c.in_ok-row.row (first (goal.at.loop-place-init c).After-node_at-first) c.in_ok-row.ensures

pub pass_row-requires-clause-node : goal.pass_row-requires-clause-node
pass_row-requires-clause-node c = (item (goal.at.pass_row-requires-clause-node c).After-node_at-node).1

pub loop-place-preserved : goal.loop-place-preserved
loop-place-preserved c = through_more c.args.problem.now c.requires.problem (orders c.args.problem.now c.args.block) c.loop-place.place c.node_at-node.result c.loop-place.row c.pass_row.new.row c.loop-place.invariant (item (goal.at.loop-place-preserved c).After-node_at-node) c.pass_row.ensures

pub returns : goal.returns
returns c =
    let p = c.args.problem.now in
    let path = orders p c.args.block in
    let late : length path ≤ c.loop-place.place = rw (long_is p.against p.blocks.now.lists c.args.block c.nodes-nodes.result.now c.nodes-nodes.ensures) c.loop-place-test.false in
    c.loop-place.invariant.row_is ∙ ap (λ l. row_through p l (replicate p.bits false)) (take_all c.loop-place.place path late) ∙ sym (seed_row_is p c.args.block c.requires.block)
