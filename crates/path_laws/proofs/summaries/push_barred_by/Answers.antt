use Rattle.std.proofs.Common.{◌≡◌, ℕ, ◌<◌, ◌≤◌, length, slice_get, Some, sym, ap, ◌∙◌, arith}
use Rattle.bit_rows.specs.Bits.{row_of}
use Rattle.flow_graph.specs.BlockLaws.{chain_some}
use Rattle.path_laws.specs.declared.problems.Problem.{Problem}
use Rattle.path_laws.specs.Problem.{IsProblem, bars_in, orders}
use Rattle.path_laws.specs.SeedsLaws.{bar_rows}
use Rattle.path_laws.specs.Places.{long_is, node_in}
use Rattle.path_laws.proofs.RowsPassed.{stopped_all, stopped_first, stopped_next}
use Rattle.path_laws.proofs.summaries.push_barred_by.Goals as goal
use Rattle.path_laws.proofs.summaries.push_barred_by.Goals.{After-node_at-first, After-node_at-node}

first : (c : After-node_at-first) → (slice_get (orders c.args.problem.now c.args.block) 0 ≡ Some c.node_at-first.result) × (c.node_at-first.result < length c.args.problem.now.graph.now.nodes)
first c = node_in c.args.problem.now c.args.block 0 c.node_at-first.result c.nodes-nodes.result.now c.requires.problem c.nodes-nodes.ensures c.node_at-first.ensures

item : (c : After-node_at-node) → (slice_get (orders c.args.problem.now c.args.block) c.loop-place.place ≡ Some c.node_at-node.result) × (c.node_at-node.result < length c.args.problem.now.graph.now.nodes)
item c = node_in c.args.problem.now c.args.block c.loop-place.place c.node_at-node.result c.nodes-nodes.result.now c.requires.problem c.nodes-nodes.ensures c.node_at-node.ensures

-- the row that a node bars is as long as the others
stop_long : (p : Problem) → IsProblem p → (n : ℕ) → n < length p.graph.now.nodes → length (row_of (bars_in p) n) ≡ p.bits
stop_long p is n h = (bar_rows p.against p.graph.now.nodes p.bits p.born.now p.stop.now is.flow.born_rows is.flow.stop_rows p.every).each n h

pub node_at-first-requires : goal.node_at-first-requires
node_at-first-requires c = chain_some c.args.problem.now.graph.now.nodes c.nodes-nodes.result.now (c.requires.problem.blocks_are.are.blocks c.args.block c.nodes-nodes.result.now c.nodes-nodes.ensures).chain

pub barred_at-requires-clause-born : goal.barred_at-requires-clause-born
barred_at-requires-clause-born c = rw c.requires.problem.flow.born_rows.len (first (goal.at.barred_at-requires-clause-born c).After-node_at-first).1

pub barred_at-requires-clause-stop : goal.barred_at-requires-clause-stop
barred_at-requires-clause-stop c = rw c.requires.problem.flow.stop_rows.len (first (goal.at.barred_at-requires-clause-stop c).After-node_at-first).1

pub push-requires : goal.push-requires
push-requires c =
    let at = first (goal.at.push-requires c).After-node_at-first in
    let long = ap length c.barred_at.ensures ∙ stop_long c.args.problem.now c.requires.problem c.node_at-first.result at.1 in
    record { each = λ k h. c.requires.stops.shape.each k (rw c.requires.stops.shape.len at h) ∙ sym long }

pub loop-place-init : goal.loop-place-init
loop-place-init c =
    let at = first (goal.at.loop-place-init c).After-node_at-first in
    let p = c.args.problem.now in
    stopped_first c.args.block p.bits (orders p) (bars_in p) c.node_at-first.result c.args.stops.now c.push.new.self c.requires.stops (stop_long p c.requires.problem c.node_at-first.result at.1) (rw c.barred_at.ensures at c.in_ok-push.ensures.ok) at.0

pub barred_at-requires-in-loop-place-clause-born : goal.barred_at-requires-in-loop-place-clause-born
barred_at-requires-in-loop-place-clause-born c = rw c.requires.problem.flow.born_rows.len (item (goal.at.barred_at-requires-in-loop-place-clause-born c).After-node_at-node).1

pub barred_at-requires-in-loop-place-clause-stop : goal.barred_at-requires-in-loop-place-clause-stop
barred_at-requires-in-loop-place-clause-stop c = rw c.requires.problem.flow.stop_rows.len (item (goal.at.barred_at-requires-in-loop-place-clause-stop c).After-node_at-node).1

pub or_from-requires-clause-equally_long : goal.or_from-requires-clause-equally_long
or_from-requires-clause-equally_long c =
    let at = item (goal.at.or_from-requires-clause-equally_long c).After-node_at-node in
    c.loop-place.invariant.shape.each c.args.block (omega arith) ∙ sym (ap length c.barred_at-in-loop-place.ensures ∙ stop_long c.args.problem.now c.requires.problem c.node_at-node.result at.1)

pub loop-place-preserved : goal.loop-place-preserved
loop-place-preserved c =
    let at = item (goal.at.loop-place-preserved c).After-node_at-node in
    let p = c.args.problem.now in
    stopped_next c.args.block p.bits (orders p) (bars_in p) c.loop-place.place c.node_at-node.result c.loop-place.stops c.or_from.new.self c.loop-place.invariant (stop_long p c.requires.problem c.node_at-node.result at.1) at.0 (rw c.barred_at-in-loop-place.ensures at c.or_from.ensures)

pub returns : goal.returns
returns c =
    let p = c.args.problem.now in
    let late : length (orders p c.args.block) ≤ c.loop-place.place = rw (long_is p.against p.blocks.now.lists c.args.block c.nodes-nodes.result.now c.nodes-nodes.ensures) c.loop-place-test.false in
    stopped_all c.args.block p.bits (orders p) (bars_in p) c.loop-place.place c.loop-place.stops c.loop-place.invariant late
