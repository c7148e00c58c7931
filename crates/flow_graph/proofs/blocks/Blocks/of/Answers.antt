use Rattle.std.proofs.Common.{◌≡◌, ◌≤◌, ◌+◌, ◌++◌, ◌∷◌, [], length, replicate, ap, subst, arith, ◌∙◌}
use Rattle.flow_graph.specs.Graphs.{IsGraph}
use Rattle.flow_graph.specs.Blocks.{AreBlocksOf, AreStored, parts_at}
use Rattle.flow_graph.specs.BlockLaws.{blocks_same}
use Rattle.flow_graph.proofs.Blocking.{blocks_made, kept_none, parts_made, room_none}
use Rattle.flow_graph.proofs.blocks.Blocks.of.Goals as goal
use Rattle.flow_graph.proofs.blocks.Blocks.of.Goals.{After-of-3}

pub loop-head-init : goal.loop-head-init
loop-head-init c =
    let count = ap length c.nodes-nodes.ensures.value in
    let unplaced = c.in_ok-block_of.ensures ∙ ap (λ n. replicate n n) count in
    record {
      stored = kept_none c.args.graph.now.nodes c.in_ok-order.order.items c.push_reserved.new.self.items c.in_ok-block_of.block_of.items c.in_ok-order.ensures.items (c.push_reserved.ensures.items ∙ ap (λ l. l ++ 0 ∷ []) c.in_ok-starts.ensures.items) unplaced;
      room = room_none (length c.args.graph.now.nodes) c.in_ok-order.order c.in_ok-block_of.block_of.items c.in_ok-order.ensures.len (c.in_ok-order.ensures.exact ∙ count) unplaced;
      starts = c.push_reserved.ensures.capacity ∙ c.in_ok-starts.ensures.exact ∙ ap (λ n. n + 1) count;
    }

graph : (c : After-of-3) → IsGraph c.args.graph.now.vars c.args.graph.now.received c.args.graph.now.nodes
graph c = subst (IsGraph c.args.graph.now.vars c.args.graph.now.received) c.nodes-nodes.ensures.value c.nodes-nodes.ensures.graph

kept : (c : After-of-3) → AreStored c.args.graph.now.nodes (length c.args.graph.now.nodes) c.loop-head.order.items c.loop-head.starts.items c.loop-head.block_of.items
kept c =
    let late : length c.nodes-nodes.result.now ≤ c.loop-head.head = c.loop-head-test.false in
    let most : c.loop-head.head ≤ length c.nodes-nodes.result.now = c.loop-head.auto.head-end in
    let count : length c.nodes-nodes.result.now ≡ length c.args.graph.now.nodes = ap length c.nodes-nodes.ensures.value in
    let e : c.loop-head.head ≡ length c.args.graph.now.nodes = omega arith in
    subst (λ n. AreStored c.args.graph.now.nodes n c.loop-head.order.items c.loop-head.starts.items c.loop-head.block_of.items) e c.loop-head.invariant.stored

pub invariant_of-result : goal.invariant_of-result
invariant_of-result c =
    let known = (goal.at.invariant_of-result c).After-of-3 in
    rw (c.of.ensures, c.of-2.ensures, c.of-3.ensures) (parts_made c.args.graph.now.vars c.args.graph.now.received c.args.graph.now.nodes c.loop-head.order.items c.loop-head.starts.items c.loop-head.block_of.items (graph known) (kept known))

are : (c : After-of-3) → AreBlocksOf c.args.graph.now.nodes (record { nodes = length c.loop-head.block_of.items; lists = parts_at c.loop-head.order.items c.loop-head.starts.items })
are c = blocks_made c.args.graph.now.vars c.args.graph.now.received c.args.graph.now.nodes c.loop-head.order.items c.loop-head.starts.items c.loop-head.block_of.items (graph c) (kept c)

pub returns-clause-blocks : goal.returns-clause-blocks
returns-clause-blocks c =
    let known = (goal.at.returns-clause-blocks c).After-of-3 in
    rw (c.of.ensures, c.of-2.ensures, c.of-3.ensures) (are known)

pub returns-clause-only : goal.returns-clause-only
returns-clause-only c =
    let known = (goal.at.returns-clause-only c).After-of-3 in
    rw (c.of.ensures, c.of-2.ensures) (λ others are_blocks. blocks_same c.args.graph.now.nodes (parts_at c.loop-head.order.items c.loop-head.starts.items) others (are known).are are_blocks)
