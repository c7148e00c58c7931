use Rattle.std.proofs.Common.{◌≡◌, ◌≢◌, ◌<◌, length, set, slice_index_or, sym, ap, subst, arith, ◌∙◌}
use Rattle.flow_graph.specs.Graphs.{IsGraph}
use Rattle.flow_graph.specs.Blocks.{IsGlued, unplaced}
use Rattle.flow_graph.specs.BlockLaws.{next_glued, next_none}
use Rattle.flow_graph.proofs.Blocking.{follow_begins, follow_more, glued_within, next_unplaced, place_left, room_left, unplaced_less}
use Rattle.flow_graph.proofs.blocks.follow.Goals as goal
use Rattle.flow_graph.proofs.blocks.follow.Goals.{In-Some}

pub put-requires-clause-room : goal.put-requires-clause-room
put-requires-clause-room c =
    let few = c.requires.block in
    place_left (length c.args.graph.now.nodes) c.args.head c.args.block c.args.order.now c.args.block_of.now (omega (arith, c.requires.there, c.requires.long)) c.requires.unplaced (λ e. omega (arith, e, few)) c.requires.room

pub loop-next-init : goal.loop-next-init
loop-next-init c = record {
  room =
      let few = c.requires.block in
      room_left (length c.args.graph.now.nodes) c.args.head c.args.block c.args.order.now c.args.block_of.now (omega (arith, c.requires.there, c.requires.long)) c.requires.unplaced (λ e. omega (arith, e, few)) c.requires.room c.put.new.order c.put.new.block_of c.put.ensures.len c.put.ensures.capacity c.put.ensures.block_of;
  there = c.requires.there;
  followed = follow_begins c.args.graph.now.nodes c.args.head c.args.block c.args.order.now.items c.args.block_of.now c.requires.block c.put.new.order.items c.put.new.block_of c.requires.there c.requires.long c.requires.first c.requires.unplaced c.requires.closed c.put.ensures.order c.put.ensures.block_of;
}

glued : (c : In-Some) → IsGlued c.args.graph.now.nodes c.loop-next.node c.in-Some.next
glued c = next_glued c.args.graph.now.nodes c.loop-next.node c.in-Some.next (sym c.next.ensures ∙ c.in-Some.is)

within : (c : In-Some) → c.in-Some.next < length c.args.graph.now.nodes
within c = glued_within c.args.graph.now.vars c.args.graph.now.received c.args.graph.now.nodes c.loop-next.node c.in-Some.next (subst (IsGraph c.args.graph.now.vars c.args.graph.now.received) c.nodes-nodes.ensures.value c.nodes-nodes.ensures.graph) (glued c)

-- the next node has no block yet
empty : (c : In-Some) → slice_index_or c.loop-next.block_of c.in-Some.next (length c.args.graph.now.nodes) ≡ length c.args.graph.now.nodes
empty c = next_unplaced c.args.graph.now.nodes c.args.head c.args.block c.args.order.now.items c.args.block_of.now c.requires.block c.loop-next.node c.in-Some.next c.loop-next.order.items c.loop-next.block_of c.loop-next.invariant.followed (glued c)

-- and is one of the graph
inside : (c : In-Some) → c.in-Some.next < length c.loop-next.block_of
inside c = let w = within c in omega (arith, w, c.loop-next.invariant.followed.long)

-- the number of the block is that of no node without one
other : (c : In-Some) → c.args.block ≢ length c.args.graph.now.nodes
other c e = let few = c.requires.block in omega (arith, e, few)

pub put-requires-in-Some-clause-there : goal.put-requires-in-Some-clause-there
put-requires-in-Some-clause-there c = inside (goal.at.put-requires-in-Some-clause-there c).In-Some

pub put-requires-in-Some-clause-room : goal.put-requires-in-Some-clause-room
put-requires-in-Some-clause-room c =
    let known = (goal.at.put-requires-in-Some-clause-room c).In-Some in
    place_left (length c.args.graph.now.nodes) c.in-Some.next c.args.block c.loop-next.order c.loop-next.block_of (inside known) (empty known) (other known) c.loop-next.invariant.room

pub loop-next-preserved : goal.loop-next-preserved
loop-next-preserved c =
    let known = (goal.at.loop-next-preserved c).In-Some in
    record {
      there = within known;
      room = room_left (length c.args.graph.now.nodes) c.in-Some.next c.args.block c.loop-next.order c.loop-next.block_of (inside known) (empty known) (other known) c.loop-next.invariant.room c.put-in-Some.new.order c.put-in-Some.new.block_of c.put-in-Some.ensures.len c.put-in-Some.ensures.capacity c.put-in-Some.ensures.block_of;
      followed = follow_more c.args.graph.now.nodes c.args.head c.args.block c.args.order.now.items c.args.block_of.now c.requires.block c.loop-next.node c.in-Some.next c.loop-next.order.items c.loop-next.block_of c.loop-next.invariant.followed (glued known) c.put-in-Some.new.order.items c.put-in-Some.new.block_of (within known) c.put-in-Some.ensures.order c.put-in-Some.ensures.block_of;
    }

pub loop-next-smaller : goal.loop-next-smaller
loop-next-smaller c =
    let known = (goal.at.loop-next-smaller c).In-Some in
    let fewer = unplaced_less (length c.args.graph.now.nodes) c.in-Some.next c.args.block c.loop-next.block_of (inside known) (empty known) (other known) in
    let is : unplaced (length c.args.graph.now.nodes) c.put-in-Some.new.block_of ≡ unplaced (length c.args.graph.now.nodes) (set c.loop-next.block_of c.in-Some.next c.args.block) = ap (unplaced (length c.args.graph.now.nodes)) c.put-in-Some.ensures.block_of in
    omega (arith, fewer, is)

pub returns-clause-block : goal.returns-clause-block
returns-clause-block c = (c.loop-next.node, c.loop-next.invariant.followed, next_none c.args.graph.now.nodes c.loop-next.node (sym c.next.ensures ∙ c.in_default.is))
