use Rattle.std.proofs.Common.{◌≡◌, ◌∙◌, ◌++◌, ◌+◌, ◌<◌, ◌≤◌, None, drop, length, sym, ap, subst, take, arith}
use Rattle.std.proofs.lemmas.Option.{get_or_from_slice_get, slice_get-get_or, slice_get_within}
use Rattle.fix_solve.specs.Net.{value_at}
use Rattle.flow_graph.specs.Graphs.{IsGraph}
use Rattle.wanted_bits.specs.Asking.{asked_by}
use Rattle.wanted_bits.specs.WalkLaws.{asks_few}
use Rattle.flow_graph.specs.declared.nodes.Node.TheVariants.{Start}
use Rattle.wanted_bits.specs.Asks.{ask_past}
use Rattle.wanted_bits.specs.Found.{NotesFrom}
use Rattle.wanted_bits.specs.Walking.{back_in}
use Rattle.wanted_bits.specs.WantedFlows.{net_over}
use Rattle.wanted_bits.proofs.LeastNumbers.{bits_by, least_wanted}
use Rattle.wanted_bits.proofs.Asking.{are_asks}
use Rattle.wanted_bits.proofs.Noting.{NotesBelow, below_more, block_nodes}
use Rattle.wanted_bits.proofs.Raising.{written_back}
use Rattle.wanted_bits.proofs.asks.ask_all.Goals as goal
use Rattle.wanted_bits.proofs.asks.ask_all.Goals.{In_ok-ask_block}

pub ask_block-requires-clause-block : goal.ask_block-requires-clause-block
ask_block-requires-clause-block c = c.requires.crossed.blocks.are.blocks c.loop-block.block c.nodes-list.result.now c.nodes-list.ensures

pub ask_block-requires-clause-nodes : goal.ask_block-requires-clause-nodes
ask_block-requires-clause-nodes c = block_nodes c.args.graph.now c.nodes-list.result.now (c.requires.crossed.blocks.are.blocks c.loop-block.block c.nodes-list.result.now c.nodes-list.ensures)

module _ (c : In_ok-ask_block) where
  -- what is written of the numbers
  asks_written : take c.loop-block.asks.len (c.ask_block.new.asks ++ drop (length c.ask_block.new.asks) c.loop-block.asks.items) ≡ c.ask_block.new.asks
  asks_written = written_back c.loop-block.asks.len c.ask_block.new.asks c.loop-block.asks.items (c.in_ok-ask_block.ensures.noted.long ∙ ap length c.as_mut_slice.ensures.value) (sym c.loop-block.asks.ok.0)

  -- the numbers behind the block
  values_are : c.as_mut_slice-in-loop-block.result.now ≡ value_at (net_over c.args.graph.now (asked_by c.args.graph.now.shared c.args.around.now) c.args.crossed.now (back_in c.args.backs.now)) c.args.work.now c.loop-block.block
  values_are =
      let lt : c.loop-block.block < length c.args.work.now = omega (arith, c.loop-block-test.true, c.len-block-end.ensures, c.requires.least.long) in
      c.as_mut_slice-in-loop-block.ensures.value ∙ c.copy_from_slice.ensures.items ∙ c.bits.ensures.numbers ∙ c.value.ensures
      ∙ sym (get_or_from_slice_get c.args.work.now c.loop-block.block _ _ (slice_get-get_or c.args.work.now c.loop-block.block c.value.result.now lt))

pub loop-block-preserved : goal.loop-block-preserved
loop-block-preserved c =
    let after = (goal.at.loop-block-preserved c).In_ok-ask_block in
    let graph = c.args.graph.now in
    let asked = asked_by graph.shared c.args.around.now in
    let back = back_in c.args.backs.now in
    let written = asks_written after in
    let room = c.copy_from_slice.new.self in
    let room_long = c.in_ok-ask_block.ensures.long ∙ ap length c.as_mut_slice-in-loop-block.ensures.value in
    let room_written = written_back room.len c.ask_block.new.bits room.items room_long (sym room.ok.0) in
    let values = value_at (net_over graph asked c.args.crossed.now back) c.args.work.now in
    let notes : NotesFrom (λ n. ask_past graph.shared) None graph asked back c.nodes-list.result.now (values c.loop-block.block) 0 c.loop-block.asks.items c.ask_block.new.asks =
    subst (λ l. NotesFrom (λ n. ask_past graph.shared) None graph asked back c.nodes-list.result.now (values c.loop-block.block) 0 l c.ask_block.new.asks) c.as_mut_slice.ensures.value
    (subst (λ l. NotesFrom (λ n. ask_past graph.shared) None graph asked back c.nodes-list.result.now l 0 c.as_mut_slice.result.now c.ask_block.new.asks) (values_are after) c.in_ok-ask_block.ensures.noted) in
    record {
      long = ap length written ∙ notes.long ∙ c.loop-block.invariant.long;
      room = ap length room_written ∙ room_long ∙ omega (arith, c.copy_from_slice.ensures.len, room.ok.0, c.loop-block.room.ok.0, c.loop-block.invariant.room);
      noted = subst (NotesBelow (λ n. ask_past graph.shared) None graph asked back c.args.crossed.now.blocks.lists values (c.loop-block.block + 1)) (sym written)
          (below_more (λ n. ask_past graph.shared) None graph asked back c.args.crossed.now.blocks.lists values c.requires.crossed.blocks.are c.loop-block.block c.nodes-list.result.now c.loop-block.asks.items c.ask_block.new.asks c.nodes-list.ensures c.loop-block.invariant.noted notes);
    }

pub returns : goal.returns
returns c =
    let graph = c.args.graph.now in
    let asked = asked_by graph.shared c.args.around.now in
    let back = back_in c.args.backs.now in
    let crossed = c.args.crossed.now in
    let few = asks_few graph.shared c.args.around.now in
    let is : IsGraph graph.vars graph.received graph.nodes = rw (← c.nodes-nodes.ensures.value) c.nodes-nodes.ensures.graph in
    let least : graph.shared ≤ length graph.vars = subst (λ n. n ≤ length graph.vars) c.shared-shared.ensures.value c.shared-shared.ensures.shares.count in
    let are = c.requires.crossed.blocks.are in
    let values = value_at (net_over graph asked crossed back) c.args.work.now in
    let edges = crossed.between.edges.items in
    let firsts = crossed.between.firsts.items in
    record {
      long = c.loop-block.invariant.long;
      are = λ shifts have. (
        bits_by graph asked few shifts back have is.can crossed.blocks.lists are edges firsts c.requires.crossed.between values,
        least_wanted graph asked few shifts back have is.can crossed.blocks.lists are edges firsts c.requires.crossed.between values c.requires.least.least,
        are_asks graph asked few shifts back have is.can least crossed.blocks.lists are edges firsts c.requires.crossed.between values c.requires.least.least c.loop-block.asks.items c.loop-block.invariant.long
            (λ b i n list listed at.
            let low = slice_get_within crossed.blocks.lists b list listed in
            c.loop-block.invariant.noted.noted b i n list (omega (arith, low, c.loop-block-test.false, c.len-block-end.ensures)) listed at)
            (slice_get_within graph.nodes 0 (Start is.can.start.0) is.can.start.1) (λ n node here. slice_get_within graph.nodes n node here),
      );
    }
