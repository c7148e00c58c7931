use Rattle.std.proofs.Common.{◌≡◌, ◌∙◌, ◌++◌, ◌+◌, ◌<◌, [], drop, length, sym, ap, subst, take, arith}
use Rattle.std.proofs.lemmas.Option.{get_or_from_slice_get, slice_get-get_or, slice_get_within}
use Rattle.fix_solve.specs.Net.{value_at}
use Rattle.flow_graph.specs.Graphs.{IsGraph}
use Rattle.wanted_bits.specs.Asking.{asked_by}
use Rattle.wanted_bits.specs.WalkLaws.{asks_few}
use Rattle.wanted_bits.specs.Before.{row_past}
use Rattle.wanted_bits.specs.Found.{NotesFrom}
use Rattle.wanted_bits.specs.Walking.{back_in, bits_at}
use Rattle.wanted_bits.specs.WantedFlows.{net_over}
use Rattle.wanted_bits.proofs.LeastNumbers.{before_same, bits_by, least_wanted}
use Rattle.wanted_bits.proofs.Noting.{NotesBelow, below_more, block_nodes}
use Rattle.wanted_bits.proofs.Raising.{written_back}
use Rattle.wanted_bits.proofs.before.all_rows.Goals as goal
use Rattle.wanted_bits.proofs.before.all_rows.Goals.{In_ok-row_block}

pub row_block-requires-clause-block : goal.row_block-requires-clause-block
row_block-requires-clause-block c = c.requires.crossed.blocks.are.blocks c.loop-block.block c.nodes-list.result.now c.nodes-list.ensures

pub row_block-requires-clause-nodes : goal.row_block-requires-clause-nodes
row_block-requires-clause-nodes c = block_nodes c.args.graph.now c.nodes-list.result.now (c.requires.crossed.blocks.are.blocks c.loop-block.block c.nodes-list.result.now c.nodes-list.ensures)

module _ (c : In_ok-row_block) where
  -- what is written of the numbers
  rows_written : take c.loop-block.rows.len (c.row_block.new.rows ++ drop (length c.row_block.new.rows) c.loop-block.rows.items) ≡ c.row_block.new.rows
  rows_written = written_back c.loop-block.rows.len c.row_block.new.rows c.loop-block.rows.items (c.in_ok-row_block.ensures.noted.long ∙ ap length c.as_mut_slice.ensures.value) (sym c.loop-block.rows.ok.0)

  -- the numbers behind the block
  values_are : c.as_mut_slice-in-loop-block.result.now ≡ value_at (net_over c.args.graph.now (asked_by c.args.graph.now.shared c.args.around.now) c.args.crossed.now (back_in c.args.backs.now)) c.args.work.now c.loop-block.block
  values_are =
      let lt : c.loop-block.block < length c.args.work.now = omega (arith, c.loop-block-test.true, c.len-block-end.ensures, c.requires.least.long) in
      c.as_mut_slice-in-loop-block.ensures.value ∙ c.copy_from_slice.ensures.items ∙ c.bits.ensures.numbers ∙ c.value.ensures
      ∙ sym (get_or_from_slice_get c.args.work.now c.loop-block.block _ _ (slice_get-get_or c.args.work.now c.loop-block.block c.value.result.now lt))

pub loop-block-preserved : goal.loop-block-preserved
loop-block-preserved c =
    let after = (goal.at.loop-block-preserved c).In_ok-row_block in
    let graph = c.args.graph.now in
    let asked = asked_by graph.shared c.args.around.now in
    let back = back_in c.args.backs.now in
    let written = rows_written after in
    let room = c.copy_from_slice.new.self in
    let room_long = c.in_ok-row_block.ensures.long ∙ ap length c.as_mut_slice-in-loop-block.ensures.value in
    let room_written = written_back room.len c.row_block.new.bits room.items room_long (sym room.ok.0) in
    let values = value_at (net_over graph asked c.args.crossed.now back) c.args.work.now in
    let notes : NotesFrom (row_past graph asked back) [] graph asked back c.nodes-list.result.now (values c.loop-block.block) 0 c.loop-block.rows.items c.row_block.new.rows =
    subst (λ l. NotesFrom (row_past graph asked back) [] graph asked back c.nodes-list.result.now (values c.loop-block.block) 0 l c.row_block.new.rows) c.as_mut_slice.ensures.value
    (subst (λ l. NotesFrom (row_past graph asked back) [] graph asked back c.nodes-list.result.now l 0 c.as_mut_slice.result.now c.row_block.new.rows) (values_are after) c.in_ok-row_block.ensures.noted) in
    record {
      long = ap length written ∙ notes.long ∙ c.loop-block.invariant.long;
      room = ap length room_written ∙ room_long ∙ omega (arith, c.copy_from_slice.ensures.len, room.ok.0, c.loop-block.room.ok.0, c.loop-block.invariant.room);
      noted = subst (NotesBelow (row_past graph asked back) [] graph asked back c.args.crossed.now.blocks.lists values (c.loop-block.block + 1)) (sym written)
          (below_more (row_past graph asked back) [] graph asked back c.args.crossed.now.blocks.lists values c.requires.crossed.blocks.are c.loop-block.block c.nodes-list.result.now c.loop-block.rows.items c.row_block.new.rows c.nodes-list.ensures c.loop-block.invariant.noted notes);
    }

pub returns : goal.returns
returns c =
    let graph = c.args.graph.now in
    let asked = asked_by graph.shared c.args.around.now in
    let back = back_in c.args.backs.now in
    let crossed = c.args.crossed.now in
    let few = asks_few graph.shared c.args.around.now in
    let is : IsGraph graph.vars graph.received graph.nodes = rw (← c.nodes-nodes.ensures.value) c.nodes-nodes.ensures.graph in
    let are = c.requires.crossed.blocks.are in
    let values = value_at (net_over graph asked crossed back) c.args.work.now in
    let edges = crossed.between.edges.items in
    let firsts = crossed.between.firsts.items in
    λ shifts have. (
      bits_by graph asked few shifts back have is.can crossed.blocks.lists are edges firsts c.requires.crossed.between values,
      least_wanted graph asked few shifts back have is.can crossed.blocks.lists are edges firsts c.requires.crossed.between values c.requires.least.least,
      record {
        long = c.loop-block.invariant.long;
        numbers = λ n x lt x_in.
            let st = are.every n lt in
            let low = slice_get_within crossed.blocks.lists st.0 st.1.list st.1.listed in
            ap (λ l. bits_at l x) (c.loop-block.invariant.noted.noted st.0 st.1.place n st.1.list (omega (arith, low, c.loop-block-test.false, c.len-block-end.ensures)) st.1.listed st.1.is)
            ∙ before_same graph asked few shifts back have is.can crossed.blocks.lists are edges firsts c.requires.crossed.between values c.requires.least.least st.0 st.1.place n st.1.list x st.1.listed st.1.is x_in;
      },
    )
