use Rattle.std.proofs.Common.{◌≡◌, ◌∙◌, ◌++◌, ◌<◌, [], None, drop, length, sym, ap, subst, take, arith}
use Rattle.std.proofs.lemmas.List.{get_or_default}
use Rattle.node_list.specs.Lists.{list_at}
use Rattle.flow_graph.specs.Graphs.{IsGraph}
use Rattle.wanted_bits.specs.Asking.{asked_by}
use Rattle.wanted_bits.specs.Asks.{ask_past}
use Rattle.wanted_bits.specs.Found.{NotesFrom}
use Rattle.wanted_bits.specs.KeptRows.{AsksBelow}
use Rattle.wanted_bits.specs.Walking.{back_in}
use Rattle.wanted_bits.specs.WalkLaws.{asks_few}
use Rattle.wanted_bits.proofs.KeptBelow.{asks_noted}
use Rattle.wanted_bits.proofs.Noting.{block_nodes}
use Rattle.wanted_bits.proofs.Raising.{written_back}
use Rattle.wanted_bits.proofs.kept.ask_row.Goals as goal
use Rattle.wanted_bits.proofs.kept.ask_row.Goals.{In_ok-ask_block}

pub ask_block-requires-clause-block : goal.ask_block-requires-clause-block
ask_block-requires-clause-block c = c.requires.prepared.crossed.blocks.are.blocks c.args.block c.nodes-list.result.now c.nodes-list.ensures

pub ask_block-requires-clause-nodes : goal.ask_block-requires-clause-nodes
ask_block-requires-clause-nodes c = block_nodes c.args.graph.now c.nodes-list.result.now (c.requires.prepared.crossed.blocks.are.blocks c.args.block c.nodes-list.result.now c.nodes-list.ensures)

-- what is written of what is asked for
asks_written : (c : In_ok-ask_block) → take c.args.asks.now.len (c.ask_block.new.asks ++ drop (length c.ask_block.new.asks) c.args.asks.now.items) ≡ c.ask_block.new.asks
asks_written c = written_back c.args.asks.now.len c.ask_block.new.asks c.args.asks.now.items (c.in_ok-ask_block.ensures.noted.long ∙ ap length c.as_mut_slice-asks.ensures.value) (sym c.args.asks.now.ok.0)

pub returns-clause-asks : goal.returns-clause-asks
returns-clause-asks c shifts have wanted are under before =
    let known = (goal.at.returns-clause-asks c).In_ok-ask_block in
    let graph = c.args.graph.now in
    let asked = asked_by graph.shared c.args.around.now in
    let prepared = c.args.prepared.now in
    let rows = c.args.rows.now in
    let block = c.args.block in
    let list = c.nodes-list.result.now in
    let is : IsGraph graph.vars graph.received graph.nodes = rw (← c.nodes-nodes.ensures.value) c.nodes-nodes.ensures.graph in
    let lt : block < length rows = omega (arith, c.if-block-rows.false) in
    let row_is : c.as_mut_slice.result.now ≡ list_at rows block = c.as_mut_slice.ensures.value ∙ c.copy_from_slice.ensures.items ∙ c.bits.ensures.numbers ∙ c.index-rows-block.is ∙ get_or_default rows block _ [] lt in
    let notes : NotesFrom (λ n. ask_past graph.shared) None graph asked (back_in prepared.backs.items) list c.as_mut_slice.result.now 0 c.args.asks.now.items c.ask_block.new.asks =
    subst (λ l. NotesFrom (λ n. ask_past graph.shared) None graph asked (back_in prepared.backs.items) list c.as_mut_slice.result.now 0 l c.ask_block.new.asks) c.as_mut_slice-asks.ensures.value
    (subst (λ l. NotesFrom (λ n. ask_past graph.shared) None graph asked (back_in l) list c.as_mut_slice.result.now 0 c.as_mut_slice-asks.result.now c.ask_block.new.asks) c.as_slice-backs.ensures.value c.in_ok-ask_block.ensures.noted) in
    subst (AsksBelow graph wanted) (sym (asks_written known))
    (asks_noted graph asked (asks_few graph.shared c.args.around.now) shifts (back_in prepared.backs.items) have is.can prepared.crossed.blocks.lists c.requires.prepared.crossed.blocks.are prepared.crossed.between.edges.items prepared.crossed.between.firsts.items c.requires.prepared.crossed.between
    wanted are rows c.requires.rows under block list c.as_mut_slice.result.now c.args.asks.now.items c.ask_block.new.asks lt c.nodes-list.ensures row_is notes before)
