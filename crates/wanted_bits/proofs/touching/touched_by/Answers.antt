use Rattle.wanted_bits.proofs.Noting.{block_nodes}
use Rattle.wanted_bits.proofs.touching.touched_by.Goals as goal

pub note_block-requires-clause-nodes : goal.note_block-requires-clause-nodes
note_block-requires-clause-nodes c =
    block_nodes c.args.graph.now c.nodes.result.now (c.requires.blocks.are.blocks _ c.nodes.result.now c.nodes.ensures)
