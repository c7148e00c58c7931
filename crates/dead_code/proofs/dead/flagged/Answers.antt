use Rattle.std.proofs.Common.{arith}
use Rattle.dead_code.proofs.Flagging.{flagged_blocks}
use Rattle.dead_code.proofs.dead.flagged.Goals as goal

pub returns : goal.returns
returns c =
    flagged_blocks c.args.graph.now c.args.blocks.now.lists c.loop-block.block c.loop-block.dead.items c.requires.blocks.are
    (omega (arith, c.loop-block-test.false, c.len-block-end.ensures)) c.loop-block.invariant.dead
