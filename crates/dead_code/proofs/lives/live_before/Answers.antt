use Rattle.std.proofs.Common.{arith}
use Rattle.dead_code.proofs.LiveNodes.{live_blocks}
use Rattle.dead_code.proofs.lives.live_before.Goals as goal

pub returns-clause-shape : goal.returns-clause-shape
returns-clause-shape c = c.loop-block.invariant.rows.shape

pub returns-clause-live : goal.returns-clause-live
returns-clause-live c =
    live_blocks c.args.graph.now c.args.blocks.now.lists c.loop-block.block c.loop-block.rows c.requires.blocks.are
    (omega (arith, c.loop-block-test.false, c.len-block-end.ensures)) c.loop-block.invariant.rows
