use Rattle.dead_code.proofs.Flagging.{AreLiveBack}
use Rattle.dead_code.proofs.LiveNodes.{HaveLive}
use Rattle.dead_code.proofs.lives.fill_live.Given as goal

abbrev pub invariant-loop-back : goal.invariant-loop-back
invariant-loop-back l = record {
  live : AreLiveBack l.graph l.blocks.lists l.block l.list l.back l.live;
  rows : HaveLive l.graph l.blocks.lists l.block l.list l.back l.rows;
}
