use Rattle.dead_code.specs.Dead.{AreLiveAfterFrom}
use Rattle.dead_code.specs.LiveRows.{AreLiveTo}
use Rattle.dead_code.proofs.lives.live_before.Given as goal

abbrev pub invariant-loop-block : goal.invariant-loop-block
invariant-loop-block l = record {
  live : AreLiveAfterFrom l.graph l.blocks.lists l.block l.live;
  rows : AreLiveTo l.graph l.blocks.lists l.block l.rows;
}
