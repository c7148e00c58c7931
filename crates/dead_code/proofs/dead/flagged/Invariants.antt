use Rattle.dead_code.specs.Dead.{AreFlaggedTo, AreLiveAfterFrom}
use Rattle.dead_code.proofs.dead.flagged.Given as goal

abbrev pub invariant-loop-block : goal.invariant-loop-block
invariant-loop-block l = record {
  live : AreLiveAfterFrom l.graph l.blocks.lists l.block l.live;
  dead : AreFlaggedTo l.graph l.blocks.lists l.block l.dead.items;
}
