use Rattle.dead_code.proofs.Flagging.{AreFlaggedBack}
use Rattle.dead_code.proofs.dead.flag.Given as goal

abbrev pub invariant-loop-back : goal.invariant-loop-back
invariant-loop-back l = AreFlaggedBack l.graph l.blocks.lists l.block l.list l.back l.live l.dead
