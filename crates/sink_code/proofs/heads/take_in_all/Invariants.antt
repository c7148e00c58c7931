use Rattle.std.proofs.Common.{◌-◌, length}
use Rattle.sink_code.specs.BlockPlaces.{AreTakenIn}
use Rattle.sink_code.proofs.heads.take_in_all.Given as goal

abbrev pub invariant-loop-back : goal.invariant-loop-back
invariant-loop-back l = AreTakenIn l.over.graph.now l.block (length l.list - l.back) l.list l.places
