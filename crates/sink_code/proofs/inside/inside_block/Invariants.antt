use Rattle.std.proofs.Common.{◌-◌, length}
use Rattle.sink_code.specs.Inside.{AreFoundFrom}
use Rattle.sink_code.specs.BlockPlaces.{AreTakenIn}
use Rattle.sink_code.proofs.inside.inside_block.Given as goal

abbrev pub invariant-loop-back : goal.invariant-loop-back
invariant-loop-back l = record {
  taken : AreTakenIn l.graph l.block (length l.list - l.back) l.list l.places;
  found : AreFoundFrom l.graph l.blocks.lists l.block (length l.list - l.back) l.found;
}
