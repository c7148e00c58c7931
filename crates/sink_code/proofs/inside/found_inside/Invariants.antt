use Rattle.std.proofs.Common.{◌-◌, length}
use Rattle.sink_code.specs.Inside.{AreInsideFrom}
use Rattle.sink_code.specs.BlockPlaces.{AreBlockPlaces}
use Rattle.sink_code.proofs.inside.found_inside.Given as goal

abbrev pub invariant-loop-later : goal.invariant-loop-later
invariant-loop-later l = record {
  places : AreBlockPlaces l.graph (length l.blocks.lists - l.later) l.places;
  found : AreInsideFrom l.graph l.blocks.lists (length l.blocks.lists - l.later) l.found;
}
