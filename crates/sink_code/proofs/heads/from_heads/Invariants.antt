use Rattle.std.proofs.Common.{◌-◌, length}
use Rattle.sink_code.specs.Heads.{AreHeadsDone}
use Rattle.sink_code.specs.BlockPlaces.{AreBlockPlaces}
use Rattle.sink_code.proofs.heads.from_heads.Given as goal

abbrev pub invariant-loop-later : goal.invariant-loop-later
invariant-loop-later l = record {
  places : AreBlockPlaces l.over.graph.now (length l.over.blocks.now.lists - l.later) l.places;
  done : AreHeadsDone l.over l.coming.into l.initial.leaves l.initial.puts.items (length l.over.blocks.now.lists - l.later) l.leaves l.puts.items;
}
