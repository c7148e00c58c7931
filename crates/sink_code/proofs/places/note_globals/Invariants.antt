use Rattle.std.proofs.Common.{◌≡◌}
use Rattle.mir_base.specs.Frames.{shared_vars}
use Rattle.sink_code.specs.BlockPlaces.{noted}
use Rattle.sink_code.proofs.places.note_globals.Given as goal

abbrev pub invariant-loop-x : goal.invariant-loop-x
invariant-loop-x l = l.places ≡ noted l.place (shared_vars l.x) l.initial.places
