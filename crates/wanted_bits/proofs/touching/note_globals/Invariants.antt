use Rattle.mir_base.specs.Frames.{shared_vars}
use Rattle.wanted_bits.specs.NewsShapes.{AreNoted}
use Rattle.wanted_bits.proofs.touching.note_globals.Given as goal

abbrev pub invariant-loop-x : goal.invariant-loop-x
invariant-loop-x l = AreNoted (shared_vars l.x) l.initial.noted l.noted
