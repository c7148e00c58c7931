use Rattle.std.proofs.Common.{take}
use Rattle.wanted_bits.specs.NewsShapes.{AreNoted}
use Rattle.wanted_bits.specs.Touching.{touched_in}
use Rattle.wanted_bits.specs.Walking.{back_in}
use Rattle.wanted_bits.proofs.touching.note_block.Given as goal

abbrev pub invariant-loop-i : goal.invariant-loop-i
invariant-loop-i l = AreNoted (touched_in l.graph (back_in l.backs) (take l.i l.list)) l.initial.noted l.noted
