use Rattle.std.proofs.Common.{flat_map, take}
use Rattle.mir_base.specs.Shapes.{operand_vars}
use Rattle.wanted_bits.specs.NewsShapes.{AreNoted}
use Rattle.wanted_bits.proofs.touching.note_operands.Given as goal

abbrev pub invariant-loop-i : goal.invariant-loop-i
invariant-loop-i l = AreNoted (flat_map operand_vars (take l.i l.operands)) l.initial.noted l.noted
