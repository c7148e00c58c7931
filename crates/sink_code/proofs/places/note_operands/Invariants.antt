use Rattle.std.proofs.Common.{◌≡◌, flat_map, take}
use Rattle.mir_base.specs.Shapes.{operand_vars}
use Rattle.sink_code.specs.BlockPlaces.{noted}
use Rattle.sink_code.proofs.places.note_operands.Given as goal

abbrev pub invariant-loop-operand : goal.invariant-loop-operand
invariant-loop-operand l = l.places ≡ noted l.place (flat_map operand_vars (take l.operand-index l.operands)) l.initial.places
