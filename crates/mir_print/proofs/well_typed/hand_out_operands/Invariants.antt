use Rattle.std.proofs.Common.{take}
use Rattle.std.specs.List.{All}
use Rattle.mir_print.specs.WellTyped.{OperandWellTyped}
use Rattle.mir_print.proofs.well_typed.hand_out_operands.Given as goal

abbrev pub invariant-loop-operand : goal.invariant-loop-operand
invariant-loop-operand l = All OperandWellTyped (take l.operand-index l.operands)
