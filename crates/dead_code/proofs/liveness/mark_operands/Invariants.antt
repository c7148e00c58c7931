use Rattle.std.proofs.Common.{true, flat_map, take}
use Rattle.mir_base.specs.Shapes.{operand_vars}
use Rattle.dead_code.specs.LiveRows.{IsMarkedAt}
use Rattle.dead_code.proofs.liveness.mark_operands.Given as goal

abbrev pub invariant-loop-operand : goal.invariant-loop-operand
invariant-loop-operand l = IsMarkedAt true l.n (flat_map operand_vars (take l.operand-index l.operands)) l.initial.rows l.rows
