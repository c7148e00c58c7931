use Rattle.std.proofs.Common.{◌≡◌, ◌++◌, map, take, drop}
use Rattle.mir_base.specs.Units.{operand_value}
use Rattle.mir_interp.specs.RunsSoFar.{values_of}
use Rattle.mir_interp.proofs.stack.push_operands.Given as goal

abbrev pub invariant-loop-a : goal.invariant-loop-a
invariant-loop-a l = l.values.items ≡ l.initial.values.items ++ map (operand_value (values_of (drop l.variables l.initial.values.items))) (take l.a-index l.operands)
