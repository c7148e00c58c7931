use Rattle.std.proofs.Common.{◌≡◌, take, fold}
use Rattle.std.specs.List.{flat_map}
use Rattle.mir_valid.specs.Variables.{operand_names}
use Rattle.mir_valid.specs.Numbered.{with_name}
use Rattle.mir_valid.proofs.variables.Variables.with_operands.Given as goal

abbrev pub invariant-loop-operand : goal.invariant-loop-operand
invariant-loop-operand l = l.vars ≡ fold with_name l.fn.self (flat_map operand_names (take l.operand-index l.operands))
