use Rattle.std.proofs.Common.{◌≡◌, map, take}
use Rattle.mir_valid.specs.Numbered.{numbered_operand}
use Rattle.mir_valid.proofs.numbering.numbered_args.Given as goal

abbrev pub invariant-loop-operand : goal.invariant-loop-operand
invariant-loop-operand l = l.numbered.items ≡ map (numbered_operand l.vars) (take l.operand-index l.operands)
