use Rattle.std.proofs.Common.{◌≡◌, length, sum_by, take}
use Rattle.mir_top.proofs.trial.instructions.Given as goal

abbrev pub invariant-loop-unit : goal.invariant-loop-unit
invariant-loop-unit l = l.count ≡ sum_by (λ unit. length unit.body) (take l.unit-index l.program.units)
