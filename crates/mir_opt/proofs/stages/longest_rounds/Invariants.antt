use Rattle.std.proofs.Common.{◌≡◌, take}
use Rattle.mir_opt.specs.Stages.{longest_rounds}
use Rattle.mir_opt.proofs.stages.longest_rounds.Given as goal

abbrev pub invariant-loop-unit : goal.invariant-loop-unit
invariant-loop-unit l = l.most ≡ longest_rounds (take l.unit-index l.units)
