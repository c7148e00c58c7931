use Rattle.std.proofs.Common.{◌≡◌, ◌++◌}
use Rattle.mir_opt.specs.Stages.{first_rounds}
use Rattle.mir_opt.proofs.stages.put_rounds.Given as goal

abbrev pub invariant-loop-number : goal.invariant-loop-number
invariant-loop-number l = l.stages.items ≡ l.fn.stages.items ++ first_rounds l.number
