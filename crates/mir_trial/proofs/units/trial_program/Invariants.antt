use Rattle.std.proofs.Common.{◌-◌}
use Rattle.mir_trial.proofs.Listed.{ListedSoFar}
use Rattle.mir_trial.proofs.units.trial_program.Given as goal

-- what there is and what is still to come are all of it
abbrev pub invariant-loop-j : goal.invariant-loop-j
invariant-loop-j l = ListedSoFar l.count l.fn.number (l.count - l.j) l.j l.units.items l.draws.state
