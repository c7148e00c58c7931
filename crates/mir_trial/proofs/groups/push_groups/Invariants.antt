use Rattle.std.proofs.Common.{◌-◌}
use Rattle.mir_trial.proofs.Growing.{SoFar}
use Rattle.mir_trial.proofs.groups.push_groups.Given as goal

-- what there is and what is still to come are all of it
abbrev pub invariant-loop-group_number : goal.invariant-loop-group_number
invariant-loop-group_number l = SoFar l.count l.fn.body.items l.fn.draws.state (l.count - l.group_number) l.body.items l.draws.state
