use Rattle.mir_opt.specs.declared.trails.MoveTrail.{MoveTrail}
use Rattle.mir_opt.specs.Best.{DivisionsAreBest}
use Rattle.mir_opt.specs.OneLaws.{division_is_one}
use Rattle.mir_opt.proofs.ProgramSteps.{steps_all, steps_keep, steps_linked, steps_only}
use Rattle.mir_opt.proofs.commands.divisions.Goals as goal

pub returns-clause-linked : goal.returns-clause-linked
returns-clause-linked c = steps_linked c.in_ok-steps.ensures

pub returns-clause-only : goal.returns-clause-only
returns-clause-only c = λ other. steps_only c.in_ok-steps.ensures {Trail = MoveTrail} (λ source units target. record { source = source; units = units; target = target }) division_is_one other.source other.units other.target

pub returns-clause-stages : goal.returns-clause-stages
returns-clause-stages c = steps_keep c.in_ok-steps.ensures

pub returns-clause-best : goal.returns-clause-best
returns-clause-best c = steps_all c.in_ok-steps.ensures DivisionsAreBest (λ source unit best. best)
