use Rattle.mir_opt.specs.declared.trails.MoveTrail.{MoveTrail}
use Rattle.mir_opt.specs.Best.{MotionIsBest}
use Rattle.mir_opt.specs.OneLaws.{move_is_one}
use Rattle.mir_opt.proofs.KeptDivisions.{move_divisions}
use Rattle.mir_opt.proofs.ProgramSteps.{steps_all, steps_at, steps_keep, steps_lay, steps_linked, steps_only, steps_of_unit}
use Rattle.mir_opt.proofs.commands.motion.Goals as goal

pub returns-clause-linked : goal.returns-clause-linked
returns-clause-linked c = steps_linked c.in_ok-steps.ensures

pub returns-clause-only : goal.returns-clause-only
returns-clause-only c = λ other. steps_only c.in_ok-steps.ensures {Trail = MoveTrail} (λ source units target. record { source = source; units = units; target = target }) move_is_one other.source other.units other.target

pub returns-clause-stages : goal.returns-clause-stages
returns-clause-stages c = steps_keep c.in_ok-steps.ensures

pub returns-clause-best : goal.returns-clause-best
returns-clause-best c = steps_all c.in_ok-steps.ensures MotionIsBest (λ source unit best. best.moves)

pub returns-clause-divisions : goal.returns-clause-divisions
returns-clause-divisions c = λ n source target at at'.
    let whole = c.in_ok-steps.ensures in
    let there = steps_of_unit whole n source at in
    let made = steps_at whole n source there.0 at there.1 in
    move_divisions source target there.0 made.linked made.best.lowers made.best.divisions (steps_lay whole n there.0 target there.1 at')
