use Rattle.mir_opt.specs.declared.trails.Trail.{Trail}
use Rattle.mir_opt.specs.Best.{MovesBest, RoundsAreBest, SinksNoMore}
use Rattle.mir_opt.specs.Divisions.{DivisionsStay}
use Rattle.mir_opt.specs.OneLaws.{unit_is_one}
use Rattle.mir_opt.proofs.KeptDivisions.{unit_divisions}
use Rattle.mir_opt.proofs.ProgramSteps.{steps_all, steps_at, steps_keep, steps_lay, steps_linked, steps_only}
use Rattle.mir_opt.proofs.commands.optimise.Goals as goal

pub returns-clause-linked : goal.returns-clause-linked
returns-clause-linked c = steps_linked c.in_ok-steps.ensures

pub returns-clause-best : goal.returns-clause-best
returns-clause-best c = steps_all c.in_ok-steps.ensures MovesBest (λ source unit best. best.moves)

pub returns-clause-sinks : goal.returns-clause-sinks
returns-clause-sinks c = steps_all c.in_ok-steps.ensures SinksNoMore (λ source unit best. best.sinks)

pub returns-clause-rounds : goal.returns-clause-rounds
returns-clause-rounds c = steps_all c.in_ok-steps.ensures RoundsAreBest (λ source unit best. best.rounds)

pub returns-clause-stay : goal.returns-clause-stay
returns-clause-stay c = steps_all c.in_ok-steps.ensures DivisionsStay (λ source unit best. best.divisions)

pub returns-clause-divisions : goal.returns-clause-divisions
returns-clause-divisions c = λ n source target unit at at' at''.
    let whole = c.in_ok-steps.ensures in
    let made = steps_at whole n source unit at at' in
    unit_divisions source target unit made.linked made.best.lowers made.best.divisions (steps_lay whole n unit target at' at'')

pub returns-clause-only : goal.returns-clause-only
returns-clause-only c = λ other. steps_only c.in_ok-steps.ensures {Trail = Trail} (λ source units target. record { source = source; units = units; target = target }) unit_is_one other.source other.units other.target

pub returns-clause-stages : goal.returns-clause-stages
returns-clause-stages c = steps_keep c.in_ok-steps.ensures
