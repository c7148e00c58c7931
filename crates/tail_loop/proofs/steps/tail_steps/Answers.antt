use Rattle.flow_graph.specs.LoweringLaws.{fits_lower}
use Rattle.tail_loop.proofs.Makes.{self_calls_fit}
use Rattle.tail_loop.proofs.steps.tail_steps.Goals as goal

pub lowered_clean-requires : goal.lowered_clean-requires
lowered_clean-requires c = fits_lower c.args.program.now.units c.args.program.now.globals c.unit.result.now c.unit.ensures.fits c.unit.ensures.shares

pub tail-requires : goal.tail-requires
tail-requires c = self_calls_fit c.args.program.now.units c.args.number c.unit.result.now c.in_ok-front.front.lowered c.in_ok-front.front.cleaned c.unit.ensures.unit c.unit.ensures.fits c.in_ok-front.ensures
