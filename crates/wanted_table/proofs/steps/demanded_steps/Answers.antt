use Rattle.flow_graph.specs.LoweringLaws.{fits_lower}
use Rattle.wanted_table.proofs.steps.demanded_steps.Goals as goal

pub lowered_clean-requires : goal.lowered_clean-requires
lowered_clean-requires c = fits_lower c.args.program.now.units c.args.program.now.globals c.unit.result.now c.unit.ensures.fits c.unit.ensures.shares
