use Rattle.flow_graph.specs.LoweringLaws.{fits_lower}
use Rattle.mir_tests.proofs.tests.support.first_graph.Goals as goal

pub lower-requires : goal.lower-requires
lower-requires c = fits_lower c.args.program.now.units c.args.program.now.globals c.unit.result.now c.unit.ensures.fits c.unit.ensures.shares
