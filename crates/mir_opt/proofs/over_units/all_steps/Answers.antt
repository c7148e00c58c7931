use Rattle.mir_opt.specs.Made.{UnitMade}
use Rattle.flow_graph.specs.LoweringLaws.{fits_lower}
use Rattle.mir_opt.proofs.Zips.{next_zip}
use Rattle.mir_opt.proofs.over_units.all_steps.Goals as goal

pub make-requires : goal.make-requires
make-requires g c = fits_lower c.args.program.now.units c.args.program.now.globals c.unit.result.now c.unit.ensures.fits c.unit.ensures.shares

pub loop-number-preserved : goal.loop-number-preserved
loop-number-preserved g c =
    next_zip (UnitMade g.T.UnitSteps.graph_at g.T.UnitSteps.linked g.T.UnitSteps.best g.T.UnitSteps.within) c.args.program.now.units c.loop-number.units.items c.push.new.self.items c.loop-number.number c.unit.result.now c.in_ok-make.field-0
    c.loop-number.invariant c.unit.ensures.unit c.in_ok-make.ensures c.in_ok-push.ensures.items
