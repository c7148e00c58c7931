use Rattle.mir_print.specs.WellTyped.{UnitWellTyped}
use Rattle.mir_print.proofs.Prefixes.{prefix_more, prefix_whole}
use Rattle.mir_print.proofs.well_typed.hand_out_units.Goals as goal

pub loop-unit-preserved : goal.loop-unit-preserved
loop-unit-preserved c = prefix_more UnitWellTyped c.args.units.now c.loop-unit.unit-index c.unit-item.result c.loop-unit-test.true c.loop-unit.invariant c.unit-item.is c.hand_out_unit.ensures

pub returns : goal.returns
returns c = prefix_whole UnitWellTyped c.args.units.now c.loop-unit.unit-index c.loop-unit-test.false c.loop-unit.invariant
