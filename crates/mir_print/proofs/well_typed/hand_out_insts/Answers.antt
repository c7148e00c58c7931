use Rattle.mir_print.specs.WellTyped.{InstWellTyped}
use Rattle.mir_print.proofs.Prefixes.{prefix_more, prefix_whole}
use Rattle.mir_print.proofs.well_typed.hand_out_insts.Goals as goal

pub loop-inst-preserved : goal.loop-inst-preserved
loop-inst-preserved c = prefix_more InstWellTyped c.args.insts.now c.loop-inst.inst-index c.inst-item.result c.loop-inst-test.true c.loop-inst.invariant c.inst-item.is c.hand_out_inst.ensures

pub returns-clause-well_typed : goal.returns-clause-well_typed
returns-clause-well_typed c = prefix_whole InstWellTyped c.args.insts.now c.loop-inst.inst-index c.loop-inst-test.false c.loop-inst.invariant
