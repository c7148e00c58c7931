use Rattle.std.proofs.Common.{arith, refl, length}
use Rattle.std.proofs.lemmas.Option.{slice_get_read}
use Rattle.flow_graph.proofs.LowerMade.{receives_few, target_within}
use Rattle.flow_graph.proofs.lowering.all_nodes.Goals as goal

pub overflow_add-receives : goal.overflow_add-receives
overflow_add-receives c = omega (arith, receives_few c.args.insts.now)

pub node_at-requires-clause-target : goal.node_at-requires-clause-target
node_at-requires-clause-target c =
    let here = slice_get_read c.args.insts.now (length c.args.insts.now) c.loop-inst.inst-index c.inst-item.result refl c.loop-inst-test.true c.inst-item.is in
    target_within c.requires.lower.0 c.args.insts.now c.loop-inst.inst-index c.inst-item.result _ c.requires.lower.1 here (omega arith)
