use Rattle.wanted_bits.specs.Asking.{asked_by}
use Rattle.wanted_bits.proofs.KeptBelow.{passed_same, passed_then}
use Rattle.wanted_bits.proofs.kept.pass_risen.Goals as goal

pub loop-count-init : goal.loop-count-init
loop-count-init c = record { passed = passed_same (asked_by c.args.graph.now.shared c.args.around.now) c.args.graph.now c.args.prepared.now c.args.rows.now.items c.requires.rows; room = c.requires.room }

pub loop-time-preserved : goal.loop-time-preserved
loop-time-preserved c = record {
  passed = passed_then (asked_by c.args.graph.now.shared c.args.around.now) c.args.graph.now c.args.prepared.now _ _ _ c.loop-time.invariant.passed c.pass_block.ensures.passed;
  room = c.pass_block.ensures.room;
}

pub loop-count-preserved : goal.loop-count-preserved
loop-count-preserved c = record {
  passed = passed_then (asked_by c.args.graph.now.shared c.args.around.now) c.args.graph.now c.args.prepared.now _ _ _ c.loop-count.invariant.passed c.loop-time.invariant.passed;
  room = c.loop-time.invariant.room;
}
