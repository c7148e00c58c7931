use Rattle.wanted_bits.specs.Asking.{asked_by}
use Rattle.wanted_bits.proofs.KeptBelow.{passed_same, passed_then}
use Rattle.wanted_bits.proofs.kept.pass_all.Goals as goal

pub loop-round-init : goal.loop-round-init
loop-round-init c = record { passed = passed_same (asked_by c.args.graph.now.shared c.args.around.now) c.args.graph.now c.args.prepared.now c.args.rows.now.items c.requires.rows; room = c.requires.room }

pub loop-round-preserved : goal.loop-round-preserved
loop-round-preserved c = record {
  passed = passed_then (asked_by c.args.graph.now.shared c.args.around.now) c.args.graph.now c.args.prepared.now _ _ _ c.loop-round.invariant.passed c.pass_risen.ensures.passed;
  room = c.pass_risen.ensures.room;
}
