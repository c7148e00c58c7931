use Rattle.std.proofs.Common.{arith, length-drop}
use Rattle.mir_outside.proofs.Counts.{falls_never_on}
use Rattle.mir_outside.specs.SinkLaws.{appends_on}
use Rattle.mir_outside.proofs.Pieces.{take_seam}
use Rattle.mir_outside.proofs.transfer.write_all.Goals as goal

pub loop-done-preserved : goal.loop-done-preserved
loop-done-preserved g c = record {
  within = omega (arith, c.in_ok-done.ensures.bound, length-drop c.loop-done.done c.args.piece.now);
  front = appends_on _ _ _ _ _ _ c.loop-done.invariant.front c.in_ok-done.ensures.bytes (take_seam c.args.piece.now c.loop-done.done c.in_ok-done.field-0);
  count = falls_never_on _ _ _ c.loop-done.invariant.count c.in_ok-done.ensures.cause.count;
}
