use Rattle.std.proofs.Common.{◌-◌, ◌≤◌, length, take}
use Rattle.std.specs.Io.KnownBytes.{Appends}
use Rattle.mir_outside.specs.Causes.{NeverFalls}
use Rattle.mir_outside.proofs.transfer.write_all.Given as goal

abbrev pub invariant-loop-done : goal.invariant-loop-done
invariant-loop-done g l = record {
  within : l.done ≤ length l.piece;
  front : Appends (g.K.Sink.written l.fn.sink) (g.K.Sink.written l.sink) (take l.done l.piece);
  count : NeverFalls (g.K.Sink.faults l.fn.sink) (g.K.Sink.faults l.sink);
}

abbrev pub decreases-loop-done : goal.decreases-loop-done
decreases-loop-done g l = length l.piece - l.done
