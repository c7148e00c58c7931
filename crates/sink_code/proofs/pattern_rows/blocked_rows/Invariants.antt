use Rattle.std.proofs.Common.{◌≡◌, take}
use Rattle.bit_rows.specs.Bits.{AreEquallyLong}
use Rattle.sink_code.proofs.PatternBits.{blocked_rows_of}
use Rattle.sink_code.proofs.pattern_rows.blocked_rows.Given as goal

abbrev pub invariant-loop-node : goal.invariant-loop-node
invariant-loop-node l = record {
  are : l.rows ≡ blocked_rows_of l.by_variable.assigning l.by_variable.naming l.bits l.shared (take l.node-index l.nodes);
  long : AreEquallyLong l.bits l.rows;
}
