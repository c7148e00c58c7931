use Rattle.std.proofs.Common.{◌≡◌, take}
use Rattle.bit_rows.specs.Bits.{AreEquallyLong}
use Rattle.live_range.specs.Wanted.{rows_by_target}
use Rattle.live_range.proofs.holding.by_target.Given as goal

abbrev pub invariant-loop-number : goal.invariant-loop-number
invariant-loop-number l = record {
  are : l.made ≡ rows_by_target (take l.number l.edges.edges) l.rows;
  long : AreEquallyLong l.bits l.made;
}
