use Rattle.std.proofs.Common.{◌≡◌, length}
use Rattle.mir_base.specs.Frames.{shared_vars}
use Rattle.bit_rows.specs.Bits.{row_of}
use Rattle.sink_code.specs.PatternRows.{joined_at}
use Rattle.sink_code.proofs.pattern_rows.join_globals.Given as goal

abbrev pub invariant-loop-x : goal.invariant-loop-x
invariant-loop-x l = record {
  joined : l.rows ≡ joined_at l.from (shared_vars l.x) l.last l.initial.rows;
  len : length l.rows ≡ length l.initial.rows;
  long : length (row_of l.rows l.last) ≡ length (row_of l.initial.rows l.last);
}
