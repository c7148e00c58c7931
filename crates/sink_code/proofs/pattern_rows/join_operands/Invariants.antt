use Rattle.std.proofs.Common.{◌≡◌, drop, flat_map, length}
use Rattle.mir_base.specs.Shapes.{AllBelow, operand_vars}
use Rattle.bit_rows.specs.Bits.{row_of}
use Rattle.sink_code.specs.PatternRows.{joined_at}
use Rattle.sink_code.proofs.pattern_rows.join_operands.Given as goal

abbrev pub invariant-loop-operand : goal.invariant-loop-operand
invariant-loop-operand l = record {
  joined : joined_at l.from (flat_map operand_vars (drop l.operand-index l.operands)) l.last l.rows ≡ joined_at l.from (flat_map operand_vars l.operands) l.last l.initial.rows;
  len : length l.rows ≡ length l.initial.rows;
  long : length (row_of l.rows l.last) ≡ length (row_of l.initial.rows l.last);
  below : AllBelow (length l.from) (flat_map operand_vars (drop l.operand-index l.operands));
}
