use Rattle.std.proofs.Common.{◌≡◌, drop, flat_map}
use Rattle.mir_base.specs.Shapes.{operand_vars}
use Rattle.flow_graph.specs.Numbering.{is_in}
use Rattle.sink_code.proofs.patterns.one_is.Given as goal

abbrev pub invariant-loop-operand : goal.invariant-loop-operand
invariant-loop-operand l = is_in l.x (flat_map operand_vars (drop l.operand-index l.operands)) ≡ is_in l.x (flat_map operand_vars l.operands)
