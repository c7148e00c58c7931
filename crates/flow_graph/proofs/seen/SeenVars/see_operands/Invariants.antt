use Rattle.std.proofs.Common.{◌≡◌, take, flat_map}
use Rattle.mir_base.specs.Shapes.{operand_vars}
use Rattle.flow_graph.specs.Numbering.{seen_after}
use Rattle.flow_graph.proofs.seen.SeenVars.see_operands.Given as goal

abbrev pub invariant-loop-a : goal.invariant-loop-a
invariant-loop-a l = record {
  vars : l.self.vars ≡ l.fn.self.vars;
  seen : l.self.seen ≡ seen_after l.fn.self.seen (flat_map operand_vars (take l.a-index l.operands));
}
