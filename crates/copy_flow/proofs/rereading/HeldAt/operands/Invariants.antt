use Rattle.std.proofs.Common.{◌≡◌, map, take}
use Rattle.flow_graph.specs.Numbering.{renamed_operand}
use Rattle.copy_flow.specs.ByRows.{read_at}
use Rattle.copy_flow.proofs.rereading.HeldAt.operands.Given as goal

abbrev pub invariant-loop-a : goal.invariant-loop-a
invariant-loop-a l = l.all.items ≡ map (renamed_operand (read_at l.self)) (take l.a-index l.operands)
