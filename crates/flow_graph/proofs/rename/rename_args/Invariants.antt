use Rattle.std.proofs.Common.{◌≡◌, take, map}
use Rattle.flow_graph.specs.Numbering.{first_index, renamed_operand}
use Rattle.flow_graph.proofs.rename.rename_args.Given as goal

abbrev pub invariant-loop-a : goal.invariant-loop-a
invariant-loop-a l = l.renamed.items ≡ map (renamed_operand (first_index l.seen.seen)) (take l.a-index l.operands)
