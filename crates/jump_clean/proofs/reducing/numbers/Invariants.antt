use Rattle.std.proofs.Common.{ℕ, ◌<◌}
use Rattle.mir_base.specs.Shapes.{AllBelow}
use Rattle.jump_clean.proofs.reducing.numbers.Given as goal
use Rattle.flow_graph.specs.Numbering.{IsIn}

abbrev pub invariant-loop-n : goal.invariant-loop-n
invariant-loop-n l = record {
  all : (k : ℕ) → k < l.n → IsIn k l.numbers.items;
  below : AllBelow l.count l.numbers.items;
}
