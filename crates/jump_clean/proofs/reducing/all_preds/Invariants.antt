use Rattle.std.proofs.Common.{ℕ, ◌⊎◌, drop}
use Rattle.mir_base.specs.Shapes.{AllBelow}
use Rattle.flow_graph.specs.Edges.{preds_among}
use Rattle.jump_clean.proofs.reducing.all_preds.Given as goal
use Rattle.flow_graph.specs.Numbering.{IsIn}

abbrev pub invariant-loop-n : goal.invariant-loop-n
invariant-loop-n l = record {
  all : (n m : ℕ) → IsIn n l.nodes → IsIn m (preds_among n l.edges.edges) → IsIn m l.preds.items ⊎ IsIn n (drop l.n-index l.nodes);
  only : (m : ℕ) → IsIn m l.preds.items → (n : ℕ) × IsIn n l.nodes × IsIn m (preds_among n l.edges.edges);
  below : AllBelow l.edges.nodes (drop l.n-index l.nodes);
}
