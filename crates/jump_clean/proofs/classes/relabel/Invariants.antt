use Rattle.std.proofs.Common.{◌≡◌, ℕ, ◌⊎◌, drop, length}
use Rattle.mir_base.specs.Shapes.{AllBelow}
use Rattle.jump_clean.specs.Classes.{class}
use Rattle.jump_clean.proofs.classes.relabel.Given as goal
use Rattle.flow_graph.specs.Numbering.{IsIn}

abbrev pub invariant-loop-n : goal.invariant-loop-n
invariant-loop-n l = record {
  long : length l.of.items ≡ length l.initial.of.items;
  below : AllBelow (length l.of.items) (drop l.n-index l.nodes);
  gone : (n : ℕ) → IsIn n l.nodes → (class l.of.items n ≡ l.into) ⊎ IsIn n (drop l.n-index l.nodes);
  others : (n : ℕ) → (class l.of.items n ≡ class l.initial.of.items n) ⊎ IsIn n l.nodes;
}
