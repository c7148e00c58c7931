use Rattle.std.proofs.Common.{◌≡◌, ℕ, ◌<◌, length, slice_get, Some}
use Rattle.mir_base.specs.Shapes.{AllBelow}
use Rattle.flow_graph.specs.declared.nodes.Node.TheVariants.{Skip}
use Rattle.jump_clean.proofs.reducing.skips.Given as goal
use Rattle.flow_graph.specs.Numbering.{IsIn}

abbrev pub invariant-loop-n : goal.invariant-loop-n
invariant-loop-n l = record {
  all : (k next : ℕ) → k < l.n → slice_get l.nodes k ≡ Some (Skip next) → IsIn k l.skips.items;
  below : AllBelow (length l.nodes) l.skips.items;
}
