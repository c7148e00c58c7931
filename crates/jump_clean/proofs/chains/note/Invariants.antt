use Rattle.std.proofs.Common.{◌≡◌, ℕ, ◌⊎◌, drop, length, slice_get, Some}
use Rattle.mir_base.specs.Shapes.{AllBelow}
use Rattle.jump_clean.specs.declared.chains.ChainPlace.TheVariants.{End}
use Rattle.jump_clean.proofs.chains.note.Given as goal
use Rattle.flow_graph.specs.Numbering.{IsIn}

abbrev pub invariant-loop-n : goal.invariant-loop-n
invariant-loop-n l = record {
  long : length l.found.items ≡ length l.initial.found.items;
  below : AllBelow (length l.found.items) (drop l.n-index l.chain);
  noted : (n : ℕ) → IsIn n l.chain → (slice_get l.found.items n ≡ Some (End l.end)) ⊎ IsIn n (drop l.n-index l.chain);
  others : (n : ℕ) → (slice_get l.found.items n ≡ slice_get l.initial.found.items n) ⊎ ((slice_get l.found.items n ≡ Some (End l.end)) × IsIn n l.chain);
}
