use Rattle.std.proofs.Common.{ℕ, ◌≤◌, ◌∷◌, ◌⊎◌, drop}
use Rattle.jump_clean.proofs.chains.least.Given as goal
use Rattle.flow_graph.specs.Numbering.{IsIn}

abbrev pub invariant-loop-n : goal.invariant-loop-n
invariant-loop-n l = record {
  is_one : IsIn l.least (l.first ∷ l.others);
  least : (n : ℕ) → IsIn n (l.first ∷ l.others) → (l.least ≤ n) ⊎ IsIn n (drop l.n-index l.others);
}
