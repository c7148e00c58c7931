use Rattle.value_number.specs.Roots.{is_root}
use Rattle.value_number.proofs.Pushes.{IsListOf}
use Rattle.value_number.proofs.walk.roots.Given as goal

abbrev pub invariant-loop-n : goal.invariant-loop-n
invariant-loop-n l = IsListOf (is_root l.graph.nodes) l.n l.roots.items
