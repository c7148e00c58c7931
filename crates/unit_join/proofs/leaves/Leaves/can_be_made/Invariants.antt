use Rattle.std.proofs.Common.{◌≡◌, ◌<◌, ℕ, Some}
use Rattle.flow_graph.specs.Graphs.{GraphShape}
use Rattle.unit_join.specs.Joins.{leaf_at}
use Rattle.unit_join.proofs.MadeOfLeaves.{CanBe}
use Rattle.unit_join.proofs.leaves.Leaves.can_be_made.Given as goal

abbrev pub invariant-loop-entry : goal.invariant-loop-entry
invariant-loop-entry l = (u : ℕ) (leaf : GraphShape) → u < l.entry-index → leaf_at l.self.units u ≡ Some leaf → CanBe leaf
