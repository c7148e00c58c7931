use Rattle.flow_graph.specs.MemberLaws.{AreFoundBelow}
use Rattle.unit_join.specs.Joins.{IsLeafCall}
use Rattle.unit_join.proofs.calls.leaf_calls.Given as goal

abbrev pub invariant-loop-n : goal.invariant-loop-n
invariant-loop-n l = AreFoundBelow (IsLeafCall l.leaves.units l.nodes) l.n l.calls.items
