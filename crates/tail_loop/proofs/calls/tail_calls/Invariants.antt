use Rattle.flow_graph.specs.MemberLaws.{AreFoundBelow}
use Rattle.tail_loop.specs.Tails.{HasTailCall}
use Rattle.tail_loop.proofs.calls.tail_calls.Given as goal

abbrev pub invariant-loop-n : goal.invariant-loop-n
invariant-loop-n l = AreFoundBelow (HasTailCall l.shared l.nodes l.unit) l.n l.calls.items
