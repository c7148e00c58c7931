use Rattle.std.proofs.Common.{◌≡◌, ◌++◌, [], None}
use Rattle.std.specs.Option.{option_to_list}
use Rattle.std.specs.Prelude.{IfNone}
use Rattle.flow_graph.specs.ReachWalks.{Walking, walk_weight}
use Rattle.flow_graph.proofs.reach.reach.Given as goal

abbrev pub invariant-loop-next : goal.invariant-loop-next
invariant-loop-next l = record {
  walking : Walking l.nodes l.marks.items (l.stack.items ++ option_to_list l.next) None;
  empty : IfNone l.next (l.stack.items ≡ []);
}

abbrev pub decreases-loop-next : goal.decreases-loop-next
decreases-loop-next l = walk_weight l.marks.items (l.stack.items ++ option_to_list l.next)
