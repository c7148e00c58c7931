use Rattle.std.proofs.Common.{reverse, length}
use Rattle.flow_graph.specs.Plans.{IsPlan}
use Rattle.flow_graph.specs.Placing.{AreClosed, ArePlaced, ItemsWithin, plan_weight}
use Rattle.flow_graph.proofs.plan.plan.Given as goal

abbrev pub invariant-loop-item : goal.invariant-loop-item
invariant-loop-item l = record {
  is_plan : IsPlan l.nodes l.first (reverse l.items.items);
  within : ItemsWithin (length l.nodes) l.items.items;
  placed : ArePlaced l.nodes l.placed.items (reverse l.items.items);
  closed : AreClosed l.nodes l.items.items l.closed;
}

abbrev pub decreases-loop-item : goal.decreases-loop-item
decreases-loop-item l = plan_weight l.placed.items (reverse l.items.items)
