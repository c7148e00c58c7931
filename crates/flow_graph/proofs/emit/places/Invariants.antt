use Rattle.std.proofs.Common.{◌≡◌, ◌≤◌, ◌+◌, take, reverse}
use Rattle.flow_graph.specs.Layouts.{size}
use Rattle.flow_graph.specs.Placing.{ArePlaces}
use Rattle.flow_graph.proofs.emit.places.Given as goal

abbrev pub invariant-loop-item : goal.invariant-loop-item
invariant-loop-item l = record {
  few : l.place ≤ l.receives + l.item-index;
  place : l.place ≡ size l.nodes l.receives (reverse (take l.item-index l.items));
  are : ArePlaces l.nodes l.receives (reverse (take l.item-index l.items)) l.places.items;
}
