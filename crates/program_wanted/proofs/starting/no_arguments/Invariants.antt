use Rattle.std.proofs.Common.{◌≡◌, ◌<◌, ℕ, length, replicate, slice_get, Some}
use Rattle.node_list.specs.Lists.{list_at}
use Rattle.flow_graph.specs.Graphs.{GraphShape}
use Rattle.program_wanted.proofs.starting.no_arguments.Given as goal

abbrev pub invariant-loop-unit : goal.invariant-loop-unit
invariant-loop-unit l = record {
  long : length l.rows.items ≡ l.unit;
  each : (u : ℕ) (graph : GraphShape) → u < l.unit → slice_get l.graphs.items u ≡ Some graph → list_at l.rows.items u ≡ replicate (length graph.received) 0;
}
