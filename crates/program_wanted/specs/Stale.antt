-- Units that may not be served, and are marked as stale. Cited by contracts of private functions.
use Rattle.std.specs.Prelude.{◌≡◌, ℕ, Bool, false, List, length, slice_get, Some}
use Rattle.node_list.specs.Lists.{list_at}
use Rattle.flow_graph.specs.Graphs.{GraphShape}
use Rattle.unit_callers.specs.Stale.{is_stale}
use Rattle.program_wanted.specs.Demands.{Demands, IsServed}

-- there is a mark for each unit, and those that are not stale are served
pub record FreshAreServed (graphs : List GraphShape) (demands : Demands) (stale : List Bool)
    : Type 0 where
  pub long : length stale ≡ length graphs
  pub served : (u : ℕ) (graph : GraphShape) → slice_get graphs u ≡ Some graph
      → is_stale stale u ≡ false → IsServed demands graph u

-- the units of which a row has changed are marked, and no mark is taken away
pub record RaisedMarked (rows more : List (List ℕ)) (old new : List Bool) : Type 0 where
  pub long : length new ≡ length old
  pub keeps : (w : ℕ) → is_stale new w ≡ false
      → (is_stale old w ≡ false) × (list_at more w ≡ list_at rows w)
