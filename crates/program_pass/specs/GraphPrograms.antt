-- Programs of graphs: one graph for each unit, by number. Cited by contracts.
use Rattle.std.specs.Prelude.{◌≡◌, ℕ, ◌<◌, List, [], ◌∷◌, length, slice_get, Option, Some, None}
use Rattle.flow_graph.specs.Calls.{NodesCall}
use Rattle.flow_graph.specs.Graphs.{CanMake, GraphShape, SharesVars}
use Rattle.flow_graph.specs.Machines.{machine_of}
use Rattle.mir_sim.specs.Machines.{Machines}

-- how many globals there are: those of the first graph
abbrev pub shared_in : List GraphShape → ℕ
shared_in [] = 0
shared_in (graph ∷ graphs) = graph.shared

-- the graph, or one with no nodes where there is none, which has so many globals
abbrev pub graph_or_empty : ℕ → Option GraphShape → GraphShape
graph_or_empty shared
    None = record { name = []; shared = shared; vars = []; received = []; nodes = [] }
graph_or_empty shared (Some graph) = graph

-- the graph of the unit of this number
abbrev pub graph_numbered : List GraphShape → ℕ → GraphShape
graph_numbered graphs u = graph_or_empty (shared_in graphs) (slice_get graphs u)

-- the machines of the graphs
abbrev pub graph_machines : List GraphShape → Machines
graph_machines graphs u = machine_of (graph_numbered graphs u)

-- the calls of the graph are of units that there are, with as many arguments as they receive
abbrev pub GraphCallsFit : List GraphShape → GraphShape → Type 0
GraphCallsFit graphs graph = (called count : ℕ) → NodesCall graph.nodes called count
    → (called < length graphs) × (count ≡ length (graph_numbered graphs called).received)

-- each graph has these globals
abbrev pub ShareGlobals : List GraphShape → Type 0
ShareGlobals graphs = (u : ℕ) → u < length graphs
    → (graph_numbered graphs u).shared ≡ shared_in graphs

-- there is a graph, each is one, they have equally many globals, and their calls fit
pub record IsGraphProgram (graphs : List GraphShape) : Type 0 where
  pub some : 0 < length graphs
  pub are : (u : ℕ) → u < length graphs
      → CanMake (graph_numbered graphs u).vars (graph_numbered graphs u).received
      (graph_numbered graphs u).nodes
  pub shares : (u : ℕ) → u < length graphs
      → SharesVars (graph_numbered graphs u).shared (graph_numbered graphs u).vars
      (graph_numbered graphs u).received
  pub globals : ShareGlobals graphs
  pub calls : (u : ℕ) → u < length graphs → GraphCallsFit graphs (graph_numbered graphs u)
