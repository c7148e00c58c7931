-- What the steps of `tail` make, as the crate's own functions say it. Cited by contracts of private functions.
use Rattle.std.specs.Prelude.{◌≡◌, ℕ, List, ◌++◌}
use Rattle.mir_base.specs.Shapes.{AllDiffer}
use Rattle.mir_base.specs.UnitRuns.{UnitCheaper, UnitSame}
use Rattle.flow_graph.specs.declared.nodes.Node.{Node}
use Rattle.flow_graph.specs.Calls.{CallsAmong, NodesCall}
use Rattle.flow_graph.specs.Graphs.{GraphShape}
use Rattle.flow_graph.specs.Retained.{IsMade}
use Rattle.flow_graph.specs.Machines.{graph_machine, machine_of}
use Rattle.fresh_names.specs.FreshNames.{AreTemporaryNames}
use Rattle.tail_loop.specs.Tails.{AreLooped, temporaries}

-- the graph with the temporaries for these self tail calls after its own variables
pub record HasTemporaries (graph : GraphShape) (calls : List ℕ) (wide : GraphShape) : Type 0 where
  pub names : List (List ℕ)
  pub are_names : AreTemporaryNames graph.vars (temporaries graph calls) names
  pub differ : AllDiffer (graph.vars ++ names)
  pub is : wide ≡ record graph { vars = graph.vars ++ names }

-- the graph with these self tail calls as loops: what is made of the nodes with loops, of which the reached ones are
-- kept
pub record TailMade (graph : GraphShape) (unit : ℕ) (calls : List ℕ)
    (tailed : GraphShape) : Type 0 where
  pub names : List (List ℕ)
  pub are_names : AreTemporaryNames graph.vars (temporaries graph calls) names
  pub nodes : List Node
  pub are_looped : AreLooped graph unit calls graph.nodes nodes
  pub made : IsMade graph.name graph.shared (graph.vars ++ names) graph.received nodes tailed
  pub same : UnitSame (graph_machine graph.shared graph.received nodes) (machine_of tailed)
  pub cheaper : UnitCheaper (graph_machine graph.shared graph.received nodes) (machine_of tailed)
  pub looped_calls : CallsAmong (NodesCall nodes) (NodesCall graph.nodes)
  pub tailed_calls : CallsAmong (NodesCall tailed.nodes) (NodesCall nodes)
