-- The graph with loops can be made, and what is made keeps it.
use Rattle.std.proofs.Common.{◌≡◌, ℕ, ◌≤◌, List, ◌∷◌, ◌++◌, length, slice_get, Some, refl, sym, ap, ◌∙◌, subst, arith, le_refl}
use Rattle.mir_base.specs.BelowLaws.{all_below_more}
use Rattle.mir_base.specs.Shapes.{AllDiffer, BodyFits, UnitShape, body_or_empty, receives_in}
use Rattle.mir_base.specs.UnitRuns.{UnitCheaper, UnitSame}
use Rattle.flow_graph.specs.declared.nodes.Node.{Node}
use Rattle.flow_graph.specs.Calls.{CallsAmong, NodesCall}
use Rattle.flow_graph.specs.Graphs.{CanMake, GraphShape, node_vars}
use Rattle.flow_graph.specs.Retained.{IsMade}
use Rattle.flow_graph.specs.Machines.{graph_machine, machine_of}
use Rattle.fresh_names.specs.FreshNames.{AreTemporaryNames}
use Rattle.tail_loop.specs.LoopedLaws.{looped_calls, looped_can}
use Rattle.program_pass.specs.PassPrograms.{PassKeeps, LoweredClean}
use Rattle.tail_loop.specs.Tails.{AreLooped, AreTailCalls, IsTailed, Looped, SelfCallsFit, temporaries}
use Rattle.tail_loop.specs.Widened.{HasTemporaries, TailMade}
use Rattle.program_pass.specs.RefitLaws.{called_fits}
use Rattle.program_pass.specs.StoodLaws.{globals_stay, wide_can}

-- where there is a self tail call there is a temporary for each received variable
enough : (graph : GraphShape) (calls : List ℕ) (names : List (List ℕ)) → AreTemporaryNames graph.vars (temporaries graph calls) names → (n : ℕ) (more : List ℕ) → calls ≡ n ∷ more → length names ≡ length graph.received
enough graph calls names are n more is = are.long ∙ ap (temporaries graph) is

module _ (graph : GraphShape) (unit : ℕ) (calls : List ℕ) (wide : GraphShape) (nodes : List Node) (can : CanMake graph.vars graph.received graph.nodes) (fit : SelfCallsFit graph.nodes unit (length graph.received)) (least : graph.shared ≤ length graph.vars) (w : HasTemporaries graph calls wide) (looped : AreLooped graph unit calls graph.nodes nodes) where
  -- the nodes make a graph
  pub loops_can : CanMake wide.vars wide.received nodes
  loops_can = subst (λ (g : GraphShape). CanMake g.vars g.received nodes) (sym w.is)
      (looped_can graph unit w.names can fit w.differ least calls graph.nodes nodes (enough graph calls w.names w.are_names) (le_refl (length graph.nodes)) (wide_can graph.vars w.names graph.received graph.nodes can w.differ) looped)

  -- and this graph does the same as they
  pub tail_made : (tailed : GraphShape) → IsMade wide.name wide.shared wide.vars wide.received nodes tailed → UnitSame (graph_machine wide.shared wide.received nodes) (machine_of tailed) → UnitCheaper (graph_machine wide.shared wide.received nodes) (machine_of tailed) → CallsAmong (NodesCall tailed.nodes) (NodesCall nodes) → TailMade graph unit calls tailed
  tail_made tailed made same cheaper among = record {
    names = w.names;
    are_names = w.are_names;
    nodes = nodes;
    are_looped = looped;
    made = subst (λ (g : GraphShape). IsMade g.name g.shared g.vars g.received nodes tailed) w.is made;
    same = subst (λ (g : GraphShape). UnitSame (graph_machine g.shared g.received nodes) (machine_of tailed)) w.is same;
    cheaper = subst (λ (g : GraphShape). UnitCheaper (graph_machine g.shared g.received nodes) (machine_of tailed)) w.is cheaper;
    looped_calls = looped_calls graph unit w.names can fit w.differ least calls graph.nodes nodes (enough graph calls w.names w.are_names) (le_refl (length graph.nodes)) looped;
    tailed_calls = among;
  }

-- the exact graph
pub is_tailed : (graph : GraphShape) (unit : ℕ) (calls : List ℕ) (tailed : GraphShape) → AreTailCalls graph.shared graph.nodes unit calls → TailMade graph unit calls tailed → IsTailed graph unit tailed
is_tailed graph unit calls tailed are m = record { calls = calls; are_calls = are; names = m.names; are_names = m.are_names; nodes = m.nodes; are_looped = m.are_looped; made = m.made }

-- and what it keeps
pub keeps_loops : (graph : GraphShape) (unit : ℕ) (calls : List ℕ) (tailed : GraphShape) → graph.shared ≤ length graph.vars → AreTailCalls graph.shared graph.nodes unit calls → TailMade graph unit calls tailed → PassKeeps (Looped unit) graph tailed
keeps_loops graph unit calls tailed least are m = record {
  name = m.made.name_is;
  globals = globals_stay graph.shared graph.vars m.names tailed least m.made.shared_is m.made.vars_are;
  middle = record { name = graph.name; shared = graph.shared; vars = graph.vars ++ m.names; received = graph.received; nodes = m.nodes };
  between = record { calls = calls; are_calls = are; are_looped = m.are_looped; shared = refl; received = refl };
  shared = refl;
  received = refl;
  same = m.same;
  cheaper = m.cheaper;
  middle_calls = m.looped_calls;
  calls = m.tailed_calls;
}

-- the calls of the unit itself hand over what its graph receives
pub self_calls_fit : (units : List UnitShape) (number : ℕ) (unit : UnitShape) (lowered cleaned : GraphShape) → slice_get units number ≡ Some unit → BodyFits units unit.body → LoweredClean unit lowered cleaned → (count : ℕ) → NodesCall cleaned.nodes number count → count ≡ length cleaned.received
self_calls_fit units number unit lowered cleaned at fits front count c =
    let fit = called_fits units unit.body number count fits (front.keeps.calls number count c) in
    fit.1 ∙ ap (λ o. receives_in (body_or_empty o)) at ∙ front.keeps.same.receives
