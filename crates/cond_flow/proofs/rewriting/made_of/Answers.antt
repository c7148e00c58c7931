use Rattle.std.proofs.Common.{sym, subst}
use Rattle.flow_graph.specs.Graphs.{CanMake, IsGraph}
use Rattle.flow_graph.specs.Retained.{IsMade}
use Rattle.mir_base.specs.UnitRuns.{UnitCheaper, UnitSame}
use Rattle.flow_graph.specs.Calls.{CallsAmong, NodesCall}
use Rattle.flow_graph.specs.Machines.{graph_machine, machine_of}
use Rattle.cond_flow.specs.BecomingLaws.{rewritten_is_one}
use Rattle.cond_flow.specs.Outsides.{outside_of, rules_in}
use Rattle.cond_flow.specs.Rewritten.{IsRewritten}
use Rattle.cond_flow.specs.WithinLaws.{laws_within}
use Rattle.cond_flow.proofs.Shapes.{become_can_make, become_calls}
use Rattle.cond_flow.proofs.Whole.{exactly_kept}
use Rattle.cond_flow.proofs.rewriting.made_of.Goals as goal
use Rattle.cond_flow.proofs.rewriting.made_of.Goals.{After-nodes-nodes, In_ok-made}
use Rattle.cond_flow.proofs.rewriting.made_of.Given.{Over}

-- what holds of every graph
is_graph : (g : Over) (c : After-nodes-nodes g) → IsGraph c.args.graph.now.vars c.args.graph.now.received c.args.graph.now.nodes
is_graph g c = rw (← c.nodes-nodes.ensures.value) c.nodes-nodes.ensures.graph

pub with_nodes-requires : goal.with_nodes-requires
with_nodes-requires g c =
    let graph = c.args.graph.now in
    let are = c.requires in
    let laws = laws_within (outside_of c.args.outside.now) g.met.K.Knowledge.laws in
    subst (CanMake graph.vars graph.received) (sym are.are) (become_can_make laws.rewriting are.states graph.nodes graph.vars graph.received (is_graph g (goal.at.with_nodes-requires g c).After-nodes-nodes).can)

-- the answer is the exact graph
exact : (g : Over) (c : In_ok-made g) → IsRewritten g.K.Knowledge.below (rules_in c.args.outside.now g.K.Knowledge.rules) c.args.graph.now c.in_ok-made.made
exact g c =
    let graph = c.args.graph.now in
    let laws = laws_within (outside_of c.args.outside.now) g.met.K.Knowledge.laws in
    let are = c.requires in
    let can = (is_graph g (goal.at.In_ok-made g c).After-nodes-nodes).can in
    let made = subst (λ l. IsMade graph.name graph.shared graph.vars graph.received l c.in_ok-made.made) are.are c.in_ok-made.ensures.made in
    record {
      states = are.states;
      least = are.least;
      made = made;
      kept = exactly_kept laws.order graph c.in_ok-made.made are.states (λ m slot s edge. (can.succs m slot s edge).1) are.least made;
    }

pub returns-clause-made : goal.returns-clause-made
unfolding exact
returns-clause-made g c =
    let graph = c.args.graph.now in
    let laws = laws_within (outside_of c.args.outside.now) g.met.K.Knowledge.laws in
    let are = c.requires in
    record {
      rewritten = exact g (goal.at.returns-clause-made g c).In_ok-made;
      same = subst (λ l. UnitSame (graph_machine graph.shared graph.received l) (machine_of c.in_ok-made.made)) are.are c.in_ok-made.ensures.same;
      cheaper = subst (λ l. UnitCheaper (graph_machine graph.shared graph.received l) (machine_of c.in_ok-made.made)) are.are c.in_ok-made.ensures.cheaper;
      middle_calls = λ called count calls. become_calls laws.rewriting are.states graph.nodes called count calls;
      calls = subst (λ l. CallsAmong (NodesCall c.in_ok-made.made.nodes) (NodesCall l)) are.are c.in_ok-made.ensures.calls;
    }

pub returns-clause-only : goal.returns-clause-only
returns-clause-only g c =
    let laws = laws_within (outside_of c.args.outside.now) g.met.K.Knowledge.laws in
    λ other is. rewritten_is_one laws.order c.args.graph.now other c.in_ok-made.made is (exact g (goal.at.returns-clause-only g c).In_ok-made)

pub returns-clause-rewritten : goal.returns-clause-rewritten
returns-clause-rewritten g c = exact g (goal.at.returns-clause-rewritten g c).In_ok-made
