use Rattle.std.proofs.Common.{sym, subst}
use Rattle.mir_base.specs.UnitRuns.{UnitCheaper, UnitSame}
use Rattle.flow_graph.specs.Calls.{NodesCall}
use Rattle.flow_graph.specs.Graphs.{CanMake, IsGraph}
use Rattle.flow_graph.specs.KeepsLaws.{made_keeps, same_globals}
use Rattle.flow_graph.specs.Machines.{graph_machine, machine_of}
use Rattle.flow_graph.specs.Retained.{IsMade}
use Rattle.cond_flow.specs.BecomingLaws.{rewritten_is_one}
use Rattle.cond_flow.specs.Rewritten.{IsRewritten}
use Rattle.cond_flow.specs.StepLaws.{rewritten_same, rewritten_cheaper}
use Rattle.cond_flow.proofs.Shapes.{become_can_make, become_calls}
use Rattle.cond_flow.proofs.Whole.{exactly_kept, keeps_divisions}
use Rattle.cond_flow.proofs.rewriting.rewritten.Goals as goal
use Rattle.cond_flow.proofs.rewriting.rewritten.Goals.{In_ok-nodes, In_ok-made}
use Rattle.cond_flow.proofs.rewriting.rewritten.Given.{Over}

-- what holds of every graph
is_graph : (g : Over) (c : In_ok-nodes g) → IsGraph c.args.graph.now.vars c.args.graph.now.received c.args.graph.now.nodes
is_graph g c = rw (← c.nodes-nodes.ensures.value) c.nodes-nodes.ensures.graph

pub with_nodes-requires : goal.with_nodes-requires
with_nodes-requires g c =
    let graph = c.args.graph.now in
    let are = c.in_ok-nodes.ensures in
    subst (CanMake graph.vars graph.received) (sym are.are) (become_can_make g.met.K.Knowledge.laws.rewriting are.states graph.nodes graph.vars graph.received (is_graph g (goal.at.with_nodes-requires g c).In_ok-nodes).can)

-- the answer is the exact graph
exact : (g : Over) (c : In_ok-made g) → IsRewritten g.K.Knowledge.below g.K.Knowledge.rules c.args.graph.now c.in_ok-made.made
exact g c =
    let graph = c.args.graph.now in
    let are = c.in_ok-nodes.ensures in
    let can = (is_graph g (goal.at.In_ok-made g c).In_ok-nodes).can in
    let made = subst (λ l. IsMade graph.name graph.shared graph.vars graph.received l c.in_ok-made.made) are.are c.in_ok-made.ensures.made in
    record {
      states = are.states;
      least = are.least;
      made = made;
      kept = exactly_kept g.met.K.Knowledge.laws.order graph c.in_ok-made.made are.states (λ m slot s edge. (can.succs m slot s edge).1) are.least made;
    }

pub returns-clause-keeps : goal.returns-clause-keeps
returns-clause-keeps g c =
    let laws = g.met.K.Knowledge.laws in
    let graph = c.args.graph.now in
    let are = c.in_ok-nodes.ensures in
    let same = subst (λ l. UnitSame (machine_of graph) (graph_machine graph.shared graph.received l)) (sym are.are) (rewritten_same laws graph.shared graph.received graph.nodes _ are.states are.least.are g.met.K.Knowledge.is_open) in
    let cheaper = subst (λ l. UnitCheaper (machine_of graph) (graph_machine graph.shared graph.received l)) (sym are.are) (rewritten_cheaper laws graph.shared graph.received graph.nodes _ are.states are.least.are g.met.K.Knowledge.is_open) in
    made_keeps graph c.in_ok-made.made c.in_ok-nodes.nodes.items c.in_ok-made.ensures.made.name_is (same_globals graph c.in_ok-made.made c.in_ok-made.ensures.made.shared_is c.in_ok-made.ensures.made.vars_are) same cheaper
    (λ called count calls. become_calls laws.rewriting are.states graph.nodes called count (subst (λ l. NodesCall l called count) are.are calls))
    c.in_ok-made.ensures.same c.in_ok-made.ensures.cheaper c.in_ok-made.ensures.calls

pub returns-clause-only : goal.returns-clause-only
returns-clause-only g c = λ other is. rewritten_is_one g.met.K.Knowledge.laws.order c.args.graph.now other c.in_ok-made.made is (exact g (goal.at.returns-clause-only g c).In_ok-made)

pub returns-clause-rewritten : goal.returns-clause-rewritten
returns-clause-rewritten g c = exact g (goal.at.returns-clause-rewritten g c).In_ok-made

pub returns-clause-divides : goal.returns-clause-divides
returns-clause-divides g c = keeps_divisions g.met.K.Knowledge.laws.rewriting c.args.graph.now c.in_ok-made.made (exact g (goal.at.returns-clause-divides g c).In_ok-made)
