use Rattle.std.proofs.Common.{sym, subst, length}
use Rattle.flow_graph.specs.Graphs.{IsGraph}
use Rattle.flow_graph.specs.KeepsLaws.{made_keeps, same_globals}
use Rattle.value_number.specs.Numbered.{AreNumbered, BecomeNumbered, IsNumbered}
use Rattle.value_number.specs.NumberedLaws.{numbered_edges, numbered_is_one, numbered_unchanged}
use Rattle.value_number.proofs.Lockstep.{numbered_same, numbered_cheaper}
use Rattle.value_number.proofs.Pushes.{become_numbered}
use Rattle.value_number.proofs.Whole.{numbered_calls, numbered_can_make, numbered_reached}
use Rattle.value_number.proofs.numbering.number.Goals as goal
use Rattle.value_number.proofs.numbering.number.Goals.{In_ok-nodes, In_ok-numbered}

-- what holds of every graph
is_graph : (c : In_ok-nodes) → IsGraph c.args.graph.now.vars c.args.graph.now.received c.args.graph.now.nodes
is_graph c = rw (← c.nodes.ensures.value) c.nodes.ensures.graph

-- the nodes are what those of the graph become
are : (c : In_ok-nodes) → AreNumbered c.args.graph.now.shared (length c.args.graph.now.vars) c.args.graph.now.nodes c.in_ok-nodes.nodes.items
are c =
    let holders = c.in_ok-holders.holders.items in
    let nodes = c.in_ok-nodes.nodes.items in
    become_numbered c.args.graph.now holders nodes c.in_ok-holders.ensures
    (subst (λ l. BecomeNumbered l holders nodes) c.nodes.ensures.value (subst (λ l. BecomeNumbered c.nodes.result.now l nodes) c.as_slice.ensures.value c.in_ok-nodes.ensures))

pub with_nodes-requires : goal.with_nodes-requires
with_nodes-requires c =
    let graph = c.args.graph.now in
    let known = (goal.at.with_nodes-requires c).In_ok-nodes in
    numbered_can_make graph.shared graph.vars graph.received graph.nodes c.in_ok-nodes.nodes.items (is_graph known).can (are known)

-- the answer is the exact graph
exact : (c : In_ok-numbered) → IsNumbered c.args.graph.now c.in_ok-numbered.numbered
exact c =
    let graph = c.args.graph.now in
    let made = c.in_ok-numbered.ensures.made in
    let known = (goal.at.In_ok-numbered c).In_ok-nodes in
    let whole = c.in_ok-numbered.ensures.whole (numbered_reached graph.shared (length graph.vars) graph.nodes c.in_ok-nodes.nodes.items (are known) (is_graph known).reached) in
    record {
      name_is = made.name_is;
      shared_is = made.shared_is;
      vars_are = made.vars_are;
      received_are = made.received_are;
      nodes_are = subst (AreNumbered graph.shared (length graph.vars) graph.nodes) (sym whole) (are known);
    }

pub returns-clause-keeps : goal.returns-clause-keeps
returns-clause-keeps c =
    let graph = c.args.graph.now in
    let vars = length graph.vars in
    let nodes = c.in_ok-nodes.nodes.items in
    let numbered = are (goal.at.returns-clause-keeps c).In_ok-nodes in
    made_keeps graph c.in_ok-numbered.numbered nodes c.in_ok-numbered.ensures.made.name_is (same_globals graph c.in_ok-numbered.numbered c.in_ok-numbered.ensures.made.shared_is c.in_ok-numbered.ensures.made.vars_are)
    (numbered_same graph.shared graph.received graph.nodes vars nodes numbered) (numbered_cheaper graph.shared graph.received graph.nodes vars nodes numbered) (numbered_calls graph.shared vars graph.nodes nodes numbered)
    c.in_ok-numbered.ensures.same c.in_ok-numbered.ensures.cheaper c.in_ok-numbered.ensures.calls

pub returns-clause-numbered : goal.returns-clause-numbered
returns-clause-numbered c = exact (goal.at.returns-clause-numbered c).In_ok-numbered

pub returns-clause-divides : goal.returns-clause-divides
returns-clause-divides c =
    let e = exact (goal.at.returns-clause-divides c).In_ok-numbered in
    numbered_unchanged c.args.graph.now.shared (length c.args.graph.now.vars) c.args.graph.now.nodes c.in_ok-numbered.numbered.nodes e.nodes_are

pub returns-clause-only : goal.returns-clause-only
returns-clause-only c = λ other is. numbered_is_one c.args.graph.now other c.in_ok-numbered.numbered is (exact (goal.at.returns-clause-only c).In_ok-numbered)

pub returns-clause-edges : goal.returns-clause-edges
returns-clause-edges c = numbered_edges c.args.graph.now c.in_ok-numbered.numbered (exact (goal.at.returns-clause-edges c).In_ok-numbered)
