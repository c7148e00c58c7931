use Rattle.std.proofs.Common.{◌≡◌, ◌∙◌, ap, sym, subst}
use Rattle.flow_graph.specs.Edges.{IsSplit}
use Rattle.flow_graph.specs.Graphs.{IsGraph, succs_at}
use Rattle.flow_graph.specs.KeepsLaws.{made_keeps, same_globals}
use Rattle.flow_graph.specs.NodeByNode.{kept_calls, kept_reached, kept_split, kept_succs}
use Rattle.held_assign.specs.CheapRuns.{cheaper_by_code, same_by_code}
use Rattle.held_assign.proofs.in_place.made_in_place.Goals as goal
use Rattle.held_assign.proofs.in_place.made_in_place.Goals.{After-nodes-nodes, In_ok-made}

-- what holds of every graph
is_graph : (c : After-nodes-nodes) → IsGraph c.args.graph.now.vars c.args.graph.now.received c.args.graph.now.nodes
is_graph c = rw (← c.nodes-nodes.ensures.value) c.nodes-nodes.ensures.graph

pub with_nodes-requires : goal.with_nodes-requires
with_nodes-requires c = c.requires.can (is_graph (goal.at.with_nodes-requires c).After-nodes-nodes).can

-- the nodes of the answer are these
whole : (c : In_ok-made) → c.in_ok-made.made.nodes ≡ c.args.nodes.items
whole c = c.in_ok-made.ensures.whole (kept_reached c.args.graph.now.nodes c.args.nodes.items c.requires.by (is_graph (goal.at.In_ok-made c).After-nodes-nodes).reached)

pub returns-clause-made : goal.returns-clause-made
returns-clause-made c =
    let made = c.in_ok-made.ensures.made in
    record {
      name_is = made.name_is;
      shared_is = made.shared_is;
      vars_are = made.vars_are;
      received_are = made.received_are;
      nodes_are = whole (goal.at.returns-clause-made c).In_ok-made;
    }

pub returns-clause-keeps : goal.returns-clause-keeps
returns-clause-keeps c =
    let graph = c.args.graph.now in
    let nodes = c.args.nodes.items in
    let is = c.in_ok-made.ensures in
    made_keeps graph c.in_ok-made.made nodes is.made.name_is (same_globals graph c.in_ok-made.made is.made.shared_is is.made.vars_are) (same_by_code graph nodes c.requires.cheap) (cheaper_by_code graph nodes c.requires.cheap) (kept_calls graph.nodes nodes c.requires.by)
    is.same is.cheaper is.calls

pub returns-clause-succs : goal.returns-clause-succs
returns-clause-succs c = λ n.
    ap (λ l. succs_at l n) (whole (goal.at.returns-clause-succs c).In_ok-made) ∙ kept_succs c.args.graph.now.nodes c.args.nodes.items c.requires.by n

pub returns-clause-split : goal.returns-clause-split
returns-clause-split c = λ split.
    subst IsSplit (sym (whole (goal.at.returns-clause-split c).In_ok-made)) (kept_split c.args.graph.now.nodes c.args.nodes.items c.requires.by split)
