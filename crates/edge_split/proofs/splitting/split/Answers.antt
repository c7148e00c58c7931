use Rattle.std.proofs.Common.{◌≡◌, ℕ, ◌<◌, ◌∙◌, ap, sym, subst, length}
use Rattle.flow_graph.specs.KeepsLaws.{same_globals}
use Rattle.flow_graph.specs.Graphs.{CanMake, IsGraph, Reached}
use Rattle.edge_split.specs.Split.{CountEntries, IsEdgeSplit, split_nodes}
use Rattle.edge_split.specs.SplitLaws.{split_unchanged}
use Rattle.edge_split.proofs.Splits.{split_can_make, split_reached, edge_split_splits, edge_split_same, edge_split_cheaper, edge_split_calls}
use Rattle.edge_split.proofs.splitting.split.Goals as goal
use Rattle.edge_split.proofs.splitting.split.Goals.{In_ok-nodes, In_ok-made}

pub all_nodes-requires-clause-within : goal.all_nodes-requires-clause-within
all_nodes-requires-clause-within c = λ m slot s edge. (c.nodes.ensures.graph.can.succs m slot s edge).1

pub all_nodes-requires-clause-long : goal.all_nodes-requires-clause-long
all_nodes-requires-clause-long c = c.in_ok-entries.ensures.len ∙ sym (ap length c.nodes.ensures.value)

pub all_nodes-requires-clause-counts : goal.all_nodes-requires-clause-counts
all_nodes-requires-clause-counts c = subst (λ l. CountEntries l c.in_ok-entries.entries.items) (sym c.nodes.ensures.value) c.in_ok-entries.ensures.are

-- what holds of every graph
is_graph : (c : In_ok-nodes) → IsGraph c.args.graph.now.vars c.args.graph.now.received c.args.graph.now.nodes
is_graph c = rw (← c.nodes.ensures.value) c.nodes.ensures.graph

-- the nodes are those of the split graph
are : (c : In_ok-nodes) → c.in_ok-nodes.nodes.items ≡ split_nodes c.args.graph.now.nodes
are c = c.in_ok-nodes.ensures ∙ ap split_nodes c.nodes.ensures.value

pub with_nodes-requires : goal.with_nodes-requires
with_nodes-requires c =
    let graph = c.args.graph.now in
    let known = (goal.at.with_nodes-requires c).In_ok-nodes in
    subst (CanMake graph.vars graph.received) (sym (are known)) (split_can_make graph (is_graph known))

exact : (c : In_ok-made) → IsEdgeSplit c.args.graph.now c.in_ok-made.made
exact c =
    let graph = c.args.graph.now in
    let known = (goal.at.In_ok-made c).In_ok-nodes in
    let made = c.in_ok-made.ensures.made in
    let reached = subst (λ ns. (n : ℕ) → n < length ns → Reached ns n) (sym (are known)) (split_reached graph (is_graph known)) in
    record {
      name_is = made.name_is;
      shared_is = made.shared_is;
      vars_are = made.vars_are;
      received_are = made.received_are;
      nodes_are = c.in_ok-made.ensures.whole reached ∙ are known;
    }

pub returns-clause-exact : goal.returns-clause-exact
returns-clause-exact c = exact c

pub returns-clause-split : goal.returns-clause-split
returns-clause-split c = edge_split_splits c.args.graph.now (is_graph (goal.at.returns-clause-split c).In_ok-nodes) c.in_ok-made.made (exact c)

pub returns-clause-keeps : goal.returns-clause-keeps
returns-clause-keeps c =
    let graph = c.args.graph.now in
    let is = is_graph (goal.at.returns-clause-keeps c).In_ok-nodes in
    let made = c.in_ok-made.made in
    record {
      name = c.in_ok-made.ensures.made.name_is;
      globals = same_globals graph made c.in_ok-made.ensures.made.shared_is c.in_ok-made.ensures.made.vars_are;
      same = edge_split_same graph is made (exact c);
      cheaper = edge_split_cheaper graph is made (exact c);
      calls = edge_split_calls graph is made (exact c);
    }

pub returns-clause-divides : goal.returns-clause-divides
returns-clause-divides c = split_unchanged c.args.graph.now c.in_ok-made.made (exact c)
