use Rattle.std.proofs.Common.{◌≡◌, ◌++◌, ℕ, List, ap, sym, ◌∙◌, subst, rules}
use Rattle.std.proofs.lemmas.List.{append-nil}
use Rattle.flow_graph.specs.declared.nodes.Node.{Node}
use Rattle.flow_graph.specs.Graphs.{IsGraph}
use Rattle.flow_graph.specs.OneLaws.{same_graphs}
use Rattle.jump_clean.proofs.cleaning.copied.Goals as goal
use Rattle.jump_clean.proofs.cleaning.copied.Goals.{In_ok-nodes, In_ok-received}

-- the nodes are those of the graph
nodes_are : (c : In_ok-nodes) → c.in_ok-nodes.nodes.items ≡ c.args.graph.now.nodes
nodes_are c = c.in_ok-nodes.ensures ∙ c.nodes.ensures.value

-- and so are the names
vars_are : (c : In_ok-received) → c.in_ok-vars.vars ≡ c.args.graph.now.vars
vars_are c = c.in_ok-vars.ensures ∙ ap (λ (l : List (List ℕ)). c.shared_names.result.now ++ l) c.new-extra.ensures.items ∙ append-nil c.shared_names.result.now ∙ c.shared_names.ensures

pub of_parts-requires-clause-graph : goal.of_parts-requires-clause-graph
of_parts-requires-clause-graph c =
    let at = goal.at.of_parts-requires-clause-graph c in
    let graph = c.args.graph.now in
    let received : c.of-received.result ≡ c.args.graph.now.received = c.of-received.ensures ∙ c.in_ok-received.ensures.items ∙ c.received.ensures in
    subst (λ (l : List Node). IsGraph c.in_ok-vars.vars c.of-received.result l) (sym (c.in_ok-nodes.ensures))
    (subst (λ (l : List ℕ). IsGraph c.in_ok-vars.vars l c.nodes.result.now) (sym received)
    (subst (λ (l : List (List ℕ)). IsGraph l graph.received c.nodes.result.now) (sym (vars_are at.In_ok-received)) c.nodes.ensures.graph))

pub returns : goal.returns
returns c =
    let at = goal.at.returns c in
    let name : c.in_ok-name.name ≡ c.args.graph.now.name = search rules in
    same_graphs c.of_parts.result c.args.graph.now
    (c.of_parts.ensures.name ∙ name)
    (c.of_parts.ensures.shared ∙ c.shared-shared.ensures.value)
    (c.of_parts.ensures.vars ∙ vars_are at.In_ok-received)
    (c.of_parts.ensures.received ∙ c.of-received.ensures ∙ c.in_ok-received.ensures.items ∙ c.received.ensures)
    (c.of_parts.ensures.nodes ∙ nodes_are at.In_ok-nodes)
