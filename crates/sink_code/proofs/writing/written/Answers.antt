use Rattle.std.proofs.Common.{◌≡◌, ◌++◌, ℕ, [], List, length, ap, sym, ◌∙◌, subst, rules, arith}
use Rattle.flow_graph.specs.declared.nodes.Node.{Node}
use Rattle.flow_graph.specs.Graphs.{AllWithin, IsGraph}
use Rattle.flow_graph.specs.OneLaws.{same_graphs}
use Rattle.graph_edit.specs.InsertionGraphs.{rewritten_graph}
use Rattle.graph_edit.specs.Insertions.{rewritten, rewritten_nodes}
use Rattle.sink_code.specs.declared.inserting.PutBefore.{PutBefore}
use Rattle.sink_code.specs.SunkGraphs.{sinking}
use Rattle.sink_code.specs.Written.{AllPutBelow, written_nodes}
use Rattle.sink_code.proofs.Linked.{all_below, written_is}
use Rattle.sink_code.proofs.SunkKeeps.{inserts_fit}
use Rattle.sink_code.proofs.writing.written.Goals as goal
use Rattle.sink_code.proofs.writing.written.Goals.{In_ok-nodes, In_ok-received}

-- the graph's nodes are those of a graph
is_graph : (c : In_ok-nodes) → IsGraph c.args.graph.now.vars c.args.graph.now.received c.args.graph.now.nodes
is_graph c = subst (λ (l : List Node). IsGraph c.args.graph.now.vars c.args.graph.now.received l) c.nodes.ensures.value c.nodes.ensures.graph

-- what is written is the graph rewritten
nodes_are : (c : In_ok-nodes) → c.in_ok-nodes.nodes.items ≡ rewritten_nodes (sinking c.args.graph.now c.requires.puts.inserts) c.args.graph.now.nodes
nodes_are c =
    let graph = c.args.graph.now in
    let within : AllWithin c.args.graph.now.nodes = λ m slot s edge. ((is_graph c).can.succs m slot s edge).1 in
    c.in_ok-nodes.ensures
    ∙ ap (λ (l : List Node). written_nodes c.args.puts.now l) c.nodes.ensures.value
    ∙ ap (λ (l : List PutBefore). written_nodes l graph.nodes) c.requires.puts.are
    ∙ written_is c.requires.puts.inserts graph.nodes within

-- and its names are those of the graph
vars_are : (c : In_ok-received) → c.in_ok-vars.vars ≡ c.args.graph.now.vars ++ []
vars_are c = c.in_ok-vars.ensures ∙ ap (λ (l : List (List ℕ)). c.shared_names.result.now ++ l) c.new-extra.ensures.items ∙ ap (λ (l : List (List ℕ)). l ++ []) c.shared_names.ensures

pub written_nodes-requires-clause-puts : goal.written_nodes-requires-clause-puts
written_nodes-requires-clause-puts c =
    let olds = length c.args.graph.now.nodes in
    subst (λ (n : ℕ). AllPutBelow n c.args.puts.now) (sym (ap (λ (l : List Node). length l) c.nodes.ensures.value))
    (subst (AllPutBelow olds) (sym c.requires.puts.are) (all_below c.requires.puts.inserts olds 0 olds (omega arith)))

pub of_parts-requires-clause-graph : goal.of_parts-requires-clause-graph
of_parts-requires-clause-graph c =
    let at = goal.at.of_parts-requires-clause-graph c in
    let nodes = at.In_ok-nodes in
    let graph = c.args.graph.now in
    let puts = c.requires.puts in
    let r = sinking graph puts.inserts in
    let whole = rewritten_graph r [] graph (inserts_fit graph (is_graph nodes) c.requires.split puts.delayed puts.inserts puts.insertions) (is_graph nodes) in
    let received : c.of-received.result ≡ c.args.graph.now.received = c.of-received.ensures ∙ c.in_ok-received.ensures.items ∙ c.received.ensures in
    subst (λ (l : List Node). IsGraph c.in_ok-vars.vars c.of-received.result l) (sym (nodes_are nodes))
    (subst (λ (l : List ℕ). IsGraph c.in_ok-vars.vars l (rewritten_nodes r graph.nodes)) (sym received)
    (subst (λ (l : List (List ℕ)). IsGraph l graph.received (rewritten_nodes r graph.nodes)) (sym (vars_are at.In_ok-received)) whole))

pub returns : goal.returns
returns c =
    let at = goal.at.returns c in
    let graph = c.args.graph.now in
    let puts = c.requires.puts in
    let name : c.in_ok-name.name ≡ c.args.graph.now.name = search rules in
    record {
      delayed = puts.delayed;
      inserts = puts.inserts;
      insertions = puts.insertions;
      is = same_graphs c.of_parts.result (rewritten (sinking graph puts.inserts) [] graph)
          (c.of_parts.ensures.name ∙ name)
          (c.of_parts.ensures.shared ∙ c.shared-shared.ensures.value)
          (c.of_parts.ensures.vars ∙ vars_are at.In_ok-received)
          (c.of_parts.ensures.received ∙ c.of-received.ensures ∙ c.in_ok-received.ensures.items ∙ c.received.ensures)
          (c.of_parts.ensures.nodes ∙ nodes_are at.In_ok-nodes);
    }
