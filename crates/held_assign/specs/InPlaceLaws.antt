-- Laws of graphs with other nodes. For proofs only, here and above.
use Rattle.std.proofs.Common.{◌≡◌, List, sym, ◌∙◌, subst}
use Rattle.flow_graph.specs.declared.nodes.Node.{Node}
use Rattle.flow_graph.specs.Graphs.{GraphShape}
use Rattle.flow_graph.specs.OneLaws.{same_graphs}
use Rattle.held_assign.specs.InPlace.{HasNodes}

-- what is so of the nodes is so of the graph that has them
pub has_nodes_where : (are : List Node → Type 0) (graph made : GraphShape) (nodes : List Node) → HasNodes (λ l. l ≡ nodes) graph made → are nodes → HasNodes are graph made
has_nodes_where are graph made nodes has is = record {
  name_is = has.name_is;
  shared_is = has.shared_is;
  vars_are = has.vars_are;
  received_are = has.received_are;
  nodes_are = subst are (sym has.nodes_are) is;
}

-- there is one such graph, where the nodes are one list
pub has_nodes_one : (are : List Node → Type 0) → ((nodes other : List Node) → are nodes → are other → nodes ≡ other)
    → (graph a b : GraphShape) → HasNodes are graph a → HasNodes are graph b → a ≡ b
has_nodes_one are one graph a b p q =
    same_graphs a b (p.name_is ∙ sym q.name_is) (p.shared_is ∙ sym q.shared_is) (p.vars_are ∙ sym q.vars_are)
    (p.received_are ∙ sym q.received_are) (one a.nodes b.nodes p.nodes_are q.nodes_are)
