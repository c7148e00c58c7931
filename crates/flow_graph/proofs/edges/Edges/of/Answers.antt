use Rattle.std.proofs.Common.{◌∙◌, sym, subst, length}
use Rattle.flow_graph.specs.Edges.{AllEnter}
use Rattle.flow_graph.proofs.EdgeOrder.{all_enter}
use Rattle.flow_graph.proofs.edges.Edges.of.Goals as goal

pub counts-requires-clause-below : goal.counts-requires-clause-below
counts-requires-clause-below c =
    let nodes = c.nodes-nodes.result.now in
    let all = all_enter nodes (λ m slot s e. (c.nodes-nodes.ensures.graph.can.succs m slot s e).1) in
    subst (AllEnter (length nodes)) (sym (c.as_slice.ensures.value ∙ c.in_ok-listed.ensures.edges)) all

pub sort-requires-clause-below : goal.sort-requires-clause-below
sort-requires-clause-below c =
    let nodes = c.nodes-nodes.result.now in
    let all = all_enter nodes (λ m slot s e. (c.nodes-nodes.ensures.graph.can.succs m slot s e).1) in
    subst (AllEnter (length nodes)) (sym (c.as_slice-2.ensures.value ∙ c.in_ok-listed.ensures.edges)) all
