use Rattle.std.proofs.Common.{◌≡◌, ◌++◌, List, drop, length, take, ap, subst, sym, ◌∙◌}
use Rattle.flow_graph.specs.declared.nodes.Node.{Node}
use Rattle.flow_graph.specs.Graphs.{IsGraph}
use Rattle.graph_edit.specs.Flagged.{flag_at, pruned_from}
use Rattle.graph_edit.proofs.Edits.{all_written}
use Rattle.graph_edit.proofs.Flags.{pruned_graph}
use Rattle.graph_edit.proofs.flagged.without_flagged.Goals as goal
use Rattle.graph_edit.proofs.flagged.without_flagged.Goals.{After-empty_flagged}

-- the nodes that are put together again
nodes_are : (c : After-empty_flagged) → take c.into_parts-parts.result.nodes.len (c.empty_flagged.new.nodes ++ drop (length c.empty_flagged.new.nodes) c.into_parts-parts.result.nodes.items)
    ≡ pruned_from (flag_at c.args.flags.now) 0 c.into_parts-parts.result.nodes.items
nodes_are c =
    all_written c.into_parts-parts.result.nodes.len c.into_parts-parts.result.nodes.items c.empty_flagged.new.nodes c.into_parts-parts.result.nodes.ok.0 (c.empty_flagged.auto.nodes ∙ ap (λ (l : List Node). length l) c.deref_mut.ensures.value)
    ∙ c.empty_flagged.ensures
    ∙ ap (pruned_from (flag_at c.args.flags.now) 0) c.deref_mut.ensures.value

pub of_parts-requires-clause-graph : goal.of_parts-requires-clause-graph
of_parts-requires-clause-graph c =
    let known = (goal.at.of_parts-requires-clause-graph c).After-empty_flagged in
    subst (IsGraph c.into_parts-parts.result.vars c.into_parts-parts.result.received) (sym (nodes_are known))
    (pruned_graph c.into_parts-parts.result.vars c.into_parts-parts.result.received c.into_parts-parts.result.nodes.items (flag_at c.args.flags.now) c.into_parts-parts.ensures.graph)
