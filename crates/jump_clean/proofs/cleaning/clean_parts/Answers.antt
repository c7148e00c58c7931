use Rattle.std.proofs.Common.{◌∙◌, sym, subst}
use Rattle.flow_graph.specs.Graphs.{AllWithin}
use Rattle.jump_clean.proofs.cleaning.clean_parts.Goals as goal

pub cleaned-requires-clause-within : goal.cleaned-requires-clause-within
cleaned-requires-clause-within c = subst AllWithin (c.nodes-nodes.ensures.value ∙ sym c.in_ok-whole.ensures.nodes) (λ m slot s edge. (c.nodes-nodes.ensures.graph.can.succs m slot s edge).1)
