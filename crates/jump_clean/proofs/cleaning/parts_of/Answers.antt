use Rattle.std.proofs.Common.{◌++◌, ◌∷◌, [], List, ap, sym, subst, ◌∙◌}
use Rattle.mir_base.specs.declared.instructions.Operand.TheVariants.{Const}
use Rattle.flow_graph.specs.declared.nodes.Node.{Node}
use Rattle.flow_graph.specs.declared.nodes.Node.TheVariants.{Start, Return}
use Rattle.flow_graph.specs.Graphs.{IsGraph}
use Rattle.jump_clean.proofs.Parting.{two_graph}
use Rattle.jump_clean.proofs.cleaning.parts_of.Goals as goal

pub of_parts-frame-requires-clause-graph : goal.of_parts-frame-requires-clause-graph
of_parts-frame-requires-clause-graph c =
    let parts = c.into_parts-parts.result in
    let first = c.push_reserved.ensures.items ∙ ap (λ (l : List Node). l ++ Start 1 ∷ []) c.in_ok-two.ensures.items in
    let two = c.push_reserved-2.ensures.items ∙ ap (λ (l : List Node). l ++ Return (Const _) ∷ []) first in
    subst (λ (l : List Node). IsGraph parts.vars parts.received l) (sym two) (two_graph parts.vars parts.received parts.nodes.items (Const _) tt c.into_parts-parts.ensures.graph)
