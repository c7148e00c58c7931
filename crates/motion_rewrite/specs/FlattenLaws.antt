-- A placement makes one graph: the names of the temporaries are the only ones. For proofs only.
use Rattle.std.proofs.Common.{◌≡◌, List, ◌++◌, sym, ap, ◌∙◌}
use Rattle.mir_base.specs.declared.instructions.Expr.{Expr}
use Rattle.flow_graph.specs.Graphs.{GraphShape}
use Rattle.flow_graph.specs.OneLaws.{same_graphs}
use Rattle.fresh_names.specs.FreshNameLaws.{names_are_one}
use Rattle.motion_rewrite.specs.declared.placement.Placement.{Placement}
use Rattle.motion_rewrite.specs.Flatten.{IsFlattened}

-- there is one graph
pub flattened_is_one : (graph : GraphShape) (table : List Expr) (p : Placement) (a b : GraphShape)
    → IsFlattened graph table p a → IsFlattened graph table p b → a ≡ b
flattened_is_one graph table p a b f g =
    let names = names_are_one _ _ f.names g.names f.are_names g.are_names in
    same_graphs a b (f.name_is ∙ sym g.name_is) (f.shared_is ∙ sym g.shared_is) (f.vars_are ∙ ap (λ l. graph.vars ++ l) names ∙ sym g.vars_are) (f.received_are ∙ sym g.received_are) (f.nodes_are ∙ sym g.nodes_are)
