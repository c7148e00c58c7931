use Rattle.std.proofs.Common.{refl}
use Rattle.flow_graph.specs.NodeByNode.{kept_divides}
use Rattle.held_assign.specs.HeldPassLaws.{by_node}
use Rattle.compare_flow.specs.Compared.{compared_node}
use Rattle.compare_flow.specs.Shapes.{compared_in_place}
use Rattle.compare_flow.specs.Truths.{is_comparison}
use Rattle.compare_flow.proofs.comparing.comparisons.Goals as goal

-- assignments stay, and so divisions do
pub returns-clause-divides : goal.returns-clause-divides
returns-clause-divides c =
    let old = c.args.graph.now in
    let nodes = c.in_ok-compared.compared.nodes in
    kept_divides old.nodes nodes (by_node (λ x t. is_comparison t) compared_node old nodes c.in_ok-compared.ensures.made.nodes_are compared_in_place) (λ n x op left right next may. refl)
