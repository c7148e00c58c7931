use Rattle.flow_graph.specs.NodeByNode.{kept_split}
use Rattle.held_assign.specs.HeldPassLaws.{by_node}
use Rattle.copy_flow.specs.Copied.{copied_node}
use Rattle.copy_flow.specs.Copies.{is_copy}
use Rattle.copy_flow.specs.Shapes.{copied_in_place}
use Rattle.copy_flow.proofs.copying.copied_splits.Goals as goal

pub returns : goal.returns
returns c =
    let graph = c.args.graph.now in
    let nodes = c.args.copied.now.nodes in
    kept_split graph.nodes nodes (by_node is_copy copied_node graph nodes c.requires.nodes_are copied_in_place)
