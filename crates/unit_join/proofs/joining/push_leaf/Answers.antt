use Rattle.std.proofs.Common.{◌++◌, ◌+◌, drop, map}
use Rattle.unit_join.specs.Joins.{copy_number, leaf_node, leaf_place}
use Rattle.unit_join.proofs.Pushed.{leaf_pushed}
use Rattle.unit_join.proofs.joining.push_leaf.Goals as goal

pub loop-m-preserved : goal.loop-m-preserved
loop-m-preserved c =
    let leaf = c.args.leaf.now.nodes in
    let f = leaf_node (copy_number c.args.to.shared c.args.to.base) (leaf_place c.args.first) c.args.into c.args.next in
    leaf_pushed f c.loop-m.nodes.items c.push.new.self.items (c.args.nodes.now.items ++ map f (drop 1 leaf)) leaf c.loop-m.m c.node.result.now c.in_ok-leaf_node.field-0 c.node.ensures c.in_ok-leaf_node.ensures c.in_ok-push.ensures.items c.loop-m.invariant
