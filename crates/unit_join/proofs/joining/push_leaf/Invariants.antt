use Rattle.std.proofs.Common.{◌≡◌, ◌+◌, ◌++◌, drop, map}
use Rattle.unit_join.specs.Joins.{copy_number, leaf_node, leaf_place}
use Rattle.unit_join.proofs.joining.push_leaf.Given as goal

abbrev pub invariant-loop-m : goal.invariant-loop-m
invariant-loop-m l =
    l.nodes.items ++ map (leaf_node (copy_number l.to.shared l.to.base) (leaf_place l.first) l.into l.next) (drop l.m l.leaf.nodes) ≡ l.fn.nodes.items ++ map (leaf_node (copy_number l.to.shared l.to.base) (leaf_place l.first) l.into l.next) (drop 1 l.leaf.nodes)
