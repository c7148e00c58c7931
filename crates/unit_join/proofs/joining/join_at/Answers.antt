use Rattle.std.proofs.Common.{◌∙◌, ◌+◌, ◌<◌, length, Some, ap, sym, subst}
use Rattle.unit_join.specs.Joins.{copy_number, nodes_with_leaf}
use Rattle.unit_join.proofs.Pushed.{joined_is}
use Rattle.unit_join.proofs.Tabled.{leaf_within}
use Rattle.unit_join.proofs.joining.join_at.Goals as goal

pub first_copy-base-requires : goal.first_copy-base-requires
first_copy-base-requires c = subst (λ n. c.in-Call.unit < n) (sym c.requires.copies.long) (leaf_within c.args.leaves.now.units c.in-Call.unit c.in-Some.leaf.now c.in-Some.ensures.some)

pub returns-in_ok-put_leaf-in-Some : goal.returns-in_ok-put_leaf-in-Some
returns-in_ok-put_leaf-in-Some c =
    let graph = c.args.graph.now in
    let leaves = c.args.leaves.now.units in
    let base = c.first_copy-base.result in
    let leaf = c.in-Some.leaf.now in
    joined_is leaves c.args.table.now.units.items graph c.args.nodes.now.items c.put_leaf.new.nodes.items c.args.call c.in-Call.into c.in-Call.unit c.in-Call.operands c.in-Call.next leaf base (c.node.ensures ∙ ap Some c.in-Call.is) c.in-Some.ensures.some
    (c.first_copy-base.ensures leaves (length graph.vars) c.requires.copies)
    (c.in_ok-put_leaf-in-Some.ensures ∙ ap (λ n. nodes_with_leaf c.args.nodes.now.items c.args.call (copy_number n base) leaf c.in-Call.into c.items.result.now c.in-Call.next) c.shared-shared.ensures.value ∙ ap (λ l. nodes_with_leaf c.args.nodes.now.items c.args.call (copy_number graph.shared base) leaf c.in-Call.into l c.in-Call.next) c.items.ensures)
