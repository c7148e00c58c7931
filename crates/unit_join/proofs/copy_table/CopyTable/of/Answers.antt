use Rattle.std.proofs.Common.{◌≡◌, ◌+◌, ◌∙◌, ℕ, List, Some, drop, flat_map, slice_get, sym, ap}
use Rattle.std.proofs.lemmas.Option.{slice_get-get_or}
use Rattle.flow_graph.specs.declared.nodes.Node.{Node}
use Rattle.flow_graph.specs.ListLaws.{drop_at}
use Rattle.flow_graph.specs.Numbering.{seen_after}
use Rattle.unit_join.specs.Joins.{leaf_called}
use Rattle.unit_join.proofs.Tabled.{seen_append}
use Rattle.unit_join.proofs.copy_table.CopyTable.of.Goals as goal

pub loop-node-preserved : goal.loop-node-preserved
loop-node-preserved c =
    let nodes = c.args.nodes.now in
    let i = c.loop-node.node-index in
    let node = c.node-item.result in
    let called : Node → List ℕ = leaf_called c.args.leaves.now.units in
    let old = c.loop-node.table.units.items in
    let rest = flat_map called (drop (i + 1) nodes) in
    let at : slice_get nodes i ≡ Some node = slice_get-get_or nodes i node c.loop-node-test.true ∙ ap Some (sym c.node-item.is) in
    let takes = c.in_ok-add.ensures c.args.vars c.loop-node.invariant.copies in
    record {
      seen = ap (λ us. seen_after us rest) takes.0 ∙ ap (λ l. seen_after (seen_after old l) rest) c.leaf_called.ensures.unit ∙ seen_append old (called node) rest
          ∙ ap (λ l. seen_after old (flat_map called l)) (sym (drop_at nodes i node at)) ∙ c.loop-node.invariant.seen;
      copies = takes.1;
    }
