use Rattle.std.proofs.Common.{◌≡◌, ◌≤◌, Bool, List, Some, length, map, ap, sym, subst, ◌∙◌}
use Rattle.std.proofs.lemmas.List.{take_all}
use Rattle.std.proofs.lemmas.Option.{same_Some, slice_get-get_or}
use Rattle.mir_base.specs.Shapes.{AllBelow}
use Rattle.bit_rows.specs.Bits.{row_of}
use Rattle.flow_graph.specs.ListLaws.{some_at}
use Rattle.flow_graph.specs.declared.nodes.Node.{Node}
use Rattle.flow_graph.specs.Graphs.{node_vars}
use Rattle.key_rows.specs.KeyRows.{assigned_row}
use Rattle.key_rows.specs.KeyRowLaws.{assigned_long, row_at, rows_more}
use Rattle.path_laws.specs.Pushing.{longer}
use Rattle.key_rows.proofs.assigned.assigned_rows.Goals as goal

pub loop-node-preserved : goal.loop-node-preserved
loop-node-preserved c =
    let by = c.args.by_var.now in
    let nodes = c.args.nodes.now in
    let node = c.node-item.result in
    let row : Node → List Bool = λ n. assigned_row c.args.at_start c.args.shared by c.args.bits (Some n) in
    let at = slice_get-get_or nodes c.loop-node.node-index node c.loop-node-test.true ∙ ap Some (sym c.node-item.is) in
    let below : (other : Node) → Some c.node-item.result ≡ Some other → AllBelow (length c.args.by_var.now) (node_vars other) = λ other same.
    subst (λ n. AllBelow (length c.args.by_var.now) (node_vars n)) (same_Some c.node-item.result other same) (c.requires.below c.loop-node.node-index c.node-item.result at) in
    let put = c.in_ok-push_assigned.ensures in
    record {
      are = rows_more row nodes c.loop-node.node-index node c.loop-node.rows c.push_assigned.new.rows c.loop-node-test.true c.node-item.is c.loop-node.invariant.are put;
      long = longer c.args.bits c.loop-node.rows c.push_assigned.new.rows (row node) c.loop-node.invariant.long (assigned_long c.args.at_start c.args.shared by c.args.bits (Some node) c.requires.shared c.requires.shape.each below) put;
    }

pub returns-clause-rows : goal.returns-clause-rows
returns-clause-rows c = λ n n_in.
    let nodes = c.args.nodes.now in
    let row : Node → List Bool = λ node. assigned_row c.args.at_start c.args.shared c.args.by_var.now c.args.bits (Some node) in
    let late : length c.args.nodes.now ≤ c.loop-node.node-index = c.loop-node-test.false in
    let at = some_at nodes n n_in in
    ap (λ (rows : List (List Bool)). row_of rows n) (c.loop-node.invariant.are ∙ ap (map row) (take_all c.loop-node.node-index nodes late))
    ∙ row_at row nodes n at.0 at.1
    ∙ ap (assigned_row c.args.at_start c.args.shared c.args.by_var.now c.args.bits) (sym at.1)
