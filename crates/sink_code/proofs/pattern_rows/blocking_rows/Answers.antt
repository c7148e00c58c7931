use Rattle.std.proofs.Common.{◌≡◌, ◌∙◌, ◌<◌, ◌≤◌, ℕ, Bool, Some, List, length, get_or, subst, slice_get, false, ap, sym, arith}
use Rattle.std.proofs.lemmas.Option.{slice_get_within}
use Rattle.mir_base.specs.Shapes.{AllBelow}
use Rattle.flow_graph.specs.declared.nodes.Node.{Node}
use Rattle.flow_graph.specs.Graphs.{node_vars}
use Rattle.flow_graph.specs.ListLaws.{some_at}
use Rattle.path_laws.specs.Paths.{AreRows, has_bit}
use Rattle.sink_code.specs.declared.patterns.Pattern.{Pattern}
use Rattle.graph_edit.specs.Accesses.{blocks_at, blocks_pattern}
use Rattle.sink_code.specs.PatternRows.{blocked_row}
use Rattle.sink_code.specs.PatternTables.{AreSinkableBelow}
use Rattle.sink_code.proofs.PatternBits.{blocked_bit}
use Rattle.sink_code.proofs.pattern_rows.blocking_rows.Goals as goal
use Rattle.sink_code.proofs.pattern_rows.blocking_rows.Goals.{In_ok-rows}

pub by_variable-requires : goal.by_variable-requires
by_variable-requires c = subst (λ (l : List (List ℕ)). AreSinkableBelow (length l) c.args.table.now) (sym c.vars.ensures) c.requires

-- the globals are variables
few : (c : In_ok-rows) → c.args.graph.now.shared ≤ length c.vars.result.now
few c = omega (arith, c.shared-shared.ensures.shares.count, c.shared-shared.ensures.value, ap length c.vars.ensures)

bits : (c : In_ok-rows) (n k : ℕ) (p : Pattern) → n < length c.args.graph.now.nodes → slice_get c.args.table.now k ≡ Some p → has_bit c.in_ok-rows.rows k n ≡ blocks_at p.var p.rhs c.args.graph.now n
bits c n k p h at =
    let node = some_at c.args.graph.now.nodes n h in
    let here = ap (λ (l : List Node). slice_get l n) c.nodes.ensures.value ∙ node.1 in
    let by = c.in_ok-by_variable.by_variable in
    let vars = length c.vars.result.now in
    let row = c.in_ok-rows.ensures.blocked n node.0 here in
    let below = subst (λ (l : List (List ℕ)). AllBelow (length l) (node_vars node.0)) (sym c.vars.ensures) (c.nodes.ensures.graph.can.below n node.0 here) in
    let wide = c.len.ensures.len in
    ap (λ (r : List Bool). get_or r k false) (row ∙ ap (λ s. blocked_row by.assigning by.naming c.len.result s node.0) c.shared-shared.ensures.value)
    ∙ blocked_bit c.args.graph.now by.assigning by.naming c.len.result vars (few c)
    (subst (λ b. AreRows (length c.vars.result.now) b c.in_ok-by_variable.by_variable.assigning) (sym wide) c.in_ok-by_variable.ensures.assigning_shape)
    (subst (λ b. AreRows (length c.vars.result.now) b c.in_ok-by_variable.by_variable.naming) (sym wide) c.in_ok-by_variable.ensures.naming_shape)
    k p
    (λ x x_in. c.in_ok-by_variable.ensures.assigning x k p x_in at) (λ x x_in. c.in_ok-by_variable.ensures.naming x k p x_in at)
    node.0 (subst (λ l. k < l) (sym wide) (slice_get_within c.args.table.now k p at)) below
    ∙ ap (blocks_pattern c.args.graph.now p.var p.rhs) (sym node.1)

pub returns : goal.returns
returns c = record {
  shape = subst (λ (l : List Node). AreRows (length l) (length c.args.table.now) c.in_ok-rows.rows) c.nodes.ensures.value (subst (λ b. AreRows (length c.nodes.result.now) b c.in_ok-rows.rows) c.len.ensures.len c.in_ok-rows.ensures.shape);
  bits = bits (goal.at.returns c).In_ok-rows;
}
