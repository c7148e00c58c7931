use Rattle.std.proofs.Common.{◌≡◌, ◌∙◌, ◌<◌, ◌≤◌, arith, ℕ, Bool, List, length, slice_get, subst, true, false, ap, sym}
use Rattle.mir_base.specs.declared.instructions.Expr.{Expr}
use Rattle.mir_base.specs.ExpressionVars.{expr_vars}
use Rattle.flow_graph.specs.declared.nodes.Node.{Node}
use Rattle.flow_graph.specs.Graphs.{HaveVarsBelow}
use Rattle.flow_graph.specs.Numbering.{is_in}
use Rattle.key_rows.specs.KeyRows.{AreAssignedRows, AreKeyRows, any_assigned}
use Rattle.key_rows.specs.KeyRowLaws.{assigned_keys, same_test}
use Rattle.path_laws.specs.Paths.{AreRows}
use Rattle.motion_rewrite.specs.Expressions.{node_kills}
use Rattle.motion_rewrite.proofs.RowBits.{kills_assigned}
use Rattle.motion_rewrite.proofs.rows.kill_rows.Goals as goal

-- the variable is one of the expression
abbrev has_var : Expr → ℕ → Bool
has_var e x = is_in x (expr_vars e)

pub returns : goal.returns
returns c =
    let graph = c.args.graph.now in
    let nodes = c.nodes-nodes.result.now in
    let table = c.args.table.now in
    let operands = c.in_ok-operands.operands in
    let rows = c.in_ok-rows.rows in
    let kills : List Node → Expr → ℕ → Bool = λ all e n. node_kills graph e (slice_get all n) in
    let long : length c.in_ok-operands.operands ≡ length c.args.graph.now.vars = c.in_ok-operands.ensures.shape.len ∙ ap length c.vars.ensures in
    let below = subst (λ vars. HaveVarsBelow vars nodes) (sym long) c.nodes-nodes.ensures.graph.can.below in
    let bits = λ (x i : ℕ) (e : Expr) (x_in : x < length c.in_ok-operands.operands). c.in_ok-operands.ensures.operands x i e (subst (λ l. x < l) c.in_ok-operands.ensures.shape.len x_in) in
    let shape = subst (λ many. AreRows (length nodes) many rows) c.len.ensures.len c.in_ok-rows.ensures.shape in
    let shared = c.shared.result in
    let few : shared ≤ length operands = omega (arith, c.shared.ensures.shares.count, long) in
    let each = λ (x : ℕ) (x_in : x < length operands). c.in_ok-operands.ensures.shape.each x (subst (λ l. x < l) c.in_ok-operands.ensures.shape.len x_in) in
    let are = subst (λ many. AreAssignedRows true shared operands many nodes rows) c.len.ensures.len c.in_ok-rows.ensures.rows in
    subst (λ (all : List Node). AreKeyRows (length all) table (kills all) rows) c.nodes-nodes.ensures.value
    (same_test (length nodes) table (λ e n. any_assigned true shared (has_var e) (slice_get nodes n)) (kills nodes) rows
    (λ e n. ap (λ k. any_assigned true k (has_var e) (slice_get nodes n)) c.shared.ensures.value ∙ kills_assigned graph e (slice_get nodes n)) (assigned_keys true shared operands nodes table has_var rows few each below bits shape are))
