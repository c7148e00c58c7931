use Rattle.std.proofs.Common.{◌≡◌, ◌∙◌, ◌<◌, ◌≤◌, ap, arith, ℕ, Bool, List, length, slice_get, subst, false, sym}
use Rattle.flow_graph.specs.declared.nodes.Node.{Node}
use Rattle.flow_graph.specs.Graphs.{GraphShape, HaveVarsBelow}
use Rattle.key_rows.specs.KeyRows.{AreAssignedRows, AreKeyRows, any_assigned}
use Rattle.key_rows.specs.KeyRowLaws.{assigned_keys, same_test}
use Rattle.path_laws.specs.Paths.{AreRows}
use Rattle.held_assign.specs.declared.table.Assignment.{Assignment}
use Rattle.held_assign.specs.Assignments.{assignment_vars}
use Rattle.held_assign.specs.Holding.{assigns_one}
use Rattle.held_assign.specs.Rows.{is_of}
use Rattle.held_assign.proofs.Bits.{assigns_in}
use Rattle.held_assign.proofs.rows.ended_rows.Goals as goal

-- the node of this number ends the assignment
abbrev ends : GraphShape → List Node → Assignment → ℕ → Bool
ends graph nodes a n = assigns_one graph (assignment_vars a) (slice_get nodes n)

pub returns : goal.returns
returns c =
    let nodes = c.nodes-nodes.result.now in
    let touched = c.in_ok-touched.touched in
    let rows = c.in_ok-rows.rows in
    let long : length c.in_ok-touched.touched ≡ length c.args.graph.now.vars = c.in_ok-touched.ensures.shape.len ∙ c.requires.shape.len in
    let shared = c.shared.result in
    let few : shared ≤ length touched = omega (arith, c.shared.ensures.shares.count, long) in
    let made = assigned_keys false shared touched nodes c.args.table.now is_of rows few
    (λ x x_in. c.in_ok-touched.ensures.shape.each x (subst (λ l. x < l) c.in_ok-touched.ensures.shape.len x_in))
    (subst (λ vars. HaveVarsBelow vars nodes) (sym long) c.nodes-nodes.ensures.graph.can.below)
    (λ x i a x_in at. c.in_ok-touched.ensures.bits x i a (subst (λ l. x < l) c.in_ok-touched.ensures.shape.len x_in) at)
    (subst (λ bits. AreRows (length nodes) bits rows) c.len.ensures.len c.in_ok-rows.ensures.shape)
    (subst (λ bits. AreAssignedRows false shared touched bits nodes rows) c.len.ensures.len c.in_ok-rows.ensures.rows) in
    let all_end = same_test (length nodes) c.args.table.now (λ a n. any_assigned false shared (is_of a) (slice_get nodes n)) (ends c.args.graph.now nodes) rows
    (λ a n. ap (λ k. any_assigned false k (is_of a) (slice_get nodes n)) c.shared.ensures.value ∙ assigns_in c.args.graph.now (assignment_vars a) (slice_get nodes n)) made in
    subst (λ (all : List Node). AreKeyRows (length all) c.args.table.now (ends c.args.graph.now all) rows) c.nodes-nodes.ensures.value all_end
