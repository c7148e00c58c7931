use Rattle.std.proofs.Common.{ℕ, Bool, List, length, slice_get, subst}
use Rattle.flow_graph.specs.declared.nodes.Node.{Node}
use Rattle.graph_edit.specs.Accesses.{is_occurrence}
use Rattle.key_rows.specs.KeyRows.{AreKeyRows, HasKey}
use Rattle.key_rows.specs.KeyRowLaws.{by_test}
use Rattle.held_assign.specs.declared.table.Assignment.{Assignment}
use Rattle.held_assign.specs.Assignments.{picked_of}
use Rattle.held_assign.proofs.Holdable.{born_assignment}
use Rattle.held_assign.proofs.rows.born_rows.Goals as goal

-- the node of this number is the assignment
abbrev born : List Node → Assignment → ℕ → Bool
born nodes a n = is_occurrence a.target a.rhs (slice_get nodes n)

pub returns : goal.returns
returns g c =
    let nodes = c.nodes-nodes.result.now in
    let table = c.args.table.now in
    let picked = g.P.Picks.picked c.args.picks.now in
    subst (λ (all : List Node). AreKeyRows (length all) table (born all) c.in_ok-rows.rows) c.nodes-nodes.ensures.value
    (by_test (length nodes) table (born nodes) (HasKey (picked_of picked) nodes) c.in_ok-rows.rows (λ n i a n_in at. born_assignment picked nodes n a (c.requires i a at).is_picked (c.requires i a at).can) c.in_ok-rows.ensures)
