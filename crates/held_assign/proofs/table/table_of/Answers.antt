use Rattle.std.proofs.Common.{[], length, subst}
use Rattle.held_assign.specs.Assignments.{AreInOrder, HasAssignments, HasOnlyAssignments, picked_of}
use Rattle.held_assign.proofs.Holdable.{taken_holdable}
use Rattle.held_assign.proofs.Taking.{taken_all, taken_only, taken_order}
use Rattle.held_assign.proofs.table.table_of.Goals as goal

pub returns-clause-holdable : goal.returns-clause-holdable
returns-clause-holdable g c = taken_holdable (g.P.Picks.picked c.args.picks.now) (length c.args.graph.now.vars) c.nodes-nodes.result.now c.in_ok-table.table c.nodes-nodes.ensures.graph.can.below c.in_ok-table.ensures.keys

pub returns-clause-all : goal.returns-clause-all
returns-clause-all g c =
    let picked = g.P.Picks.picked c.args.picks.now in
    subst (λ nodes. HasAssignments picked nodes c.in_ok-table.table) c.nodes-nodes.ensures.value (taken_all (picked_of picked) c.nodes-nodes.result.now [] c.in_ok-table.table c.in_ok-table.ensures.keys)

pub returns-clause-only : goal.returns-clause-only
returns-clause-only g c =
    let picked = g.P.Picks.picked c.args.picks.now in
    subst (λ nodes. HasOnlyAssignments picked nodes c.in_ok-table.table) c.nodes-nodes.ensures.value (taken_only (picked_of picked) c.nodes-nodes.result.now c.in_ok-table.table c.in_ok-table.ensures.keys)

pub returns-clause-order : goal.returns-clause-order
returns-clause-order g c =
    let picked = g.P.Picks.picked c.args.picks.now in
    subst (λ nodes. AreInOrder picked nodes c.in_ok-table.table) c.nodes-nodes.ensures.value (taken_order (picked_of picked) c.nodes-nodes.result.now c.in_ok-table.table c.in_ok-table.ensures.differ c.in_ok-table.ensures.keys)
