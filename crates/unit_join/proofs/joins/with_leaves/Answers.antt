use Rattle.std.proofs.Common.{◌≡◌, ◌∙◌, ◌≤◌, ℕ, List, length, ap, subst}
use Rattle.flow_graph.specs.Graphs.{CanMake}
use Rattle.unit_join.specs.CopyTables.{HasCopyNumbers}
use Rattle.unit_join.specs.JoinProgramLaws.{join_made, leaves_made_can}
use Rattle.unit_join.specs.Joins.{LeavesAreJoined, called_leaves}
use Rattle.unit_join.proofs.joins.with_leaves.Goals as goal
use Rattle.unit_join.proofs.joins.with_leaves.Goals.{In_ok-table, In_ok-nodes}

-- the leaves that are called
units_are : (c : In_ok-table) → c.in_ok-table.table.units.items ≡ called_leaves c.args.leaves.now.units c.args.graph.now.nodes
units_are c = c.in_ok-table.ensures.units ∙ ap (called_leaves c.args.leaves.now.units) c.nodes.ensures.value

-- and their copies
has_copies : (c : In_ok-table) → HasCopyNumbers c.args.leaves.now.units (length c.args.graph.now.vars) c.in_ok-table.table
has_copies c = subst (λ (l : List (List ℕ)). HasCopyNumbers c.args.leaves.now.units (length l) c.in_ok-table.table) c.vars.ensures c.in_ok-table.ensures.copies

pub widened-requires-clause-units : goal.widened-requires-clause-units
widened-requires-clause-units c = units_are (goal.at.widened-requires-clause-units c).In_ok-table

pub widened-requires-clause-copies : goal.widened-requires-clause-copies
widened-requires-clause-copies c = has_copies (goal.at.widened-requires-clause-copies c).In_ok-table

pub joined-requires-clause-copies : goal.joined-requires-clause-copies
joined-requires-clause-copies c = has_copies (goal.at.joined-requires-clause-copies c).In_ok-table

-- the nodes with leaves
joined : (c : In_ok-nodes) → LeavesAreJoined c.args.leaves.now.units (called_leaves c.args.leaves.now.units c.args.graph.now.nodes) c.args.graph.now c.args.calls.now c.args.graph.now.nodes c.in_ok-nodes.nodes.items
joined c =
    let units : c.in_ok-table.table.units.items ≡ called_leaves c.args.leaves.now.units c.args.graph.now.nodes = c.in_ok-table.ensures.units ∙ ap (called_leaves c.args.leaves.now.units) c.nodes.ensures.value in
    subst (λ (us : List ℕ). LeavesAreJoined c.args.leaves.now.units us c.args.graph.now c.args.calls.now c.args.graph.now.nodes c.in_ok-nodes.nodes.items) units c.in_ok-nodes.ensures

pub with_nodes-requires : goal.with_nodes-requires
with_nodes-requires c =
    let graph = c.args.graph.now in
    let least = subst (λ n. n ≤ length graph.vars) c.shared-shared.ensures.value c.shared-shared.ensures.shares.count in
    leaves_made_can graph c.args.leaves.now.units c.args.calls.now c.in_ok-wide.wide c.in_ok-nodes.nodes.items (subst (CanMake graph.vars graph.received) c.nodes-nodes.ensures.value c.nodes-nodes.ensures.graph.can) c.can_be_made.ensures least c.requires.globals c.in_ok-wide.ensures (joined (goal.at.with_nodes-requires c).In_ok-nodes)

pub returns : goal.returns
returns c =
    let graph = c.args.graph.now in
    let least = subst (λ n. n ≤ length graph.vars) c.shared-shared.ensures.value c.shared-shared.ensures.shares.count in
    let is = c.in_ok-joined.ensures in
    join_made graph c.args.leaves.now.units c.args.calls.now c.in_ok-wide.wide c.in_ok-nodes.nodes.items (subst (CanMake graph.vars graph.received) c.nodes-nodes.ensures.value c.nodes-nodes.ensures.graph.can) c.can_be_made.ensures least c.requires.globals c.in_ok-wide.ensures (joined (goal.at.returns c).In_ok-nodes)
    c.in_ok-joined.joined is.made is.same is.cheaper is.calls
