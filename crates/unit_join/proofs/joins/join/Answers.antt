use Rattle.std.proofs.Common.{◌≤◌, length, sym, subst}
use Rattle.unit_join.specs.JoinOneLaws.{graph_joined_one}
use Rattle.unit_join.specs.JoinProgramLaws.{is_joined, keeps_joins}
use Rattle.unit_join.specs.Joins.{AreLeafCalls}
use Rattle.unit_join.proofs.joins.join.Goals as goal
use Rattle.unit_join.proofs.joins.join.Goals.{After-drop-calls-2}

-- the calls of leaves of the graph
are_calls : (c : After-drop-calls-2) → AreLeafCalls c.args.leaves.now.units c.args.graph.now.nodes c.as_slice.result.now
are_calls c = subst (λ nodes. AreLeafCalls c.args.leaves.now.units nodes c.as_slice.result.now) c.nodes.ensures.value (subst (AreLeafCalls c.args.leaves.now.units c.nodes.result.now) (sym c.as_slice.ensures.value) c.in_ok-calls.ensures)

pub returns-clause-joined : goal.returns-clause-joined
returns-clause-joined c = is_joined c.args.graph.now c.args.leaves.now.units c.as_slice.result.now c.in_ok-joined.joined (are_calls c) c.in_ok-joined.ensures

pub returns-clause-keeps : goal.returns-clause-keeps
returns-clause-keeps c =
    let least = subst (λ n. n ≤ length c.args.graph.now.vars) c.shared-shared.ensures.value c.shared-shared.ensures.shares.count in
    keeps_joins c.args.graph.now c.args.leaves.now.units c.as_slice.result.now c.in_ok-joined.joined least (are_calls c) c.in_ok-joined.ensures

pub returns-clause-only : goal.returns-clause-only
returns-clause-only c = λ other is. graph_joined_one c.args.leaves.now.units c.args.graph.now c.in_ok-joined.joined other (is_joined c.args.graph.now c.args.leaves.now.units c.as_slice.result.now c.in_ok-joined.joined (are_calls c) c.in_ok-joined.ensures) is
