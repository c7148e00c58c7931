use Rattle.std.proofs.Common.{◌≤◌, length, sym, subst}
use Rattle.tail_loop.specs.OneLaws.{tailed_one}
use Rattle.tail_loop.specs.Tails.{AreTailCalls}
use Rattle.tail_loop.proofs.Makes.{is_tailed, keeps_loops}
use Rattle.tail_loop.proofs.tails.tail.Goals as goal
use Rattle.tail_loop.proofs.tails.tail.Goals.{After-drop-calls-2}

-- the self tail calls of the graph
are_calls : (c : After-drop-calls-2) → AreTailCalls c.args.graph.now.shared c.args.graph.now.nodes c.args.unit c.as_slice.result.now
are_calls c = subst (λ n. AreTailCalls n c.args.graph.now.nodes c.args.unit c.as_slice.result.now) c.shared.ensures.value
    (subst (λ nodes. AreTailCalls c.shared.result nodes c.args.unit c.as_slice.result.now) c.nodes.ensures.value (subst (AreTailCalls c.shared.result c.nodes.result.now c.args.unit) (sym c.as_slice.ensures.value) c.in_ok-calls.ensures))

pub returns-clause-tailed : goal.returns-clause-tailed
returns-clause-tailed c = is_tailed c.args.graph.now c.args.unit c.as_slice.result.now c.in_ok-tailed.tailed (are_calls c) c.in_ok-tailed.ensures

pub returns-clause-keeps : goal.returns-clause-keeps
returns-clause-keeps c =
    let least = subst (λ n. n ≤ length c.args.graph.now.vars) c.shared.ensures.value c.shared.ensures.shares.count in
    keeps_loops c.args.graph.now c.args.unit c.as_slice.result.now c.in_ok-tailed.tailed least (are_calls c) c.in_ok-tailed.ensures

pub returns-clause-only : goal.returns-clause-only
returns-clause-only c = λ other is. tailed_one c.args.unit c.args.graph.now c.in_ok-tailed.tailed other (is_tailed c.args.graph.now c.args.unit c.as_slice.result.now c.in_ok-tailed.tailed (are_calls c) c.in_ok-tailed.ensures) is
