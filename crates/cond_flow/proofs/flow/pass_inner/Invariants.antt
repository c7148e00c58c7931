use Rattle.std.proofs.Common.{◌≡◌, ◌-◌, take}
use Rattle.cond_flow.specs.Blockwise.{through_nodes}
use Rattle.cond_flow.specs.Passing.{passed_along}
use Rattle.cond_flow.specs.States.{state_where}
use Rattle.cond_flow.specs.Outsides.{rules_in}
use Rattle.cond_flow.proofs.flow.pass_inner.Given as goal

abbrev pub invariant-loop-i : goal.invariant-loop-i
invariant-loop-i g l =
    state_where l.reaches l.known
    ≡ through_nodes (passed_along (rules_in l.outside g.K.Knowledge.rules) l.graph.shared l.graph.received) l.graph.nodes
    (take (l.i - 1) l.list) (state_where l.reached l.fn.known)
