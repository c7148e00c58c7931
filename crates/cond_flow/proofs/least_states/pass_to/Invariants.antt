use Rattle.std.proofs.Common.{◌≡◌, ◌-◌, ◌≤◌, ℕ, length, take, slice_get, Some}
use Rattle.cond_flow.specs.States.{state_where}
use Rattle.cond_flow.specs.Passing.{passed_along}
use Rattle.cond_flow.specs.Blockwise.{through_nodes}
use Rattle.cond_flow.specs.Outsides.{rules_in}
use Rattle.cond_flow.proofs.least_states.pass_to.Given as goal

abbrev pub invariant-loop-place : goal.invariant-loop-place
invariant-loop-place g l = record {
  passes : state_where l.reaches l.known ≡ through_nodes (passed_along (rules_in l.outside g.K.Knowledge.rules) l.graph.shared l.graph.received) l.graph.nodes (take l.place l.list) (state_where l.reached l.fn.known);
  ahead : (i : ℕ) × (l.place ≤ i) × (slice_get l.list i ≡ Some l.node);
}

abbrev pub decreases-loop-place : goal.decreases-loop-place
decreases-loop-place g l = length l.list - l.place
