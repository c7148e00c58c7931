-- A graph has exactly one folded graph, and what is known agrees with the values. For proofs only.
use Rattle.std.proofs.Common.{◌≡◌, subst}
use Rattle.mir_base.specs.Frames.{Values}
use Rattle.flow_graph.specs.Graphs.{GraphShape}
use Rattle.cond_flow.specs.BecomingLaws.{rewritten_is_one}
use Rattle.cond_flow.specs.Holding.{HoldsAt as HoldsBy}
use Rattle.cond_const.specs.States.{NodeState, Unreached, Knows, HasValue}
use Rattle.cond_const.specs.Folded.{IsFolded}
use Rattle.cond_const.specs.Folding.{fold_rules}
use Rattle.cond_const.specs.Holding.{HoldsAt}
use Rattle.cond_const.specs.OrderLaws.{order_rules}

-- the graph that is made is determined
pub folded_is_one : (graph a b : GraphShape) → IsFolded graph a → IsFolded graph b → a ≡ b
folded_is_one = rewritten_is_one order_rules

-- values of which what is known holds have the constants
pub agrees_at : (s : NodeState) (values : Values) → HoldsBy HasValue fold_rules s values → HoldsAt s values
agrees_at (Unreached n) values held = held
agrees_at (Knows ks) values held = record { is = λ x c e. subst (λ k. HasValue k (values x)) e (held.each x) }
