use Rattle.std.proofs.Common.{◌≡◌, ℕ, ◌<◌, false, slice_get, Some}
use Rattle.flow_graph.specs.declared.nodes.Node.{Node}
use Rattle.jump_clean.specs.Reductions.{is_jump}
use Rattle.jump_clean.proofs.cleaning.any_jump.Given as goal

abbrev pub invariant-loop-n : goal.invariant-loop-n
invariant-loop-n l = (k : ℕ) (node : Node) → k < l.n → slice_get l.nodes k ≡ Some node → is_jump node ≡ false
