use Rattle.std.proofs.Common.{◌≡◌}
use Rattle.graph_edit.specs.Flagged.{flag_at}
use Rattle.graph_edit.proofs.Flags.{pruned_below}
use Rattle.graph_edit.proofs.flagged.empty_flagged.Given as goal

abbrev pub invariant-loop-n : goal.invariant-loop-n
invariant-loop-n l = l.nodes ≡ pruned_below (flag_at l.flags) 0 l.n l.fn.nodes
