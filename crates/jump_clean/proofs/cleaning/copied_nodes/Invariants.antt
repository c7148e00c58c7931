use Rattle.std.proofs.Common.{◌≡◌, ◌++◌, drop}
use Rattle.jump_clean.proofs.cleaning.copied_nodes.Given as goal

abbrev pub invariant-loop-node : goal.invariant-loop-node
invariant-loop-node l = l.copied.items ++ drop l.node-index l.nodes ≡ l.nodes
