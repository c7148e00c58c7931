use Rattle.std.proofs.Common.{◌≡◌, ◌++◌, drop}
use Rattle.extend_flow.proofs.rewriting.copied.Given as goal

abbrev pub invariant-loop-node : goal.invariant-loop-node
invariant-loop-node l = l.copied.items ++ drop l.node-index l.nodes ≡ l.nodes
