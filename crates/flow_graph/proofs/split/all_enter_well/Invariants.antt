use Rattle.std.proofs.Common.{ℕ, ◌<◌, IsTrue}
use Rattle.flow_graph.specs.Edges.{enters_well as enters}
use Rattle.flow_graph.proofs.split.all_enter_well.Given as goal

abbrev pub invariant-loop-node : goal.invariant-loop-node
invariant-loop-node l = (s : ℕ) → s < l.node → IsTrue (enters l.nodes s)
