use Rattle.std.proofs.Common.{◌≡◌, ◌++◌, drop}
use Rattle.flow_graph.specs.Lowered.{received_in}
use Rattle.flow_graph.proofs.lowering.received.Given as goal

abbrev pub invariant-loop-inst : goal.invariant-loop-inst
invariant-loop-inst l = received_in l.insts ≡ l.received.items ++ received_in (drop l.inst-index l.insts)
