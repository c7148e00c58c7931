use Rattle.std.proofs.Common.{◌≡◌, take}
use Rattle.flow_graph.proofs.tidying.copied.Given as goal

abbrev pub invariant-loop-inst : goal.invariant-loop-inst
invariant-loop-inst l = l.copied.items ≡ take l.inst-index l.insts
