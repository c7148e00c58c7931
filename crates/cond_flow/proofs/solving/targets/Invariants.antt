use Rattle.cond_flow.specs.Blockwise.{AreTargetsBelow}
use Rattle.cond_flow.proofs.solving.targets.Given as goal

abbrev pub invariant-loop-block : goal.invariant-loop-block
invariant-loop-block l = AreTargetsBelow l.graph.nodes l.blocks.lists l.block l.targets.items
