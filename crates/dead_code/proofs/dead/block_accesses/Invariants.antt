use Rattle.dead_code.specs.Dead.{AreAccessesTo}
use Rattle.dead_code.proofs.dead.block_accesses.Given as goal

abbrev pub invariant-loop-block : goal.invariant-loop-block
invariant-loop-block l = AreAccessesTo l.graph l.blocks.lists l.block l.reads l.assigns
