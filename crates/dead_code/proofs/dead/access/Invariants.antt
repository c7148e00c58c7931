use Rattle.dead_code.proofs.Flagging.{AreAccessedBack}
use Rattle.dead_code.proofs.dead.access.Given as goal

abbrev pub invariant-loop-back : goal.invariant-loop-back
invariant-loop-back l = AreAccessedBack l.graph l.blocks.lists l.block l.list l.back l.reads l.assigns
