use Rattle.std.proofs.Common.{subst}
use Rattle.jump_clean.specs.Parting.{AreJumpEdges}
use Rattle.jump_clean.proofs.NoJumps.{none_changed}
use Rattle.jump_clean.proofs.cleaning.cleaned.Goals as goal

pub returns-in-None : goal.returns-in-None
returns-in-None c = none_changed c.args.nodes.items c.requires.within (subst (AreJumpEdges c.args.nodes.items) c.in-None.is c.requires.edges)
