use Rattle.program_wanted.specs.Preparing.{AreAskListsBelow}
use Rattle.program_wanted.proofs.raising.nothing_asked.Given as goal

abbrev pub invariant-loop-unit : goal.invariant-loop-unit
invariant-loop-unit l = AreAskListsBelow l.graphs.items l.unit l.all.items
