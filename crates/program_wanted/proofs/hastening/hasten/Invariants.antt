use Rattle.program_wanted.specs.Hastening.{AreKept}
use Rattle.program_wanted.specs.Sweeps.{IsProgress}
use Rattle.program_wanted.specs.Tables.{demands_of}
use Rattle.program_wanted.proofs.hastening.hasten.Given as goal

abbrev pub invariant-loop-round : goal.invariant-loop-round
invariant-loop-round l = record {
  progress : IsProgress l.graphs.items (demands_of l.tables);
  kept : AreKept l.graphs.items l.prepared.items l.kept.items;
}
