use Rattle.std.proofs.Common.{◌-◌, length}
use Rattle.latest_place.specs.Parts.{AreSeenFrom, LeadsFrom}
use Rattle.latest_place.proofs.once.seen_uses.Given as goal

abbrev pub invariant-loop-back : goal.invariant-loop-back
invariant-loop-back l = record {
  seen : AreSeenFrom l.graph l.table (length l.nodes - l.back) l.seen.items;
  leads : LeadsFrom l.graph (length l.nodes - l.back) l.least;
}
