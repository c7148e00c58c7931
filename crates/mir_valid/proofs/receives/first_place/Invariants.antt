use Rattle.std.proofs.Common.{◌≡◌, map, take}
use Rattle.mir_valid.specs.Refusals.{least}
use Rattle.mir_valid.proofs.receives.first_place.Given as goal

abbrev pub invariant-loop-label : goal.invariant-loop-label
invariant-loop-label l = l.first ≡ least (map (λ label. label.place) (take l.label-index l.labels))
