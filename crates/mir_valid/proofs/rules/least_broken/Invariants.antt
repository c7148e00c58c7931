use Rattle.std.proofs.Common.{◌≡◌, flat_map, take}
use Rattle.mir_valid.specs.Refusals.{least}
use Rattle.mir_valid.proofs.rules.least_broken.Given as goal

abbrev pub invariant-loop-unit : goal.invariant-loop-unit
invariant-loop-unit g l = l.best ≡ least (flat_map (g.R.Rule.lines l.rule) (take l.unit-index l.units))
