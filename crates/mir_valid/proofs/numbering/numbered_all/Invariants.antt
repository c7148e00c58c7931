use Rattle.std.proofs.Common.{◌≡◌, map, take, All}
use Rattle.mir_parse.specs.RawUnit.{HasPlaces}
use Rattle.mir_valid.specs.Numbered.{numbered_unit}
use Rattle.mir_valid.proofs.numbering.numbered_all.Given as goal

abbrev pub invariant-loop-unit : goal.invariant-loop-unit
invariant-loop-unit l = record {
  made : l.made.items ≡ map (numbered_unit l.globals l.numbers) (take l.unit-index l.units);
  places : All (λ unit. HasPlaces unit.labels unit.body) (take l.unit-index l.units);
}
