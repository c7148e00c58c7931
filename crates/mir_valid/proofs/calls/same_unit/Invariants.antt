use Rattle.std.proofs.Common.{◌≡◌, List, ℕ, is_some, take}
use Rattle.mir_valid.specs.Names.{has_name, number_in}
use Rattle.mir_valid.specs.Rules.{unit_names, same_unit_lines}
use Rattle.mir_valid.specs.Refusals.{least}
use Rattle.mir_valid.proofs.calls.same_unit.Given as goal

abbrev pub invariant-loop-unit : goal.invariant-loop-unit
invariant-loop-unit l = record {
  seen : (x : List ℕ) → is_some (number_in l.seen x) ≡ has_name (unit_names (take l.unit-index l.units)) x;
  least : l.best ≡ least (same_unit_lines (take l.unit-index l.units));
}
