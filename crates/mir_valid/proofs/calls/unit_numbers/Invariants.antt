use Rattle.std.proofs.Common.{◌≡◌, take}
use Rattle.mir_valid.specs.Numbered.{unit_numbers}
use Rattle.mir_valid.proofs.calls.unit_numbers.Given as goal

abbrev pub invariant-loop-number : goal.invariant-loop-number
invariant-loop-number l = l.table ≡ unit_numbers (take l.number l.units)
