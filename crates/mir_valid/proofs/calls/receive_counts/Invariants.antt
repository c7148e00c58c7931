use Rattle.std.proofs.Common.{◌≡◌, take}
use Rattle.mir_valid.specs.Rules.{receive_counts}
use Rattle.mir_valid.specs.NameTables.{table_of}
use Rattle.mir_valid.proofs.calls.receive_counts.Given as goal

abbrev pub invariant-loop-unit : goal.invariant-loop-unit
invariant-loop-unit l = l.table ≡ table_of (receive_counts (take l.unit-index l.units))
