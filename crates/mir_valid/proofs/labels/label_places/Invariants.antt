use Rattle.std.proofs.Common.{◌≡◌, take}
use Rattle.mir_valid.specs.NameTables.{table_of}
use Rattle.mir_valid.specs.Numbered.{label_places}
use Rattle.mir_valid.proofs.labels.label_places.Given as goal

abbrev pub invariant-loop-label : goal.invariant-loop-label
invariant-loop-label l = l.table ≡ table_of (label_places (take l.label-index l.labels))
