use Rattle.std.proofs.Common.{◌≡◌, take}
use Rattle.mir_valid.specs.NameTables.{table_of, global_lines}
use Rattle.mir_valid.proofs.globals.global_lines.Given as goal

abbrev pub invariant-loop-global : goal.invariant-loop-global
invariant-loop-global l = l.table ≡ table_of (global_lines (take l.global-index l.globals))
