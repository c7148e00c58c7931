use Rattle.std.proofs.Common.{◌≡◌, ◌++◌}
use Rattle.key_table.proofs.tables.KeyTable.of.Given as goal

abbrev pub invariant-loop-key : goal.invariant-loop-key
invariant-loop-key g l = l.table ++ l.key-iterator.rest.items ≡ l.fn.keys.items
