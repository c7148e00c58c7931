use Rattle.std.proofs.Common.{◌≡◌, Some, map, take}
use Rattle.bit_rows.specs.Bits.{AreEquallyLong}
use Rattle.key_rows.specs.KeyRows.{assigned_row}
use Rattle.key_rows.proofs.assigned.assigned_rows.Given as goal

abbrev pub invariant-loop-node : goal.invariant-loop-node
invariant-loop-node l = record {
  are : l.rows ≡ map (λ node. assigned_row l.at_start l.shared l.by_var l.bits (Some node)) (take l.node-index l.nodes);
  long : AreEquallyLong l.bits l.rows;
}
