use Rattle.std.proofs.Common.{◌≡◌, ℕ, ◌<◌, ◌≤◌, length, slice_get, Some, false}
use Rattle.path_laws.specs.Paths.{AreRows, has_bit}
use Rattle.held_assign.specs.declared.table.Assignment.{Assignment}
use Rattle.held_assign.specs.Rows.{has_source}
use Rattle.held_assign.proofs.rows.source_rows.Given as goal

abbrev pub invariant-loop-number : goal.invariant-loop-number
invariant-loop-number l = record {
  shape : AreRows l.vars (length l.table) l.rows;
  done : (x i : ℕ) (a : Assignment) → x < l.vars → i < l.number → slice_get l.table i ≡ Some a → has_bit l.rows i x ≡ has_source a x;
  later : (x i : ℕ) → x < l.vars → l.number ≤ i → has_bit l.rows i x ≡ false;
}
