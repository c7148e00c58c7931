-- Which shift a variable is at a node, by the right sides that were found. Cited by contracts of private functions.
use Rattle.std.specs.Prelude.{ℕ, Option}
use Rattle.held_assign.specs.declared.held.HeldAssigns.{HeldAssigns}
use Rattle.held_assign.specs.Rows.{held_at}
use Rattle.wanted_bits.specs.declared.picking.Shift.{Shift}
use Rattle.wanted_bits.specs.Shifts.{shift_held}

-- the shift of t at node n
abbrev pub shift_at : HeldAssigns → ℕ → ℕ → Option Shift
shift_at held n t = shift_held (held_at held n t)
