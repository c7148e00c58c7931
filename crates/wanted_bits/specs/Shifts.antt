-- Shifts to the left: after `t <- y shl c` the variable t is y shifted, as long as neither is assigned. Only constants c
-- from 0 to 63 are looked at, as they are written. Cited by contracts.
use Rattle.std.specs.Prelude.{◌≡◌, ℕ, Bool, ◌&&◌, if◌then◌else◌, ℤ, pos, int_le, Option, Some, None}
use Rattle.std.specs.Option.{is_some}
use Rattle.mir_base.specs.declared.operators.Op.{Op}
use Rattle.mir_base.specs.declared.operators.Op.TheVariants.{Shl}
use Rattle.mir_base.specs.declared.instructions.Operand.{Operand}
use Rattle.mir_base.specs.declared.instructions.Operand.TheVariants.{Var, Const}
use Rattle.mir_base.specs.declared.instructions.Rhs.{Rhs}
use Rattle.mir_base.specs.declared.instructions.Rhs.TheVariants.{Plain, Unary, Binary}
use Rattle.mir_base.specs.Numbers.{distance, wrapped}
use Rattle.flow_graph.specs.Graphs.{GraphShape}
use Rattle.held_assign.specs.Holding.{IsHeld}
use Rattle.wanted_bits.specs.declared.picking.Shift.{Shift}

-- a constant that is a distance as it is written
abbrev pub is_written : ℤ → Bool
is_written c = int_le (pos 0) c && int_le c (pos 63)

-- an operand shifted by another, where the first is a variable and the second such a constant
abbrev pub shift_on : Operand → Operand → Option Shift
shift_on (Const c) b = None
shift_on (Var y) (Var z) = None
shift_on (Var y) (Const c) =
    if is_written c then Some (record { source = y; distance = distance (wrapped c) }) else None

-- the same where the operator shifts to the left
abbrev pub shift_with : Op → Operand → Operand → Option Shift
shift_with Shl a b = shift_on a b
shift_with _ a b = None

-- the shift that a right side is
abbrev pub shift_of : Rhs → Option Shift
shift_of (Plain a) = None
shift_of (Unary op a) = None
shift_of (Binary op a b) = shift_with op a b

-- the right side is a shift
abbrev pub shifts_left : Rhs → Bool
shifts_left rhs = is_some (shift_of rhs)

-- the shift that a variable is which holds this right side
abbrev pub shift_held : Option Rhs → Option Shift
shift_held None = None
shift_held (Some rhs) = shift_of rhs

-- t is this shift at node n: a right side that is the shift holds for t before it. So the source is another variable than
-- t, node n is reached, and on every path from Start to it there is, before n, a node that assigns this right side to t,
-- after which, before n, no node assigns t or the source
pub record IsShiftedAt (graph : GraphShape) (t : ℕ) (shift : Shift) (n : ℕ) : Type 0 where
  pub rhs : Rhs
  pub is : shift_of rhs ≡ Some shift
  pub holds : IsHeld graph t rhs n
