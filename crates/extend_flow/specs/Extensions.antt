-- Which right sides extend a variable, and the numbers that the extension keeps. Cited by contracts.
use Rattle.std.specs.Prelude.{ℕ, ◌-◌, ◌^◌, ◌≤◌, Bool, ◌&&◌, if◌then◌else◌, ℤ, pos, neg_ℤ, int_le, unsigned_abs, Option, Some, None}
use Rattle.std.specs.Option.{is_some}
use Rattle.std.specs.Ordering.{int_eq}
use Rattle.mir_base.specs.declared.operators.Op.{Op}
use Rattle.mir_base.specs.declared.operators.Op.TheVariants.{Shl, Shr, Shra}
use Rattle.mir_base.specs.declared.instructions.Operand.{Operand}
use Rattle.mir_base.specs.declared.instructions.Operand.TheVariants.{Var, Const}
use Rattle.mir_base.specs.declared.instructions.Rhs.{Rhs}
use Rattle.mir_base.specs.declared.instructions.Rhs.TheVariants.{Plain, Unary, Binary}
use Rattle.bounds.specs.declared.facts.Fact.{Fact}
use Rattle.bounds.specs.Facts.{high_of, low_of}
use Rattle.extend_flow.specs.declared.shifts.Extension.{Extension}
use Rattle.extend_flow.specs.declared.shifts.LeftShift.{LeftShift}

-- ---- shifts to the left

-- a constant distance that moves bits and does not wrap
abbrev pub is_distance : ℤ → Bool
is_distance c = int_le (pos 1) c && int_le c (pos 63)

-- such a distance of a shift
pub record IsDistance (distance : ℕ) : Type 0 where
  pub low : 1 ≤ distance
  pub high : distance ≤ 63

-- an operand shifted by another, where the first is a variable and the second such a constant
abbrev pub left_shift_on : Operand → Operand → Option LeftShift
left_shift_on (Const c) b = None
left_shift_on (Var a) (Var y) = None
left_shift_on (Var a) (Const c) =
    if is_distance c then Some (record { source = a; distance = unsigned_abs c }) else None

-- the same where the operator shifts to the left
abbrev pub left_shift_by : Op → Operand → Operand → Option LeftShift
left_shift_by Shl a b = left_shift_on a b
left_shift_by _ a b = None

-- the shift to the left that a right side is
abbrev pub left_shift_of : Rhs → Option LeftShift
left_shift_of (Plain a) = None
left_shift_of (Unary op a) = None
left_shift_of (Binary op a b) = left_shift_by op a b

-- the right side is a shift of a variable to the left by such a constant
abbrev pub shifts_variable : Rhs → Bool
shifts_variable rhs = is_some (left_shift_of rhs)

-- ---- extensions, where `held` tells for each variable the shift to the left that it holds

-- a shift to the left and as far back, with the sign: it keeps the numbers of the bits that are left, with a sign
abbrev pub signed_extension : LeftShift → Extension
signed_extension shift = record {
  source = shift.source;
  low = neg_ℤ (pos (2 ^ (63 - shift.distance)));
  high = pos (2 ^ (63 - shift.distance) - 1);
}

-- the same without a sign
abbrev pub unsigned_extension : LeftShift → Extension
unsigned_extension shift = record {
  source = shift.source;
  low = pos 0;
  high = pos (2 ^ (64 - shift.distance) - 1);
}

-- the extension that an operator makes of a shift to the left, where it shifts back
abbrev pub extension_by : Op → LeftShift → Option Extension
extension_by Shra shift = Some (signed_extension shift)
extension_by Shr shift = Some (unsigned_extension shift)
extension_by _ shift = None

-- the same by a distance, which has to be that of the shift to the left
abbrev pub extension_back : Op → ℤ → Option LeftShift → Option Extension
extension_back op c None = None
extension_back op c (Some shift) =
    if int_eq c (pos shift.distance) then extension_by op shift else None

-- the same by the right side that the variable holds which is shifted back
abbrev pub extension_held : Op → ℤ → Option Rhs → Option Extension
extension_held op c None = None
extension_held op c (Some rhs) = extension_back op c (left_shift_of rhs)

-- the extension that an operator on two operands is
abbrev pub extension_on : (ℕ → Option Rhs) → Op → Operand → Operand → Option Extension
extension_on held op (Const c) b = None
extension_on held op (Var t) (Var y) = None
extension_on held op (Var t) (Const c) = extension_held op c (held t)

-- the extension that a right side is
abbrev pub extension_of : (ℕ → Option Rhs) → Rhs → Option Extension
extension_of held (Plain a) = None
extension_of held (Unary op a) = None
extension_of held (Binary op a b) = extension_on held op a b

-- ---- what is kept

-- all numbers of which the fact holds lie from the one number to the other
abbrev pub lies_between : ℤ → ℤ → Fact → Bool
lies_between low high fact = int_le low (low_of fact) && int_le (high_of fact) high

-- the extension keeps all these
abbrev pub keeps_all : Extension → Fact → Bool
keeps_all e fact = lies_between e.low e.high fact
