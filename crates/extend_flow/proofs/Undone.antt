-- What a right side is that extends a variable: it shifts back, with a sign or without, what another variable holds, a
-- shift of the variable to the left as far.
use Rattle.std.proofs.Common.{◌≡◌, ℕ, ◌⊎◌, inl, inr, Bool, true, false, if◌then◌else◌, ℤ, pos, negsuc, unsigned_abs, Option, Some, None, refl, sym, ap, ◌∙◌, subst, arith}
use Rattle.std.specs.Ordering.{int_eq}
use Rattle.std.proofs.lemmas.Int.{ints}
use Rattle.std.proofs.lemmas.Option.{same_Some}
use Rattle.mir_base.specs.declared.operators.Op.{Op}
use Rattle.mir_base.specs.declared.operators.Op.TheVariants.{Add, Sub, Mul, Div, Mod, Min, Max, Eq, Ne, Lt, Le, Gt, Ge, Shl, Shr, Shra, And, Or, Xor}
use Rattle.mir_base.specs.declared.instructions.Operand.{Operand}
use Rattle.mir_base.specs.declared.instructions.Operand.TheVariants.{Var, Const}
use Rattle.mir_base.specs.declared.instructions.Rhs.{Rhs}
use Rattle.mir_base.specs.declared.instructions.Rhs.TheVariants.{Plain, Unary, Binary}
use Rattle.extend_flow.specs.declared.shifts.Extension.{Extension}
use Rattle.extend_flow.specs.declared.shifts.LeftShift.{LeftShift}
use Rattle.extend_flow.specs.Extensions.{IsDistance, extension_back, extension_by, extension_held, extension_of, extension_on, is_distance, left_shift_of, left_shift_by, left_shift_on, signed_extension, unsigned_extension}

-- ---- shifts to the left

-- a constant distance is a natural number
distance_is : (c : ℤ) → is_distance c ≡ true → c ≡ pos (unsigned_abs c)
distance_is (pos n) far = refl
distance_is (negsuc n) far = cc

-- from 1 to 63
distance_far : (c : ℤ) → is_distance c ≡ true → IsDistance (unsigned_abs c)
distance_far c far =
    let is = distance_is c far in
    record { low = grind (arith, ints, far, is); high = grind (arith, ints, far, is) }

-- the right side is this shift
pub record IsLeftShift (rhs : Rhs) (shift : LeftShift) : Type 0 where
  pub is : rhs ≡ Binary Shl (Var shift.source) (Const (pos shift.distance))
  pub far : IsDistance shift.distance

-- an operand shifted by another
left_shift_on_is : (a b : Operand) (shift : LeftShift) → left_shift_on a b ≡ Some shift → IsLeftShift (Binary Shl a b) shift
left_shift_on_is (Const c) b shift e = cc
left_shift_on_is (Var a) (Var y) shift e = cc
left_shift_on_is (Var a) (Const c) shift e = by (is_distance c) refl e
  where
    by : (t : Bool) → is_distance c ≡ t → (if t then Some (record { source = a; distance = unsigned_abs c }) else None) ≡ Some shift
        → IsLeftShift (Binary Shl (Var a) (Const c)) shift
    by true far f =
        let same = same_Some (record { source = a; distance = unsigned_abs c }) shift f in
        subst (IsLeftShift (Binary Shl (Var a) (Const c))) same (record { is = ap (λ z. Binary Shl (Var a) (Const z)) (distance_is c far); far = distance_far c far })
    by false far f = cc

-- by any operator
left_shift_by_is : (op : Op) (a b : Operand) (shift : LeftShift) → left_shift_by op a b ≡ Some shift → IsLeftShift (Binary op a b) shift
left_shift_by_is Add a b shift e = cc
left_shift_by_is Sub a b shift e = cc
left_shift_by_is Mul a b shift e = cc
left_shift_by_is Div a b shift e = cc
left_shift_by_is Mod a b shift e = cc
left_shift_by_is Min a b shift e = cc
left_shift_by_is Max a b shift e = cc
left_shift_by_is Eq a b shift e = cc
left_shift_by_is Ne a b shift e = cc
left_shift_by_is Lt a b shift e = cc
left_shift_by_is Le a b shift e = cc
left_shift_by_is Gt a b shift e = cc
left_shift_by_is Ge a b shift e = cc
left_shift_by_is Shl a b shift e = left_shift_on_is a b shift e
left_shift_by_is Shr a b shift e = cc
left_shift_by_is Shra a b shift e = cc
left_shift_by_is And a b shift e = cc
left_shift_by_is Or a b shift e = cc
left_shift_by_is Xor a b shift e = cc

-- any right side
pub left_shift_is : (rhs : Rhs) (shift : LeftShift) → left_shift_of rhs ≡ Some shift → IsLeftShift rhs shift
left_shift_is (Plain a) shift e = cc
left_shift_is (Unary op a) shift e = cc
left_shift_is (Binary op a b) shift e = left_shift_by_is op a b shift e

-- ---- shifts back

-- the operator shifts back with the sign, or without
abbrev pub ShiftsBack : Op → LeftShift → Extension → Type 0
ShiftsBack op shift e = ((op ≡ Shra) × (signed_extension shift ≡ e)) ⊎ ((op ≡ Shr) × (unsigned_extension shift ≡ e))

-- of an operator that extends
shifts_back : (op : Op) (shift : LeftShift) (e : Extension) → extension_by op shift ≡ Some e → ShiftsBack op shift e
shifts_back Add shift e is = cc
shifts_back Sub shift e is = cc
shifts_back Mul shift e is = cc
shifts_back Div shift e is = cc
shifts_back Mod shift e is = cc
shifts_back Min shift e is = cc
shifts_back Max shift e is = cc
shifts_back Eq shift e is = cc
shifts_back Ne shift e is = cc
shifts_back Lt shift e is = cc
shifts_back Le shift e is = cc
shifts_back Gt shift e is = cc
shifts_back Ge shift e is = cc
shifts_back Shl shift e is = cc
shifts_back Shr shift e is = inr (refl, same_Some (unsigned_extension shift) e is)
shifts_back Shra shift e is = inl (refl, same_Some (signed_extension shift) e is)
shifts_back And shift e is = cc
shifts_back Or shift e is = cc
shifts_back Xor shift e is = cc

-- the source is that of the shift
pub same_source : (op : Op) (shift : LeftShift) (e : Extension) → ShiftsBack op shift e → e.source ≡ shift.source
same_source op shift e (inl back) = ap (λ (x : Extension). x.source) (sym back.1)
same_source op shift e (inr back) = ap (λ (x : Extension). x.source) (sym back.1)

-- ---- extensions

-- a right side that shifts back what a variable holds
pub record Extends (held : ℕ → Option Rhs) (rhs : Rhs) (e : Extension) : Type 0 where
  pub op : Op
  pub var : ℕ
  pub shift : LeftShift
  pub far : IsDistance shift.distance
  pub is : rhs ≡ Binary op (Var var) (Const (pos shift.distance))
  pub holds : held var ≡ Some (Binary Shl (Var shift.source) (Const (pos shift.distance)))
  pub back : ShiftsBack op shift e

-- equal numbers are found equal, and only these
eq_is : (a b : ℤ) → int_eq a b ≡ true → a ≡ b
eq_is a b h = grind (arith, ints)

module _ (held : ℕ → Option Rhs) (op : Op) (t : ℕ) (c : ℤ) (e : Extension) where
  -- by the shift to the left that the variable holds
  extends_back : (rhs : Rhs) → held t ≡ Some rhs → (o : Option LeftShift) → left_shift_of rhs ≡ o → extension_back op c o ≡ Some e
      → Extends held (Binary op (Var t) (Const c)) e
  extends_back rhs here None is back = cc
  extends_back rhs here (Some shift) is back = by (int_eq c (pos shift.distance)) refl back
    where
      by : (b : Bool) → int_eq c (pos shift.distance) ≡ b → (if b then extension_by op shift else None) ≡ Some e
          → Extends held (Binary op (Var t) (Const c)) e
      by true same f =
          let left = left_shift_is rhs shift is in
          record {
            op = op;
            var = t;
            shift = shift;
            far = left.far;
            is = ap (λ z. Binary op (Var t) (Const z)) (eq_is c (pos shift.distance) same);
            holds = here ∙ ap (λ r. Some r) left.is;
            back = shifts_back op shift e f;
          }
      by false same f = cc

  -- by the right side that it holds
  extends_held : (o : Option Rhs) → held t ≡ o → extension_held op c o ≡ Some e → Extends held (Binary op (Var t) (Const c)) e
  extends_held None here is = cc
  extends_held (Some rhs) here is = extends_back rhs here (left_shift_of rhs) refl is

-- an operator on two operands
extends_on : (held : ℕ → Option Rhs) (op : Op) (a b : Operand) (e : Extension) → extension_on held op a b ≡ Some e → Extends held (Binary op a b) e
extends_on held op (Const c) b e is = cc
extends_on held op (Var t) (Var y) e is = cc
extends_on held op (Var t) (Const c) e is = extends_held held op t c e (held t) refl is

-- any right side
pub extends : (held : ℕ → Option Rhs) (rhs : Rhs) (e : Extension) → extension_of held rhs ≡ Some e → Extends held rhs e
extends held (Plain a) e is = cc
extends held (Unary op a) e is = cc
extends held (Binary op a b) e is = extends_on held op a b e is
