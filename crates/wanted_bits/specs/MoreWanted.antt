-- Where more bits of a result are wanted, at least as many are of what it is made of. For proofs, and the ghost members
-- of the flow.
use Rattle.std.proofs.Common.{◌≡◌, ℕ, ◌+◌, ◌-◌, ◌≤◌, min, max, Bool, true, false, if◌then◌else◌, nat_eq, nat_lt, not, Option, Some, None, refl, sym, ap, ◌∙◌, arith, le_refl, eqb-true, true≢false}
use Rattle.std.proofs.lemmas.Bool.{ltb-false, ltb-true}
use Rattle.mir_base.specs.declared.operators.Op.{Op}
use Rattle.mir_base.specs.declared.operators.Op.TheVariants.{Add, Sub, Mul, Div, Mod, Shl, Shr, Shra, And, Or, Xor}
use Rattle.mir_base.specs.declared.operators.UnOp.TheVariants.{Neg, Not}
use Rattle.mir_base.specs.declared.instructions.Operand.{Operand}
use Rattle.mir_base.specs.declared.instructions.Operand.TheVariants.{Var, Const}
use Rattle.mir_base.specs.declared.instructions.Rhs.{Rhs}
use Rattle.mir_base.specs.declared.instructions.Rhs.TheVariants.{Plain, Unary, Binary}
use Rattle.mir_base.specs.Numbers.{wrapped, distance}
use Rattle.wanted_bits.specs.declared.picking.Shift.{Shift}
use Rattle.wanted_bits.specs.Wanted.{if_any, shifted_back, wanted_by, wanted_left, wanted_of, wanted_past, wanted_rhs, wanted_right, wanted_shl, wanted_shr}

-- where any bit is wanted
more_any : (k m b c : ℕ) → k ≤ m → b ≤ c → if_any k b ≤ if_any m c
more_any k m b c le low = by (nat_eq k 0) (nat_eq m 0) refl refl
  where
    by : (t u : Bool) → nat_eq k 0 ≡ t → nat_eq m 0 ≡ u → (if t then 0 else b) ≤ (if u then 0 else c)
    by true u e f = omega arith
    by false false e f = low
    by false true e f =
        let none = eqb-true m 0 f in
        let k_is : k ≡ 0 = omega (arith, none, le) in
        absurd (true≢false (sym (ap (λ n. nat_eq n 0) k_is) ∙ e))

module _ (k m : ℕ) (le : k ≤ m) where
  -- shifts
  more_shl : (b : Operand) → wanted_shl b k ≤ wanted_shl b m
  more_shl (Var y) = le
  more_shl (Const c) = omega (arith, le)

  more_shr : (b : Operand) → wanted_shr b k ≤ wanted_shr b m
  more_shr (Var y) = more_any k m 64 64 le (le_refl 64)
  more_shr (Const c) = more_any k m (min 64 (k + distance (wrapped c))) (min 64 (m + distance (wrapped c))) le (omega (arith, le))

  -- the left operand
  more_left : (op : Op) (b : Operand) → wanted_left op b k ≤ wanted_left op b m
  more_left Add b = le
  more_left Sub b = le
  more_left Mul b = le
  more_left And b = omega (arith, le)
  more_left Or b = le
  more_left Xor b = le
  more_left Shl b = more_shl b
  more_left Shr b = more_shr b
  more_left Shra b = more_shr b
  more_left _ b = more_any k m 64 64 le (le_refl 64)

  -- the right operand
  more_right : (op : Op) (a : Operand) → wanted_right op a k ≤ wanted_right op a m
  more_right Add a = le
  more_right Sub a = le
  more_right Mul a = le
  more_right And a = omega (arith, le)
  more_right Or a = le
  more_right Xor a = le
  more_right Shl a = more_any k m 6 6 le (le_refl 6)
  more_right Shr a = more_any k m 6 6 le (le_refl 6)
  more_right Shra a = more_any k m 6 6 le (le_refl 6)
  more_right Div a = le_refl 64
  more_right Mod a = le_refl 64
  more_right _ a = more_any k m 64 64 le (le_refl 64)

-- an operand
more_of : (a : Operand) (b c x : ℕ) → b ≤ c → wanted_of a b x ≤ wanted_of a c x
more_of (Var y) b c x le = by (nat_eq x y)
  where
    by : (t : Bool) → (if t then b else 0) ≤ (if t then c else 0)
    by true = le
    by false = le_refl 0
more_of (Const d) b c x le = le_refl 0

-- a right side
more_by : (rhs : Rhs) (k m x : ℕ) → k ≤ m → wanted_by rhs k x ≤ wanted_by rhs m x
more_by (Plain a) k m x le = more_of a k m x le
more_by (Unary Neg a) k m x le = more_of a k m x le
more_by (Unary Not a) k m x le = more_of a (if_any k 64) (if_any m 64) x (more_any k m 64 64 le (le_refl 64))
more_by (Binary op a b) k m x le =
    let left = more_of a (wanted_left op b k) (wanted_left op b m) x (more_left k m le op b) in
    let right = more_of b (wanted_right op a k) (wanted_right op a m) x (more_right k m le op a) in
    omega (arith, left, right)

-- also where it shifts back
pub more_past : (o : Option Shift) (rhs : Rhs) (k m x : ℕ) → k ≤ m → wanted_past o rhs k x ≤ wanted_past o rhs m x
more_past None rhs k m x le = more_by rhs k m x le
more_past (Some shift) rhs k m x le = by (nat_lt 64 (k + shift.distance)) (nat_lt 64 (m + shift.distance)) refl refl
  where
    s : ℕ → ℕ
    s n = wanted_of (Var shift.source) (min n (64 - shift.distance)) x

    by : (t u : Bool) → nat_lt 64 (k + shift.distance) ≡ t → nat_lt 64 (m + shift.distance) ≡ u
        → max (wanted_of (Var shift.source) (min k (64 - shift.distance)) x) (if not t then 0 else wanted_by rhs k x) ≤ max (wanted_of (Var shift.source) (min m (64 - shift.distance)) x) (if not u then 0 else wanted_by rhs m x)
    by true true e f =
        let source = more_of (Var shift.source) (min k (64 - shift.distance)) (min m (64 - shift.distance)) x (omega (arith, le)) in
        omega (arith, source, more_by rhs k m x le)
    by true false e f =
        let far = ltb-true 64 (k + shift.distance) e in
        let near = ltb-false 64 (m + shift.distance) f in
        absurd (omega (arith, far, near, le))
    by false u e f =
        let source = more_of (Var shift.source) (min k (64 - shift.distance)) (min m (64 - shift.distance)) x (omega (arith, le)) in
        omega (arith, source)

-- so more bits of a variable behind a node want at least as many before it
pub more_rhs : (shifts : ℕ → Option Shift) (rhs : Rhs) (k m x : ℕ) → k ≤ m → wanted_rhs shifts rhs k x ≤ wanted_rhs shifts rhs m x
more_rhs shifts rhs k m x le = more_past (shifted_back shifts rhs) rhs k m x le

-- ---- at most 64

-- where any bit is wanted
most_any : (k b : ℕ) → b ≤ 64 → if_any k b ≤ 64
most_any k b le = by (nat_eq k 0)
  where
    by : (t : Bool) → (if t then 0 else b) ≤ 64
    by true = omega arith
    by false = le

module _ (k : ℕ) (le : k ≤ 64) where
  most_shl : (b : Operand) → wanted_shl b k ≤ 64
  most_shl (Var y) = le
  most_shl (Const c) = omega (arith, le)

  most_shr : (b : Operand) → wanted_shr b k ≤ 64
  most_shr (Var y) = most_any k 64 (le_refl 64)
  most_shr (Const c) = most_any k (min 64 (k + distance (wrapped c))) (omega arith)

  most_left : (op : Op) (b : Operand) → wanted_left op b k ≤ 64
  most_left Add b = le
  most_left Sub b = le
  most_left Mul b = le
  most_left And b = omega (arith, le)
  most_left Or b = le
  most_left Xor b = le
  most_left Shl b = most_shl b
  most_left Shr b = most_shr b
  most_left Shra b = most_shr b
  most_left _ b = most_any k 64 (le_refl 64)

  most_right : (op : Op) (a : Operand) → wanted_right op a k ≤ 64
  most_right Add a = le
  most_right Sub a = le
  most_right Mul a = le
  most_right And a = omega (arith, le)
  most_right Or a = le
  most_right Xor a = le
  most_right Shl a = most_any k 6 (omega arith)
  most_right Shr a = most_any k 6 (omega arith)
  most_right Shra a = most_any k 6 (omega arith)
  most_right Div a = le_refl 64
  most_right Mod a = le_refl 64
  most_right _ a = most_any k 64 (le_refl 64)

-- of an operand
most_of : (a : Operand) (b x : ℕ) → b ≤ 64 → wanted_of a b x ≤ 64
most_of (Var y) b x le = by (nat_eq x y)
  where
    by : (t : Bool) → (if t then b else 0) ≤ 64
    by true = le
    by false = omega arith
most_of (Const d) b x le = omega arith

-- by a right side
most_by : (rhs : Rhs) (k x : ℕ) → k ≤ 64 → wanted_by rhs k x ≤ 64
most_by (Plain a) k x le = most_of a k x le
most_by (Unary Neg a) k x le = most_of a k x le
most_by (Unary Not a) k x le = most_of a (if_any k 64) x (most_any k 64 (le_refl 64))
most_by (Binary op a b) k x le = omega (arith, most_of a (wanted_left op b k) x (most_left k le op b), most_of b (wanted_right op a k) x (most_right k le op a))

-- of at most 64 bits at most 64 are wanted
pub most_past : (o : Option Shift) (rhs : Rhs) (k x : ℕ) → k ≤ 64 → wanted_past o rhs k x ≤ 64
most_past None rhs k x le = most_by rhs k x le
most_past (Some shift) rhs k x le = far (nat_lt 64 (k + shift.distance))
  where
    far : (t : Bool) → max (wanted_of (Var shift.source) (min k (64 - shift.distance)) x) (if not t then 0 else wanted_by rhs k x) ≤ 64
    far true = omega (arith, most_of (Var shift.source) (min k (64 - shift.distance)) x (omega arith), most_by rhs k x le)
    far false = omega (arith, most_of (Var shift.source) (min k (64 - shift.distance)) x (omega arith))

-- also by the shifts that hold
pub most_rhs : (shifts : ℕ → Option Shift) (rhs : Rhs) (k x : ℕ) → k ≤ 64 → wanted_rhs shifts rhs k x ≤ 64
most_rhs shifts rhs k x le = most_past (shifted_back shifts rhs) rhs k x le
