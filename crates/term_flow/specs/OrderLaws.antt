-- A right side with its operands in order does what it does.
use Rattle.std.proofs.Common.{◌≡◌, ℕ, Bool, true, false, not, ◌&&◌, if◌then◌else◌, ℤ, pos, refl, sym, ap, ◌∙◌}
use Rattle.std.proofs.Math.IntN.{+ℤ_comm, *ℤ_comm}
use Rattle.std.proofs.lemmas.Bool.{and_parts}
use Rattle.std.proofs.lemmas.Nat.{and_comm, or_comm, xor_comm}
use Rattle.mir_base.specs.declared.operators.Op.{Op}
use Rattle.mir_base.specs.declared.operators.Op.TheVariants.{Add, Mul, Div, Mod, Min, Max, Eq, Ne, And, Or, Xor}
use Rattle.mir_base.specs.declared.instructions.Operand.{Operand}
use Rattle.mir_base.specs.declared.instructions.Operand.TheVariants.{Var, Const}
use Rattle.mir_base.specs.declared.instructions.Rhs.{Rhs}
use Rattle.mir_base.specs.declared.instructions.Rhs.TheVariants.{Plain, Unary, Binary}
use Rattle.mir_base.specs.Expressions.{rhs_count, rhs_traps, rhs_value}
use Rattle.mir_base.specs.Frames.{Values}
use Rattle.mir_base.specs.Numbers.{is_dividing, truth, unsigned, value_of_op, wrapped}
use Rattle.mir_base.specs.Shapes.{AllBelow, rhs_vars}
use Rattle.mir_base.specs.Units.{operand_value}
use Rattle.term_flow.specs.Orders.{commutes, in_order, is_turned}
use Rattle.term_flow.specs.NumberLaws.{eq_turned, max_turned, min_turned}
use Rattle.term_flow.specs.TermLaws.{never_traps}

-- ---- operators

-- an operator that commutes gives the same with its operands turned
turned_value : (op : Op) (a b : ℤ) → commutes op ≡ true → value_of_op op b a ≡ value_of_op op a b
turned_value Add a b e = ap wrapped (+ℤ_comm b a)
turned_value Mul a b e = ap wrapped (*ℤ_comm b a)
turned_value Min a b e = min_turned a b
turned_value Max a b e = max_turned a b
turned_value Eq a b e = ap truth (eq_turned b a)
turned_value Ne a b e = ap (λ t. truth (not t)) (eq_turned b a)
turned_value And a b e = ap (λ n. wrapped (pos n)) (and_comm (unsigned b) (unsigned a))
turned_value Or a b e = ap (λ n. wrapped (pos n)) (or_comm (unsigned b) (unsigned a))
turned_value Xor a b e = ap (λ n. wrapped (pos n)) (xor_comm (unsigned b) (unsigned a))
turned_value _ a b e = cc

-- it does not divide
undivided : (op : Op) → commutes op ≡ true → is_dividing op ≡ false
undivided Div e = cc
undivided Mod e = cc
undivided _ e = refl

-- so one that divides does not commute
pub unturned : (op : Op) → is_dividing op ≡ true → commutes op ≡ false
unturned Div e = refl
unturned Mod e = refl
unturned _ e = cc

-- ---- right sides

-- the other traps where the right side does, gives the same, and counts as many
pub record DoesAlike (values : Values) (rhs other : Rhs) : Type 0 where
  pub traps : rhs_traps values other ≡ rhs_traps values rhs
  pub value : rhs_value values other ≡ rhs_value values rhs
  pub counted : rhs_count other ≡ rhs_count rhs

-- a right side does what it does in order
pub order_alike : (values : Values) (rhs : Rhs) → DoesAlike values rhs (in_order rhs)
order_alike values (Plain a) = record { traps = refl; value = refl; counted = refl }
order_alike values (Unary op a) = record { traps = refl; value = refl; counted = refl }
order_alike values (Binary op a b) = by (commutes op && is_turned a b) refl
  where
    by : (c : Bool) → commutes op && is_turned a b ≡ c → DoesAlike values (Binary op a b) (if c then Binary op b a else Binary op a b)
    by true is =
        let free = (and_parts (commutes op) (is_turned a b) is).0 in
        let one = undivided op free in
        record {
          traps = never_traps op (operand_value values a) one ∙ sym (never_traps op (operand_value values b) one);
          value = turned_value op (operand_value values a) (operand_value values b) free;
          counted = refl;
        }
    by false is = record { traps = refl; value = refl; counted = refl }

-- ---- variables

-- the variables of two operands are below in either order
turned_below : (k : ℕ) (op : Op) (a b : Operand) → AllBelow k (rhs_vars (Binary op a b)) → AllBelow k (rhs_vars (Binary op b a))
turned_below k op (Var x) (Var y) below = (below.1.0, (below.0, tt))
turned_below k op (Var x) (Const d) below = below
turned_below k op (Const c) (Var y) below = below
turned_below k op (Const c) (Const d) below = below

-- so those of a right side in order are
pub order_below : (k : ℕ) (rhs : Rhs) → AllBelow k (rhs_vars rhs) → AllBelow k (rhs_vars (in_order rhs))
order_below k (Plain a) below = below
order_below k (Unary op a) below = below
order_below k (Binary op a b) below = by (commutes op && is_turned a b)
  where
    by : (c : Bool) → AllBelow k (rhs_vars (if c then Binary op b a else Binary op a b))
    by true = turned_below k op a b below
    by false = below
