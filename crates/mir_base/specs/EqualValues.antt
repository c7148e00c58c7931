-- What is read has the same value on two sides where the variables that are read have, and what an assignment changes.
-- `EqualOn` is cited by a contract; the laws are for proofs only, of the crates above too.
use Rattle.std.proofs.Common.{◌≡◌, ℕ, ℤ, ◌<◌, not, if◌then◌else◌, List, [], ◌∷◌, ◌++◌, map, flat_map, pos, refl, sym, ap, subst, ◌∙◌}
use Rattle.std.specs.Ordering.{int_eq}
use Rattle.std.proofs.lemmas.Bool.{eq-eqb, ne_eqb}
use Rattle.mir_base.specs.declared.instructions.Operand.{Operand}
use Rattle.mir_base.specs.declared.instructions.Operand.TheVariants.{Var, Const}
use Rattle.mir_base.specs.declared.instructions.Rhs.{Rhs}
use Rattle.mir_base.specs.declared.instructions.Rhs.TheVariants.{Plain, Unary, Binary}
use Rattle.mir_base.specs.declared.instructions.Test.{Test}
use Rattle.mir_base.specs.declared.instructions.Expr.{Expr}
use Rattle.mir_base.specs.declared.instructions.Test.TheVariants.{Rel, Holds, Fails}
use Rattle.mir_base.specs.Numbers.{relation_holds, value_of_op, value_of_un_op, traps}
use Rattle.mir_base.specs.ExpressionVars.{expr_vars, rhs_of, rhs_of_vars}
use Rattle.mir_base.specs.Frames.{Values, with_value}
use Rattle.mir_base.specs.Units.{operand_value, test_holds}
use Rattle.mir_base.specs.Shapes.{AllBelow, operand_vars, rhs_vars, test_vars}
use Rattle.mir_base.specs.Expressions.{rhs_traps, rhs_value}

-- these variables have equal values
abbrev pub EqualOn : List ℕ → Values → Values → Type 0
EqualOn [] v w = Unit {0}
EqualOn (x ∷ xs) v w = (v x ≡ w x) × EqualOn xs v w

-- of the first part of a joined list
pub equal_left : (xs ys : List ℕ) (v w : Values) → EqualOn (xs ++ ys) v w → EqualOn xs v w
equal_left [] ys v w equal = tt
equal_left (x ∷ xs) ys v w equal = (equal.0, equal_left xs ys v w equal.1)

-- of the second part
pub equal_right : (xs ys : List ℕ) (v w : Values) → EqualOn (xs ++ ys) v w → EqualOn ys v w
equal_right [] ys v w equal = equal
equal_right (x ∷ xs) ys v w equal = equal_right xs ys v w equal.1

-- so it is where all variables below some number have
pub equal_below : (m : ℕ) (xs : List ℕ) (v w : Values) → AllBelow m xs → ((x : ℕ) → x < m → v x ≡ w x) → EqualOn xs v w
equal_below m [] v w below equal = tt
equal_below m (x ∷ xs) v w below equal = (equal x below.0, equal_below m xs v w below.1 equal)

module _ (v w : Values) where
  -- operands, right sides, traps and tests that read these variables alone
  pub operand_equal : (a : Operand) → EqualOn (operand_vars a) v w → operand_value v a ≡ operand_value w a
  operand_equal (Var x) equal = equal.0
  operand_equal (Const c) equal = refl

  pub operands_equal : (operands : List Operand) → EqualOn (flat_map operand_vars operands) v w
      → map (operand_value v) operands ≡ map (operand_value w) operands
  operands_equal [] equal = refl
  operands_equal (a ∷ operands) equal =
      ap (λ u. u ∷ map (operand_value v) operands) (operand_equal a (equal_left (operand_vars a) (flat_map operand_vars operands) v w equal))
      ∙ ap (λ l. operand_value w a ∷ l) (operands_equal operands (equal_right (operand_vars a) (flat_map operand_vars operands) v w equal))

  pub rhs_equal : (rhs : Rhs) → EqualOn (rhs_vars rhs) v w → rhs_value v rhs ≡ rhs_value w rhs
  rhs_equal (Plain a) equal = operand_equal a equal
  rhs_equal (Unary op a) equal = ap (value_of_un_op op) (operand_equal a equal)
  rhs_equal (Binary op a b) equal =
      ap (λ u. value_of_op op u (operand_value v b)) (operand_equal a (equal_left (operand_vars a) (operand_vars b) v w equal))
      ∙ ap (value_of_op op (operand_value w a)) (operand_equal b (equal_right (operand_vars a) (operand_vars b) v w equal))

  pub traps_equal : (rhs : Rhs) → EqualOn (rhs_vars rhs) v w → rhs_traps v rhs ≡ rhs_traps w rhs
  traps_equal (Plain a) equal = refl
  traps_equal (Unary op a) equal = refl
  traps_equal (Binary op a b) equal = ap (traps op) (operand_equal b (equal_right (operand_vars a) (operand_vars b) v w equal))

  pub test_equal : (test : Test) → EqualOn (test_vars test) v w → test_holds v test ≡ test_holds w test
  test_equal (Rel op a b) equal =
      ap (λ u. relation_holds op u (operand_value v b)) (operand_equal a (equal_left (operand_vars a) (operand_vars b) v w equal))
      ∙ ap (relation_holds op (operand_value w a)) (operand_equal b (equal_right (operand_vars a) (operand_vars b) v w equal))
  test_equal (Holds a) equal = ap (λ u. not (int_eq u (pos 0))) (operand_equal a equal)
  test_equal (Fails a) equal = ap (λ u. int_eq u (pos 0)) (operand_equal a equal)

-- ---- expressions, and a variable that gets a value

-- the value of an expression
abbrev pub value : Values → Expr → ℤ
value values e = rhs_value values (rhs_of e)

-- an expression has the same value where its variables have
pub value_equal : (e : Expr) (v w : Values) → EqualOn (expr_vars e) v w → value v e ≡ value w e
value_equal e v w equal = rhs_equal v w (rhs_of e) (subst (λ l. EqualOn l v w) (sym (rhs_of_vars e)) equal)

-- where x gets a value, every other variable has the value that it had
pub with_other : (x y : ℕ) (c : ℤ) (values : Values) → (y ≡ x → ⊥) → with_value x c values y ≡ values y
with_other x y c values ne = ap (λ b. if b then c else values y) (ne_eqb y x ne)

-- and x has the new one
pub with_same : (x : ℕ) (c : ℤ) (values : Values) → with_value x c values x ≡ c
with_same x c values = ap (λ b. if b then c else values x) (eq-eqb x x refl)
