-- When two expressions are equal as written, as a test that computes, when a right side is an expression, and that the
-- test is equality. Cited by contracts.
use Rattle.std.specs.Ordering.{int_eq}
use Rattle.std.proofs.Common.{◌≡◌, ℕ, Bool, true, false, ◌&&◌, ◌↔◌, List, [], ◌∷◌, slice_index_or, Option, None, Some, inl, inr, refl, sym, ap, ◌∙◌}
use Rattle.std.specs.Prelude.{nat_eq}
use Rattle.std.proofs.lemmas.Bool.{cases_Bool, and_parts, and_from, eqb-true, eq-eqb, false≢true}
use Rattle.std.proofs.lemmas.Bool.Decides.{Decides-int_eq}
use Rattle.std.proofs.lemmas.Option.{same_Some}
use Rattle.mir_base.specs.declared.operators.Op.{Op}
use Rattle.mir_base.specs.declared.operators.Op.TheVariants.{Add, Sub, Mul, Div, Mod, Min, Max, Eq, Ne, Lt, Le, Gt, Ge, Shl, Shr, Shra, And, Or, Xor}
use Rattle.mir_base.specs.declared.operators.UnOp.{UnOp}
use Rattle.mir_base.specs.declared.operators.UnOp.TheVariants.{Neg, Not}
use Rattle.mir_base.specs.declared.instructions.Operand.{Operand}
use Rattle.mir_base.specs.declared.instructions.Operand.TheVariants.{Var, Const}
use Rattle.mir_base.specs.declared.instructions.Rhs.{Rhs}
use Rattle.mir_base.specs.declared.instructions.Rhs.TheVariants.{Plain, Unary, Binary}
use Rattle.mir_base.specs.declared.instructions.Expr.{Expr}
use Rattle.mir_base.specs.declared.instructions.Expr.TheVariants.{Un, Bin}
use Rattle.mir_base.specs.ExpressionVars.{rhs_of, written_expr}

-- ---- the test

-- the operator as a number
abbrev pub op_number : Op → ℕ
op_number Add = 0
op_number Sub = 1
op_number Mul = 2
op_number Div = 3
op_number Mod = 4
op_number Min = 5
op_number Max = 6
op_number Eq = 7
op_number Ne = 8
op_number Lt = 9
op_number Le = 10
op_number Gt = 11
op_number Ge = 12
op_number Shl = 13
op_number Shr = 14
op_number Shra = 15
op_number And = 16
op_number Or = 17
op_number Xor = 18

-- the unary operator as a number
abbrev pub un_op_number : UnOp → ℕ
un_op_number Neg = 0
un_op_number Not = 1

-- the same variable, or the same constant
abbrev pub same_operand : Operand → Operand → Bool
same_operand (Var x) (Var y) = nat_eq x y
same_operand (Var x) (Const d) = false
same_operand (Const c) (Var y) = false
same_operand (Const c) (Const d) = int_eq c d

-- the two are equal, as written
abbrev pub same_expr : Expr → Expr → Bool
same_expr (Un op a) (Un op' a') = nat_eq (un_op_number op) (un_op_number op') && same_operand a a'
same_expr (Un op a) (Bin op' a' b') = false
same_expr (Bin op a b) (Un op' a') = false
same_expr (Bin op a b) (Bin op' a' b') =
    nat_eq (op_number op) (op_number op') && same_operand a a' && same_operand b b'

-- the right side, where there is one, is this expression
abbrev pub is_expr : Expr → Option Rhs → Bool
is_expr e None = false
is_expr e (Some (Plain a)) = false
is_expr e (Some (Unary op a)) = same_expr e (Un op a)
is_expr e (Some (Binary op a b)) = same_expr e (Bin op a b)

-- ---- that it is equality

-- all operators, by their numbers
abbrev ops : List Op
ops = Add ∷ Sub ∷ Mul ∷ Div ∷ Mod ∷ Min ∷ Max ∷ Eq ∷ Ne ∷ Lt ∷ Le ∷ Gt ∷ Ge ∷ Shl ∷ Shr ∷ Shra ∷ And
    ∷ Or ∷ Xor ∷ []

-- the table of operators, read at an operator's number, gives it back
op_back : (op : Op) → slice_index_or ops (op_number op) Add ≡ op
op_back Add = refl
op_back Sub = refl
op_back Mul = refl
op_back Div = refl
op_back Mod = refl
op_back Min = refl
op_back Max = refl
op_back Eq = refl
op_back Ne = refl
op_back Lt = refl
op_back Le = refl
op_back Gt = refl
op_back Ge = refl
op_back Shl = refl
op_back Shr = refl
op_back Shra = refl
op_back And = refl
op_back Or = refl
op_back Xor = refl

-- so equal numbers are of equal operators
same_op : (op op' : Op) → op_number op ≡ op_number op' → op ≡ op'
same_op op op' e = sym (op_back op) ∙ ap (λ n. slice_index_or ops n Add) e ∙ op_back op'

-- the same table for operators of one operand
un_op_back : (op : UnOp) → slice_index_or (Neg ∷ Not ∷ []) (un_op_number op) Neg ≡ op
un_op_back Neg = refl
un_op_back Not = refl

-- so equal numbers are of equal ones here too
same_un_op : (op op' : UnOp) → un_op_number op ≡ un_op_number op' → op ≡ op'
same_un_op op op' e = sym (un_op_back op) ∙ ap (λ n. slice_index_or (Neg ∷ Not ∷ []) n Neg) e ∙ un_op_back op'

-- operands that compare as equal are equal
operand_is : (a b : Operand) → same_operand a b ≡ true → a ≡ b
operand_is (Var x) (Var y) e = ap Var (eqb-true x y e)
operand_is (Var x) (Const d) e = absurd (false≢true e)
operand_is (Const c) (Var y) e = absurd (false≢true e)
operand_is (Const c) (Const d) e = ap Const ((Decides-int_eq c d).0 e)

-- and each compares as equal to itself
operand_itself : (a : Operand) → same_operand a a ≡ true
operand_itself (Var x) = eq-eqb x x refl
operand_itself (Const c) = (Decides-int_eq c c).1 refl

-- expressions that pass the test are equal
pub expr_is : (e e' : Expr) → same_expr e e' ≡ true → e ≡ e'
expr_is (Un op a) (Un op' a') is =
    let parts = and_parts (nat_eq (un_op_number op) (un_op_number op')) (same_operand a a') is in
    ap (λ o. Un o a) (same_un_op op op' (eqb-true (un_op_number op) (un_op_number op') parts.0)) ∙ ap (Un op')
    (operand_is a a' parts.1)
expr_is (Un op a) (Bin op' a' b') is = absurd (false≢true is)
expr_is (Bin op a b) (Un op' a') is = absurd (false≢true is)
expr_is (Bin op a b) (Bin op' a' b') is =
    let parts = and_parts (nat_eq (op_number op) (op_number op') && same_operand a a') (same_operand b b') is in
    let firsts = and_parts (nat_eq (op_number op) (op_number op')) (same_operand a a') parts.0 in
    ap (λ o. Bin o a b) (same_op op op' (eqb-true (op_number op) (op_number op') firsts.0))
    ∙ ap (λ o. Bin op' o b) (operand_is a a' firsts.1)
    ∙ ap (Bin op' a') (operand_is b b' parts.1)

-- each expression passes it with itself
pub expr_itself : (e : Expr) → same_expr e e ≡ true
expr_itself (Un op a) =
    and_from (nat_eq (un_op_number op) (un_op_number op)) (same_operand a a)
    (eq-eqb (un_op_number op) (un_op_number op) refl) (operand_itself a)
expr_itself (Bin op a b) =
    and_from (nat_eq (op_number op) (op_number op) && same_operand a a) (same_operand b b)
    (and_from (nat_eq (op_number op) (op_number op)) (same_operand a a) (eq-eqb (op_number op) (op_number op) refl)
    (operand_itself a))
    (operand_itself b)

-- different ones fail it
pub expr_differs : (e e' : Expr) → (e ≡ e' → ⊥) → same_expr e e' ≡ false
expr_differs e e' ne =
    elim (cases_Bool (same_expr e e')) [ inl is ↦ absurd (ne (expr_is e e' is)) | inr differ ↦ differ ]

-- ---- right sides

-- the test of the right side of an expression is that of the expression
pub of_rhs : (e e' : Expr) → is_expr e (Some (rhs_of e')) ≡ same_expr e e'
of_rhs e (Un op a) = refl
of_rhs e (Bin op a b) = refl

-- a right side that passes the test for an expression is that of the expression
pub rhs_is : (e : Expr) (rhs : Rhs) → is_expr e (Some rhs) ≡ true → rhs ≡ rhs_of e
rhs_is e (Plain a) is = absurd (false≢true is)
rhs_is e (Unary op a) is = ap rhs_of (sym (expr_is e (Un op a) is))
rhs_is e (Binary op a b) is = ap rhs_of (sym (expr_is e (Bin op a b) is))

-- a right side passes the test for an expression exactly where this expression is written there
pub is_written : (e : Expr) (rhs : Option Rhs) → (is_expr e rhs ≡ true) ↔ (written_expr rhs ≡ Some e)
is_written e None = (λ h. cc, λ h. cc)
is_written e (Some (Plain a)) = (λ h. cc, λ h. cc)
is_written e (Some (Unary op a)) =
    (λ h. ap Some (sym (expr_is e (Un op a) h)), λ h. ap (same_expr e) (same_Some (Un op a) e h) ∙ expr_itself e)
is_written e (Some (Binary op a b)) =
    (λ h. ap Some (sym (expr_is e (Bin op a b) h)), λ h. ap (same_expr e) (same_Some (Bin op a b) e h) ∙ expr_itself e)
