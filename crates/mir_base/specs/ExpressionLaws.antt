-- An assignment by its trap, its value and its count, right sides that never trap, and the expression of a movable one.
-- For proofs only.
use Rattle.std.proofs.Common.{◌≡◌, ℕ, Bool, true, false, not, if◌then◌else◌, ◌++◌, Some, None, refl, ap, sym, ◌∙◌}
use Rattle.std.proofs.Math.Bool.{and-true}
use Rattle.std.proofs.lemmas.Bool.{not-true}
use Rattle.mir_base.specs.declared.operators.Trap.TheVariants.{ZeroDivisor}
use Rattle.mir_base.specs.declared.instructions.Operand.TheVariants.{Var, Const}
use Rattle.mir_base.specs.declared.instructions.Rhs.{Rhs}
use Rattle.mir_base.specs.declared.instructions.Rhs.TheVariants.{Plain, Unary, Binary}
use Rattle.mir_base.specs.declared.instructions.Expr.{Expr}
use Rattle.mir_base.specs.declared.instructions.Expr.TheVariants.{Un, Bin}
use Rattle.mir_base.specs.Numbers.{is_dividing}
use Rattle.mir_base.specs.Frames.{Values, Frame, Continues, Traps}
use Rattle.mir_base.specs.Units.{assigned, assign_transition}
use Rattle.mir_base.specs.ExpressionVars.{expr_vars, rhs_of}
use Rattle.mir_base.specs.Expressions.{divides, expr_of, is_movable, rhs_traps, rhs_value, rhs_count}
use Rattle.mir_base.specs.Shapes.{operand_vars, rhs_vars}

-- an assignment traps where its right side does, and else counts and assigns what that gives
pub assign_is : (x : ℕ) (rhs : Rhs) (place : ℕ) (frame : Frame)
    → assign_transition x rhs place frame ≡ (if rhs_traps frame.values rhs then Traps ZeroDivisor 1 else Continues (rhs_count rhs) (assigned x (rhs_value frame.values rhs) place frame))
assign_is x (Plain a) place frame = refl
assign_is x (Unary op a) place frame = refl
assign_is x (Binary op a b) place frame = refl

-- a right side that does not divide never traps
pub never_traps_where_undivided : (values : Values) (rhs : Rhs) → divides rhs ≡ false → rhs_traps values rhs ≡ false
never_traps_where_undivided values (Plain a) h = refl
never_traps_where_undivided values (Unary op a) h = refl
never_traps_where_undivided values (Binary op a (Var y)) h = let off : is_dividing op ≡ false = sym (and-true (is_dividing op)) ∙ h in rw off refl
never_traps_where_undivided values (Binary op a (Const c)) h = h

-- a movable right side never traps
pub never_traps_where_movable : (values : Values) (rhs : Rhs) → is_movable rhs ≡ true → rhs_traps values rhs ≡ false
never_traps_where_movable values (Plain a) h = refl
never_traps_where_movable values (Unary op a) h = refl
never_traps_where_movable values (Binary op a b) h = never_traps_where_undivided values (Binary op a b) (not-true (divides (Binary op a b)) h)

-- ---- the expression of a right side

-- it is movable, and reads the variables that the right side reads
pub expr_of_vars : (rhs : Rhs) (e : Expr) → expr_of rhs ≡ Some e → (is_movable (rhs_of e) ≡ true) × (expr_vars e ≡ rhs_vars rhs)
expr_of_vars (Plain a) e h = cc
expr_of_vars (Unary op a) e h = let same : Un op a ≡ e = cc in rw (← same) (refl, refl)
expr_of_vars (Binary op a b) e h = by (divides (Binary op a b)) refl h
  where
    by : (d : Bool) → divides (Binary op a b) ≡ d → (if d then None else Some (Bin op a b)) ≡ Some e
        → (is_movable (rhs_of e) ≡ true) × (expr_vars e ≡ operand_vars a ++ operand_vars b)
    by true is h' = cc
    by false is h' = let same : Bin op a b ≡ e = cc in rw (← same) (ap not is, refl)

-- its evaluation counts one
pub expr_counts : (e : Expr) → rhs_count (rhs_of e) ≡ 1
expr_counts (Un op a) = refl
expr_counts (Bin op a b) = refl
