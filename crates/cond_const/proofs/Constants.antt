-- The value of an operator on two constants, as the call computes it.
use Rattle.std.proofs.Common.{◌≡◌, ℤ, Bool, true, false, if◌then◌else◌, Ok, Err, sym, ap, ◌∙◌, subst, FitsSigned, w64, to_z, of_z, to_z-of_z}
use Rattle.std.proofs.lemmas.Int.{int_wrap_fits}
use Rattle.mir_base.specs.declared.operators.Op.{Op}
use Rattle.mir_base.specs.declared.operators.Trap.TheVariants.{ZeroDivisor}
use Rattle.mir_base.specs.declared.instructions.Operand.TheVariants.{Const}
use Rattle.mir_base.specs.declared.instructions.Rhs.TheVariants.{Plain, Binary}
use Rattle.mir_base.specs.Numbers.{evaluation, wrapped, traps, value_of_op}
use Rattle.mir_base.specs.NumberLaws.{value_fits}
use Rattle.cond_const.specs.Folding.{folded_binary}

-- the number that a call is handed is the constant
wraps_back : (c : ℤ) → FitsSigned w64 c → to_z w64 (of_z w64 c) ≡ wrapped c
wraps_back c fits = to_z-of_z fits ∙ sym (int_wrap_fits w64 c fits)

-- the value of an operator on two constants
pub constants_are : (op : Op) (c d v : ℤ) → FitsSigned w64 c → FitsSigned w64 d → Ok v ≡ evaluation op (to_z w64 (of_z w64 c)) (to_z w64 (of_z w64 d)) → Plain (Const (to_z w64 (of_z w64 v))) ≡ folded_binary op (Const c) (Const d)
constants_are op c d v fits_c fits_d e = by_trap (traps op (wrapped d)) (e ∙ ap (λ z. evaluation op z (to_z w64 (of_z w64 d))) (wraps_back c fits_c) ∙ ap (evaluation op (wrapped c)) (wraps_back d fits_d))
  where
    by_trap : (t : Bool) → Ok v ≡ (if t then Err ZeroDivisor else Ok (value_of_op op (wrapped c) (wrapped d))) → Plain (Const (to_z w64 (of_z w64 v))) ≡ (if t then Binary op (Const c) (Const d) else Plain (Const (value_of_op op (wrapped c) (wrapped d))))
    by_trap true h = cc
    by_trap false h =
        let is : v ≡ value_of_op op (wrapped c) (wrapped d) = cc in
        let fits : FitsSigned w64 (value_of_op op (wrapped c) (wrapped d)) =
        value_fits op (wrapped c) (wrapped d) (subst (FitsSigned w64) (sym (int_wrap_fits w64 c fits_c)) fits_c) (subst (FitsSigned w64) (sym (int_wrap_fits w64 d fits_d)) fits_d) in
        ap (λ z. Plain (Const (to_z w64 (of_z w64 z)))) is ∙ ap (λ z. Plain (Const z)) (to_z-of_z fits)
