-- Law: the body of a unit of a program can be lowered. For proofs only, of the crates above too.
use Rattle.std.proofs.Common.{◌≡◌, ◌≤◌, ℕ, List, slice_get, Option, Some, None, refl, sym, subst}
use Rattle.mir_base.specs.declared.instructions.Inst.{Inst}
use Rattle.mir_base.specs.declared.instructions.Inst.TheVariants.{Receive, Assign, Goto, If, TrapIf, Call, Print, Return}
use Rattle.mir_base.specs.Shapes.{UnitShape, BodyFits, IsTarget, SharesGlobals}
use Rattle.flow_graph.specs.Lowered.{CanLower, target_of}

-- a unit whose body fits and whose first variables are the globals can be lowered
pub fits_lower : (units : List UnitShape) (globals : List (List ℕ)) (unit : UnitShape) → BodyFits units unit.body
    → SharesGlobals globals unit → CanLower unit.shared unit.body
fits_lower units globals unit fits shares = record {
  first = λ place x at. fits.insts place (Receive x) at;
  received = fits.received;
  own = λ place x at. subst (λ n. n ≤ x) (sym shares.count) (shares.own place x at);
  targets = λ place target is. jumps place (slice_get unit.body place) target refl is;
}
  where
    body : List Inst
    body = unit.body

    jumps : (place : ℕ) (inst : Option Inst) (target : ℕ) → slice_get body place ≡ inst → target_of inst ≡ Some target → IsTarget body target
    jumps place None target at is = cc
    jumps place (Some (Receive x)) target at is = cc
    jumps place (Some (Assign x rhs)) target at is = cc
    jumps place (Some (Goto to)) target at is = let same : to ≡ target = cc in subst (IsTarget body) same (fits.insts place (Goto to) at)
    jumps place (Some (If test to)) target at is = let same : to ≡ target = cc in subst (IsTarget body) same (fits.insts place (If test to) at)
    jumps place (Some (TrapIf test number)) target at is = cc
    jumps place (Some (Call into unit operands)) target at is = cc
    jumps place (Some (Print a)) target at is = cc
    jumps place (Some (Return a)) target at is = cc
