-- The jumps of a body that fits go to places of the body, and these are known to be jumped to.
use Rattle.std.proofs.Common.{◌≡◌, ℕ, ◌+◌, true, List, length, get_or, slice_get, Some, refl, ap, ◌∙◌, arith, eq-eqb}
use Rattle.std.specs.List.{All}
use Rattle.std.proofs.lemmas.List.Folds.{list_any_at}
use Rattle.std.proofs.lemmas.Option.{slice_get-get_or, get_or_from_slice_get, slice_get_within}
use Rattle.mir_base.specs.declared.instructions.Inst.{Inst}
use Rattle.mir_base.specs.declared.instructions.Inst.TheVariants.{Goto, If}
use Rattle.mir_base.specs.Shapes.{UnitShape, InstFits, BodyFits}
use Rattle.mir_base.specs.Text.{jumps_to, is_target}
use Rattle.mir_print.specs.Labels.{JumpsBelow, JumpsTo}

-- that an instruction fits its body bounds the target of its jump by the body's length
within : (units : List UnitShape) (body : List Inst) (place : ℕ) (inst : Inst) → InstFits units body place inst → JumpsBelow (length body + 1) inst
within units body place (Goto target) fits = omega (arith, fits.1)
within units body place (If test target) fits = omega (arith, fits.1)
within units body place inst fits = tt

-- each jump of a body that fits goes to one of its places or to its end
pub all_within : (units : List UnitShape) (body : List Inst) → BodyFits units body → All (JumpsBelow (length body + 1)) body
all_within units body fits place d low = within units body place (get_or body place d) (fits.insts place (get_or body place d) (slice_get-get_or body place d low))

-- a place that some instruction jumps to is counted among the targets of the body
target_at : (body : List Inst) (place : ℕ) (inst : Inst) (target : ℕ) → slice_get body place ≡ Some inst → jumps_to target inst ≡ true → is_target body target ≡ true
target_at body place inst target at jumps =
    list_any_at (jumps_to target) body place inst (slice_get_within body place inst at) (ap (jumps_to target) (get_or_from_slice_get body place inst inst at) ∙ jumps)

-- an instruction jumps to a place that is known to be jumped to
pub jumps_to_is : (units : List UnitShape) (body : List Inst) → BodyFits units body → (place : ℕ) (inst : Inst) → slice_get body place ≡ Some inst → JumpsTo body inst
jumps_to_is units body fits place (Goto target) at = ((fits.insts place (Goto target) at).1, target_at body place (Goto target) target at (eq-eqb target target refl))
jumps_to_is units body fits place (If test target) at = ((fits.insts place (If test target) at).1, target_at body place (If test target) target at (eq-eqb target target refl))
jumps_to_is units body fits place inst at = tt
