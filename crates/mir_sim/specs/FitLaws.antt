-- In a run of a program every value is a signed 64-bit number, and every call hands over what its unit receives. For
-- proofs only, of the crates above too.
use Rattle.std.proofs.Common.{◌≡◌, ℕ, ◌+◌, true, false, cond, length, ℤ, pos, Option, Some, None, slice_get, refl, ◌∙◌, FitsSigned, w64}
use Rattle.mir_base.specs.declared.operators.Trap.TheVariants.{ZeroDivisor, Raised}
use Rattle.mir_base.specs.declared.instructions.Rhs.{Rhs}
use Rattle.mir_base.specs.declared.instructions.Test.{Test}
use Rattle.mir_base.specs.declared.instructions.Inst.{Inst}
use Rattle.mir_base.specs.declared.instructions.Inst.TheVariants.{Receive, Assign, Goto, If, TrapIf, Call, Print, Return}
use Rattle.mir_base.specs.Shapes.{UnitShape, ProgramShape, IsProgram, body_or_empty}
use Rattle.mir_base.specs.Frames.{shared_values, CallEntry, Frame, Continues, Traps}
use Rattle.mir_base.specs.Units.{operand_value, test_holds, at, assigned, assign_transition, guard_transition, inst_transition, body_code}
use Rattle.mir_base.specs.Runs.{codes_of}
use Rattle.mir_base.specs.UnitRuns.{machine_at, IsCallAnswer}
use Rattle.mir_base.specs.Expressions.{rhs_traps, rhs_value, rhs_count}
use Rattle.mir_base.specs.ExpressionLaws.{assign_is}
use Rattle.mir_base.specs.NumberLaws.{zero_fits}
use Rattle.mir_base.specs.FrameLaws.{FrameFits, operand_fits, operands_fit, shared_values_fit, rhs_fits, argument_fits, at_fits, assigned_fits}
use Rattle.mir_sim.specs.LiftLaws.{Callable}
use Rattle.mir_sim.specs.PairedLaws.{FitsAfter}
use Rattle.std.proofs.lemmas.List.{length-map}

module _ (program : ProgramShape) (is : IsProgram program.globals program.units) where
  -- how many globals there are
  abbrev shared : ℕ
  shared = length program.globals

  -- what may be called
  abbrev MayCall : ℕ → CallEntry → Type 0
  MayCall = Callable (length program.units) (machine_at program)

  -- what is handed back at a return
  answer_keeps : (v : ℤ) (f : Frame) → FitsSigned w64 v → FrameFits f → IsCallAnswer shared (record { value = v; globals = shared_values shared f.values })
  answer_keeps v f number fits = record { number = number; globals = shared_values_fit shared f.values fits.values }

  assign_keeps : (x : ℕ) (rhs : Rhs) (place : ℕ) (f : Frame) → FrameFits f → FitsAfter shared MayCall (assign_transition x rhs place f)
  assign_keeps x rhs place f fits =
      let next = assigned x (rhs_value f.values rhs) place f in
      let goes_on : FrameFits next = assigned_fits x (rhs_value f.values rhs) place f (rhs_fits f.values rhs fits.values) fits in
      rw (assign_is x rhs place f) (elim (rhs_traps f.values rhs) as (λ t. FitsAfter shared MayCall (cond t (Traps ZeroDivisor 1) (Continues (rhs_count rhs) next))) [ true ↦ tt | false ↦ goes_on ])

  guard_keeps : (test : Test) (number place : ℕ) (f : Frame) → FrameFits f → FitsAfter shared MayCall (guard_transition test number place f)
  guard_keeps test number place f fits =
      elim (test_holds f.values test) as (λ t. FitsAfter shared MayCall (cond t (Traps (Raised number) 0) (Continues 0 (at place f)))) [ true ↦ tt | false ↦ at_fits place f fits ]

  inst_keeps : (u : ℕ) (unit : UnitShape) (f : Frame) (inst : Option Inst) → slice_get program.units u ≡ Some unit
      → slice_get unit.body f.place ≡ inst → FrameFits f → FitsAfter shared MayCall (inst_transition shared inst f)
  inst_keeps u unit f None there at_place fits = answer_keeps (pos 0) f zero_fits fits
  inst_keeps u unit f (Some (Receive x)) there at_place fits = assigned_fits x _ (f.place + 1) f (argument_fits f.arguments f.place fits.arguments) fits
  inst_keeps u unit f (Some (Assign x rhs)) there at_place fits = assign_keeps x rhs (f.place + 1) f fits
  inst_keeps u unit f (Some (Goto place)) there at_place fits = at_fits place f fits
  inst_keeps u unit f (Some (If test place)) there at_place fits = at_fits _ f fits
  inst_keeps u unit f (Some (TrapIf test number)) there at_place fits = guard_keeps test number (f.place + 1) f fits
  inst_keeps u unit f (Some (Call into called operands)) there at_place fits =
      let c = (is.bodies u unit there).insts f.place (Call into called operands) at_place in (
        record {
          there = c.0;
          shared_is = refl;
          entry_is = record { long = length-map operands (operand_value f.values) ∙ c.1; numbers = operands_fit f.values operands fits.values; globals = shared_values_fit shared f.values fits.values };
        },
        at_fits (f.place + 1) f fits,
      )
  inst_keeps u unit f (Some (Print a)) there at_place fits = at_fits (f.place + 1) f fits
  inst_keeps u unit f (Some (Return a)) there at_place fits = answer_keeps _ f (operand_fits f.values a fits.values) fits

  unit_keeps : (u : ℕ) (unit : Option UnitShape) (f : Frame) → slice_get program.units u ≡ unit → FrameFits f
      → FitsAfter shared MayCall (body_code shared (body_or_empty unit) f)
  unit_keeps u None f there fits = answer_keeps (pos 0) f zero_fits fits
  unit_keeps u (Some unit) f there fits = inst_keeps u unit f (slice_get unit.body f.place) there refl fits

  pub keeps : (u : ℕ) (f : Frame) → FrameFits f → FitsAfter shared MayCall (codes_of program u f)
  keeps u f fits = unit_keeps u (slice_get program.units u) f refl fits
