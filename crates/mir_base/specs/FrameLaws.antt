-- In a run every value is a signed 64-bit number: it is so of each value that a frame's step makes out of its frame.
-- For proofs only.
use Rattle.std.proofs.Common.{ℕ, zero, suc, true, false, if◌then◌else◌, nat_eq, List, [], ◌∷◌, map, ℤ, pos, Option, Some, None, slice_index_or, arith, FitsSigned, w64}
use Rattle.std.proofs.lemmas.List.Elements.{All-nil, All-cons}
use Rattle.std.proofs.lemmas.List.FromFn.{length-map-range_with_len}
use Rattle.mir_base.specs.declared.instructions.Operand.{Operand}
use Rattle.mir_base.specs.declared.instructions.Operand.TheVariants.{Var, Const}
use Rattle.mir_base.specs.declared.instructions.Rhs.{Rhs}
use Rattle.mir_base.specs.declared.instructions.Rhs.TheVariants.{Plain, Unary, Binary}
use Rattle.mir_base.specs.Frames.{Values, all_zero, with_value, with_first, shared_vars, shared_values, CallEntry, Answer, Frame, first_frame, with_result, resumed}
use Rattle.mir_base.specs.Units.{operand_value, at, assigned}
use Rattle.mir_base.specs.Expressions.{rhs_value}
use Rattle.mir_base.specs.Runs.{AreNumbers}
use Rattle.mir_base.specs.UnitRuns.{AreGlobals, IsCallAnswer}
use Rattle.mir_base.specs.NumberLaws.{zero_fits, wrapped_fits, value_fits, un_value_fits}

-- the value of every variable is a signed 64-bit number
pub record ValuesFit (values : Values) : Type 0 where
  pub fit : (x : ℕ) → FitsSigned w64 (values x)

-- and so is each argument
pub record FrameFits (frame : Frame) : Type 0 where
  pub values : ValuesFit frame.values
  pub arguments : AreNumbers frame.arguments

-- ---- values

-- of an operand
pub operand_fits : (values : Values) (a : Operand) → ValuesFit values → FitsSigned w64 (operand_value values a)
operand_fits values (Var x) fits = fits.fit x
operand_fits values (Const c) fits = wrapped_fits c

-- of a list of operands
pub operands_fit : (values : Values) (operands : List Operand) → ValuesFit values → AreNumbers (map (operand_value values) operands)
operands_fit values [] fits = All-nil (FitsSigned w64)
operands_fit values (a ∷ operands) fits = All-cons (FitsSigned w64) _ _ (operand_fits values a fits) (operands_fit values operands fits)

-- of a right side
pub rhs_fits : (values : Values) (rhs : Rhs) → ValuesFit values → FitsSigned w64 (rhs_value values rhs)
rhs_fits values (Plain a) fits = operand_fits values a fits
rhs_fits values (Unary op a) fits = un_value_fits op _
rhs_fits values (Binary op a b) fits = value_fits op _ _ (operand_fits values a fits) (operand_fits values b fits)

-- of an item, or of what is taken where there is none
item_fits : (zs : List ℤ) (i : ℕ) (d : ℤ) → AreNumbers zs → FitsSigned w64 d → FitsSigned w64 (slice_index_or zs i d)
item_fits [] i d fits is = is
item_fits (z ∷ zs) zero d fits is = fits 0 z (omega arith)
item_fits (z ∷ zs) (suc i) d fits is = item_fits zs i d (λ k e within. fits (suc k) e (omega arith)) is

-- of an argument, which is 0 where there is none
pub argument_fits : (arguments : List ℤ) (i : ℕ) → AreNumbers arguments → FitsSigned w64 (slice_index_or arguments i (pos 0))
argument_fits arguments i fits = item_fits arguments i (pos 0) fits zero_fits

-- of a list of variables
pub vars_fit : (values : Values) (xs : List ℕ) → ValuesFit values → AreNumbers (map values xs)
vars_fit values [] fits = All-nil (FitsSigned w64)
vars_fit values (x ∷ xs) fits = All-cons (FitsSigned w64) _ _ (fits.fit x) (vars_fit values xs fits)

-- of the globals, of which there are so many
pub shared_values_fit : (shared : ℕ) (values : Values) → ValuesFit values → AreGlobals shared (shared_values shared values)
shared_values_fit shared values fits = record { long = length-map-range_with_len values 0 shared; numbers = vars_fit values (shared_vars shared) fits }

-- ---- frames

-- a variable set to a value in range leaves all variables in range
pub with_value_fits : (x : ℕ) (v : ℤ) (values : Values) → FitsSigned w64 v → ValuesFit values → ValuesFit (with_value x v values)
with_value_fits x v values fits all = record { fit = λ y. elim (nat_eq y x) as (λ b. FitsSigned w64 (if b then v else values y)) [ true ↦ fits | false ↦ all.fit y ] }

-- first values in range leave all variables in range
pub with_first_fits : (firsts : List ℤ) (values : Values) → AreNumbers firsts → ValuesFit values → ValuesFit (with_first firsts values)
with_first_fits firsts values numbers all = record { fit = λ x. item_fits firsts x (values x) numbers (all.fit x) }

-- the first frame
pub first_fits : (entry : CallEntry) → AreNumbers entry.arguments → AreNumbers entry.globals → FrameFits (first_frame entry)
first_fits entry numbers globals = record { values = with_first_fits entry.globals all_zero globals (record { fit = λ x. zero_fits }); arguments = numbers }

-- a frame at another place
pub at_fits : (place : ℕ) (frame : Frame) → FrameFits frame → FrameFits (at place frame)
at_fits place frame fits = record { values = fits.values; arguments = fits.arguments }

-- a frame with another value of a variable
pub assigned_fits : (x : ℕ) (v : ℤ) (place : ℕ) (frame : Frame) → FitsSigned w64 v → FrameFits frame → FrameFits (assigned x v place frame)
assigned_fits x v place frame number fits = record { values = with_value_fits x v frame.values number fits.values; arguments = fits.arguments }

-- a frame that has got an answer
pub resumed_fits : (shared : ℕ) (into : Option ℕ) (answer : Answer) (frame : Frame) → IsCallAnswer shared answer
    → FrameFits frame → FrameFits (resumed into answer frame)
resumed_fits shared into answer frame is fits = record {
  values = by into;
  arguments = fits.arguments;
}
  where
    globals : ValuesFit (with_first answer.globals frame.values)
    globals = with_first_fits answer.globals frame.values is.globals.numbers fits.values

    by : (into : Option ℕ) → ValuesFit (with_result into answer.value (with_first answer.globals frame.values))
    by None = globals
    by (Some x) = with_value_fits x answer.value _ is.number globals
