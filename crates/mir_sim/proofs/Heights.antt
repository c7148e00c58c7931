-- How many frames a run has where each unit calls units of higher numbers alone.
use Rattle.std.proofs.Common.{◌≡◌, ◌<◌, ◌≤◌, ℕ, zero, suc, Bool, true, false, cond, List, [], ◌∷◌, length, Option, None, Some, slice_get, refl, sym, ◌∙◌, ap, subst, arith}
use Rattle.mir_base.specs.declared.instructions.Inst.{Inst}
use Rattle.mir_base.specs.declared.instructions.Inst.TheVariants.{Receive, Assign, Goto, If, TrapIf, Call, Print, Return}
use Rattle.mir_base.specs.declared.instructions.Operand.{Operand}
use Rattle.mir_base.specs.declared.instructions.Rhs.{Rhs}
use Rattle.mir_base.specs.declared.instructions.Rhs.TheVariants.{Plain, Unary, Binary}
use Rattle.mir_base.specs.Frames.{Answer, Frame, Transition, Continues, Prints, Calls, Returns, Traps}
use Rattle.mir_base.specs.Numbers.{traps}
use Rattle.mir_base.specs.Runs.{Caller, Control, Running, Ended, Stopped, State, first_state, returned, state_after, step_at, step, steps, codes_of}
use Rattle.mir_base.specs.Shapes.{UnitShape, ProgramShape, IsProgram, body_at, body_or_empty}
use Rattle.mir_base.specs.Units.{operand_value, test_holds, assign_transition, inst_transition}
use Rattle.mir_sim.specs.Calls.{HasFewFrames, CallsHigher, CallsNoMore}

-- ---- the units of the frames fall from the running one to the first caller

-- each caller is of a lower unit than the frame that it called
abbrev Fall : ℕ → List Caller → Type 0
Fall unit [] = Unit {0}
Fall unit (caller ∷ callers) = (caller.unit < unit) × Fall caller.unit callers

-- below unit u there are u units, so no more callers
fall_short : (unit : ℕ) (callers : List Caller) → Fall unit callers → length callers ≤ unit
fall_short unit [] fall = omega arith
fall_short unit (caller ∷ callers) fall = let below = fall.0 in let rest = fall_short caller.unit callers fall.1 in omega (arith, below, rest)

-- the frames of a run that is not over are of falling units, which the program has
abbrev Falls : ℕ → Control → Type 0
Falls units (Running unit frame callers) = (unit < units) × Fall unit callers
Falls units (Ended result) = Unit {0}
Falls units (Stopped kind) = Unit {0}

-- the frames fall, and there were never more than the program has units
record Low (units : ℕ) (state : State) : Type 0 where
  falls : Falls units state.control
  low : state.depth ≤ units

-- ---- one step

-- a call is of a higher unit, which the program has
abbrev Higher : ℕ → ℕ → Transition → Type 0
Higher units unit (Continues counted next) = Unit {0}
Higher units unit (Prints value next) = Unit {0}
Higher units unit (Calls called entry into next) = (unit < called) × (called < units)
Higher units unit (Returns answer) = Unit {0}
Higher units unit (Traps kind counted) = Unit {0}

-- either transition of a branch
higher_if : (units unit : ℕ) (b : Bool) (one other : Transition) → Higher units unit one → Higher units unit other → Higher units unit (cond b one other)
higher_if units unit true one other h k = h
higher_if units unit false one other h k = k

-- an assignment calls nothing
higher_assign : (units unit x : ℕ) (rhs : Rhs) (place : ℕ) (frame : Frame) → Higher units unit (assign_transition x rhs place frame)
higher_assign units unit x (Plain a) place frame = tt
higher_assign units unit x (Unary op a) place frame = tt
higher_assign units unit x (Binary op a b) place frame = higher_if units unit (traps op (operand_value frame.values b)) _ _ tt tt

-- an instruction calls, if at all, a higher unit
abbrev CallIsHigher : ℕ → ℕ → Option Inst → Type 0
CallIsHigher units unit inst = (into : Option ℕ) (called : ℕ) (operands : List Operand) → inst ≡ Some (Call into called operands) → (unit < called) × (called < units)

-- of all instructions only a call has to be looked at
higher_inst : (units unit shared : ℕ) (inst : Option Inst) (frame : Frame) → CallIsHigher units unit inst → Higher units unit (inst_transition shared inst frame)
higher_inst units unit shared None frame calls = tt
higher_inst units unit shared (Some (Receive x)) frame calls = tt
higher_inst units unit shared (Some (Assign x rhs)) frame calls = higher_assign units unit x rhs _ frame
higher_inst units unit shared (Some (Goto place)) frame calls = tt
higher_inst units unit shared (Some (If test place)) frame calls = tt
higher_inst units unit shared (Some (TrapIf test number)) frame calls = higher_if units unit (test_holds frame.values test) _ _ tt tt
higher_inst units unit shared (Some (Call into called operands)) frame calls = calls into called operands refl
higher_inst units unit shared (Some (Print a)) frame calls = tt
higher_inst units unit shared (Some (Return a)) frame calls = tt

-- a return leaves the callers, whose units fall as before
low_return : (units : ℕ) (answer : Answer) (unit : ℕ) (callers : List Caller) → unit < units → Fall unit callers → Falls units (returned answer callers)
low_return units answer unit [] within fall = tt
low_return units answer unit (caller ∷ callers) within fall = let below = fall.0 in (omega (arith, below, within), fall.1)

-- a call adds a frame of a higher unit; all else adds none
low_after : (units unit : ℕ) (frame : Frame) (callers : List Caller) (transition : Transition) (state : State) → unit < units → Fall unit callers → state.depth ≤ units → Higher units unit transition → Low units (state_after unit callers transition state)
low_after units unit frame callers (Continues counted next) state within fall low higher = record { falls = (within, fall); low = low }
low_after units unit frame callers (Prints value next) state within fall low higher = record { falls = (within, fall); low = low }
low_after units unit frame callers (Calls called entry into next) state within fall low higher =
    let above = higher.0 in let has = higher.1 in let short = fall_short unit callers fall in
    record { falls = (has, (above, fall)); low = omega (arith, low, above, has, short) }
low_after units unit frame callers (Returns answer) state within fall low higher = record { falls = low_return units answer unit callers within fall; low = low }
low_after units unit frame callers (Traps kind counted) state within fall low higher = record { falls = tt; low = low }

-- ---- programs

-- the calls of a program are of units that it has
call_fits : (program : ProgramShape) → IsProgram program.globals program.units → (unit : ℕ) (place : ℕ) (into : Option ℕ) (called : ℕ) (operands : List Operand) → slice_get (body_at program.units unit) place ≡ Some (Call into called operands) → called < length program.units
call_fits program is unit place into called operands at = go (slice_get program.units unit) refl
  where
    go : (found : Option UnitShape) → slice_get program.units unit ≡ found → called < length program.units
    go None none = absurd (let e = sym at ∙ ap (λ (o : Option UnitShape). slice_get (body_or_empty o) place) none in absurd_none e)
      where
        absurd_none : Some (Call into called operands) ≡ slice_get [] place → ⊥
        absurd_none e = let f : Some (Call into called operands) ≡ None = e in absurd (cc)
    go (Some found) some =
        ((is.bodies unit found some).insts place (Call into called operands) (ap (λ (o : Option UnitShape). slice_get (body_or_empty o) place) (sym some) ∙ at)).0

-- so one step keeps the frames low
low_step : (program : ProgramShape) → IsProgram program.globals program.units → CallsHigher program → (state : State) → Low (length program.units) state → Low (length program.units) (step (codes_of program) state)
low_step program is higher state low = go state.control refl
  where
    go : (control : Control) → state.control ≡ control → Low (length program.units) (step_at (codes_of program) control state)
    go (Running unit frame callers) at =
        let falls : Falls (length program.units) (Running unit frame callers) = subst (Falls (length program.units)) at low.falls in
        low_after (length program.units) unit frame callers (codes_of program unit frame) state falls.0 falls.1 low.low
        (higher_inst (length program.units) unit (length program.globals) (slice_get (body_at program.units unit) frame.place) frame
        (λ into called operands call. (
          higher unit called (record { place = frame.place; into = into; operands = operands; at = call }),
          call_fits program is unit frame.place into called operands call,
        )))
    go (Ended result) at = low
    go (Stopped kind) at = low

-- and so do all steps
low_steps : (program : ProgramShape) → IsProgram program.globals program.units → CallsHigher program → (n : ℕ) (state : State) → Low (length program.units) state → Low (length program.units) (steps (codes_of program) n state)
low_steps program is higher zero state low = low
low_steps program is higher (suc n) state low = low_steps program is higher n (step (codes_of program) state) (low_step program is higher state low)

-- a run never has more frames than the program has units
pub few_frames : (program : ProgramShape) → IsProgram program.globals program.units → CallsHigher program → HasFewFrames program
few_frames program is higher inputs n =
    let some = is.some_unit in
    (low_steps program is higher n (first_state (length program.globals) inputs) (record { falls = (some, tt); low = omega (arith, some) })).low

-- what calls no more calls higher units alone, where the other does
pub higher_too : (first second : ProgramShape) → CallsNoMore first second → CallsHigher first → CallsHigher second
higher_too first second no_more higher unit called call = higher unit called (no_more unit called call)
