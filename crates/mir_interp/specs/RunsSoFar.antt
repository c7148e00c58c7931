-- The state of a run so far by the definition, and what is true of every run so far. Cited by contracts.
use Rattle.std.specs.Vec.{vec_capacity}
use Rattle.std.specs.Prelude.{◌≡◌, ℕ, ◌+◌, ◌<◌, ◌≤◌, List, [], ◌∷◌, length, map, take, drop, reverse, slice_get, slice_index_or, ℤ, pos, Option, Some, None, Result, Ok}
use Rattle.std.specs.List.{CopiedTo, SameBelow, SameFrom}
use Rattle.mir_base.specs.Limits.{most_frames}
use Rattle.mir_base.specs.declared.instructions.Operand.{Operand}
use Rattle.mir_base.specs.declared.instructions.Inst.{Inst}
use Rattle.mir_base.specs.declared.instructions.Inst.TheVariants.{Call, Print}
use Rattle.mir_base.specs.declared.instructions.Rhs.{Rhs}
use Rattle.mir_base.specs.declared.instructions.Rhs.TheVariants.{Plain, Unary, Binary}
use Rattle.mir_base.specs.Shapes.{ProgramShape, UnitShape, AllBelow, into_vars, body_at, receives_in}
use Rattle.mir_base.specs.Frames.{Values, shared_values, CallEntry, Answer, Frame as FrameState, Transition}
use Rattle.mir_base.specs.declared.operators.Trap.{Trap}
use Rattle.mir_base.specs.Numbers.{evaluation, value_of_un_op}
use Rattle.mir_base.specs.Units.{operand_value, at, inst_transition}
use Rattle.mir_base.specs.Runs.{Caller as CallerState, Control, Running, Ended, Stopped, State, codes_of, state_after, step}
use Rattle.mir_interp.specs.declared.stack.Frame.{Frame}
use Rattle.mir_interp.specs.declared.stack.Caller.{Caller}
use Rattle.mir_interp.specs.declared.stack.Stack.{Stack}
use Rattle.mir_interp.specs.declared.so_far.RunSoFar.{RunSoFar}
use Rattle.mir_interp.specs.declared.report.Finish.{Finish}
use Rattle.mir_interp.specs.declared.report.Finish.TheVariants.{Running as GoesOn, Ended as EndedWith, Trapped}
use Rattle.mir_interp.specs.declared.report.RunFault.{RunFault}
use Rattle.mir_interp.specs.declared.report.RunFault.TheVariants.{WrongInputs, Deep, Memory}

-- ---- states

-- the values of the variables, of which these are the first
abbrev pub values_of : List ℤ → Values
values_of values x = slice_index_or values x (pos 0)

-- a frame whose variables are the last of these values
abbrev pub frame_of : List ℤ → Frame → FrameState
frame_of values frame =
    record {
      place = frame.place;
      arguments = drop frame.arguments (take frame.variables values);
      values = values_of (drop frame.variables values);
    }

-- the frames that wait, the latest first: the values of one end where those of the next begin
abbrev pub callers_of : List ℤ → List Caller → List CallerState
callers_of values [] = []
callers_of values (caller ∷ callers) =
    record { unit = caller.frame.unit; into = caller.into; frame = frame_of values caller.frame }
    ∷ callers_of (take caller.frame.arguments values) callers

-- the frames that wait on a stack, the latest first
abbrev pub waiting : Stack → List CallerState
waiting stack =
    callers_of (take stack.running.arguments stack.values.items) (reverse stack.callers.items)

-- the running frame
abbrev pub running : Stack → FrameState
running stack = frame_of stack.values.items stack.running

-- the running frame at the next place
abbrev pub at_next : Stack → FrameState
at_next stack = at (stack.running.place + 1) (running stack)

-- the values of the globals
abbrev pub globals_of : Stack → List ℤ
globals_of stack = shared_values stack.shared (running stack).values

-- what the running frame hands back with this value
abbrev pub answer_of : Stack → ℤ → Answer
answer_of stack v = record { value = v; globals = globals_of stack }

-- what a call of the running frame with these operands hands over
abbrev pub entry_of : Stack → List Operand → CallEntry
entry_of stack
    operands = record {
      arguments = map (operand_value (running stack).values) operands;
      globals = globals_of stack;
    }

-- the running frame as it waits for its call
abbrev pub caller_of : Stack → Option ℕ → CallerState
caller_of stack into = record { unit = stack.running.unit; into = into; frame = at_next stack }

-- the same unit runs with this frame, and the same frames wait
abbrev pub with_running : Stack → FrameState → Control
with_running stack frame = Running stack.running.unit frame (waiting stack)

-- where the run of a stack stands
abbrev pub control_of : Stack → Finish → Control
control_of stack GoesOn = Running stack.running.unit (running stack) (waiting stack)
control_of stack (EndedWith result) = Ended result
control_of stack (Trapped kind) = Stopped kind

-- the state of the run
abbrev pub state_of : RunSoFar → Finish → State
state_of so_far finish =
    record {
      printed = so_far.printed.items;
      control = control_of so_far.stack finish;
      counted = so_far.counted;
      depth = so_far.depth;
    }

-- the state after a transition of the running frame
abbrev pub state_by : RunSoFar → Transition → State
state_by so_far transition =
    state_after so_far.stack.running.unit (waiting so_far.stack) transition (state_of so_far GoesOn)

-- the state after an instruction of the running frame
abbrev pub state_past : RunSoFar → Option Inst → State
state_past so_far inst =
    state_by so_far (inst_transition so_far.stack.shared inst (running so_far.stack))

-- the state after one step of the program
abbrev pub state_stepped : ProgramShape → RunSoFar → State
state_stepped program so_far = step (codes_of program) (state_of so_far GoesOn)

-- the value of a right side, or its trap
abbrev pub value_of_rhs : Values → Rhs → Result ℤ Trap
value_of_rhs values (Plain a) = Ok (operand_value values a)
value_of_rhs values (Unary op a) = Ok (value_of_un_op op (operand_value values a))
value_of_rhs values (Binary op a b) =
    evaluation op (operand_value values a) (operand_value values b)

-- ---- what is true of every run so far

-- the variables of the unit, and none where there is no unit
abbrev pub vars_or_none : Option UnitShape → List (List ℕ)
vars_or_none None = []
vars_or_none (Some unit) = unit.vars

-- the variables of the unit of this number
abbrev pub vars_at : List UnitShape → ℕ → List (List ℕ)
vars_at units number = vars_or_none (slice_get units number)

-- how many variables the running frame has
abbrev pub running_vars : ProgramShape → Stack → ℕ
running_vars program stack = length (vars_at program.units stack.running.unit)

-- the instruction at which the running frame stands, where it is not at its end
abbrev pub running_inst : ProgramShape → Stack → Option Inst
running_inst program stack =
    slice_get (body_at program.units stack.running.unit) stack.running.place

-- the frame is of a unit of the program, whose variables begin with the globals, and has a value for each of its
-- receives and of its variables
pub record IsFrame (program : ProgramShape) (values : List ℤ) (frame : Frame) : Type 0 where
  pub there : frame.unit < length program.units
  pub shares : length program.globals ≤ length (vars_at program.units frame.unit)
  pub received : frame.arguments + receives_in (body_at program.units frame.unit) ≡ frame.variables
  pub long : frame.variables + length (vars_at program.units frame.unit) ≡ length values

-- the frames that wait are such frames, each with a variable for its answer
abbrev pub AreCallers : ProgramShape → List ℤ → List Caller → Type 0
AreCallers program values [] = Unit {0}
AreCallers program values (caller ∷ callers) =
    IsFrame program values caller.frame
    × AllBelow (length (vars_at program.units caller.frame.unit)) (into_vars caller.into)
    × AreCallers program (take caller.frame.arguments values) callers

-- the stack is of a run of the program
pub record IsStack (program : ProgramShape) (stack : Stack) : Type 0 where
  pub globals : stack.shared ≡ length program.globals
  pub running : IsFrame program stack.values.items stack.running
  pub callers : AreCallers program (take stack.running.arguments stack.values.items)
      (reverse stack.callers.items)

-- after it the stack is of a run of each program that it was of before
abbrev pub StaysStack : Stack → Stack → Type 0
StaysStack old new = (program : ProgramShape) → IsStack program old → IsStack program new

-- the run so far is one of the program, which has had no more frames than a run may have
pub record IsRunSoFar (program : ProgramShape) (so_far : RunSoFar) : Type 0 where
  pub stack : IsStack program so_far.stack
  pub frames : length so_far.stack.callers.items < so_far.depth
  pub depth : so_far.depth ≤ most_frames

-- after it the run so far is one of each program that it was one of before
abbrev pub StaysRunSoFar : RunSoFar → RunSoFar → Type 0
StaysRunSoFar old new = (program : ProgramShape) → IsRunSoFar program old → IsRunSoFar program new

-- why a run stops before this state
abbrev pub StopsBefore : State → RunFault → Type 0
StopsBefore state (WrongInputs wanted) = ⊥
StopsBefore state Deep = most_frames < state.depth
StopsBefore state (Memory refusal) = Unit {0}

-- only a call and a print allocate
abbrev pub TakesMemory : Option Inst → Type 0
TakesMemory (Some (Call into unit operands)) = Unit {0}
TakesMemory (Some (Print a)) = Unit {0}
TakesMemory _ = ⊥

-- the lists have as much room as before, so nothing was allocated for them
pub record SameStackRoom (old new : Stack) : Type 0 where
  pub callers : vec_capacity new.callers ≡ vec_capacity old.callers
  pub values : vec_capacity new.values ≡ vec_capacity old.values

-- and so has the list of what was printed
pub record SameRoom (old new : RunSoFar) : Type 0 where
  pub printed : vec_capacity new.printed ≡ vec_capacity old.printed
  pub stack : SameStackRoom old.stack new.stack

-- so many values from `from` on were copied to `to`
pub record AreCopiedWithin (old new : List ℤ) (from to n : ℕ) : Type 0 where
  pub below : SameBelow old new to
  pub copied : CopiedTo old new from to n
  pub rest : SameFrom old new (to + n)
