-- Frames, and what one step of a frame does. Whatever has instructions or nodes steps by such a `Code`. Cited by
-- contracts.
use Rattle.std.specs.Prelude.{ℕ, if◌then◌else◌, nat_eq, List, map, ℤ, pos, Option, Some, None, slice_index_or}
use Rattle.std.specs.List.{range_with_len}
use Rattle.mir_base.specs.declared.operators.Trap.{Trap}

-- the values of the variables, by number
abbrev pub Values : Type 0
Values = ℕ → ℤ

-- each variable is 0
abbrev pub all_zero : Values
all_zero x = pos 0

-- the same values, but for one variable
abbrev pub with_value : ℕ → ℤ → Values → Values
with_value x v values y = if nat_eq y x then v else values y

-- the first values are these, and the others as they were
abbrev pub with_first : List ℤ → Values → Values
with_first firsts values x = slice_index_or firsts x (values x)

-- the shared variables, which are the first of each unit
abbrev pub shared_vars : ℕ → List ℕ
shared_vars shared = range_with_len 0 shared

-- the values of so many shared variables
abbrev pub shared_values : ℕ → Values → List ℤ
shared_values shared values = map values (shared_vars shared)

-- where a frame stands, the arguments that it was called with, and the values of its variables, of which the first are
-- the globals. Only those of the running frame are in use: a call hands them over, and a return hands them back
pub record Frame : Type 0 where
  pub place : ℕ
  pub arguments : List ℤ
  pub values : Values

-- what a call hands over: the arguments, and the values of the globals
pub record CallEntry : Type 0 where
  pub arguments : List ℤ
  pub globals : List ℤ

-- what a return hands back: its value, and the values of the globals
pub record Answer : Type 0 where
  pub value : ℤ
  pub globals : List ℤ

-- a frame at its start: place 0, the globals as they were handed over, and all other variables 0
abbrev pub first_frame : CallEntry → Frame
first_frame
    entry = record {
      place = 0;
      arguments = entry.arguments;
      values = with_first entry.globals all_zero;
    }

-- the variable, where there is one, gets the value
abbrev pub with_result : Option ℕ → ℤ → Values → Values
with_result None v values = values
with_result (Some x) v values = with_value x v values

-- the caller goes on: its globals are those handed back, and then its variable, where the call names one, gets the
-- value
abbrev pub resumed : Option ℕ → Answer → Frame → Frame
resumed into answer frame =
    record frame { values = with_result into answer.value (with_first answer.globals frame.values) }

-- what one step of a frame does: the next frame, and at most one event
pub data Transition : Type 0 where
  -- it goes on with no event, and has counted so many evaluations
  Continues : (counted : ℕ) (next : Frame) → Transition
  Prints : (value : ℤ) (next : Frame) → Transition
  -- it calls a unit, and goes on from `next` once `into` has the answer
  Calls : (unit : ℕ) (entry : CallEntry) (into : Option ℕ) (next : Frame) → Transition
  Returns : (answer : Answer) → Transition
  Traps : (kind : Trap) (counted : ℕ) → Transition

-- what is done at each frame
abbrev pub Code : Type 0
Code = Frame → Transition
