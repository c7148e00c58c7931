-- Runs of a program as a stack of frames, when two programs are the same, and when one evaluates no more operators than
-- the other. Cited by contracts.
use Rattle.std.specs.Prelude.{◌≡◌, ℕ, zero, suc, ◌+◌, ◌≤◌, max, List, [], ◌∷◌, ◌++◌, length, replicate, ℤ, pos, Option, All, FitsSigned}
use Rattle.mir_base.specs.declared.operators.Trap.{Trap}
use Rattle.mir_base.specs.Shapes.{ProgramShape, body_at, receives_in}
use Rattle.mir_base.specs.Frames.{CallEntry, Answer, Frame, first_frame, resumed, Transition, Continues, Prints, Calls, Returns, Traps, Code}
use Rattle.mir_base.specs.Units.{body_code}
use mir.Syntax.{w64}

-- all are signed 64-bit numbers
abbrev pub AreNumbers : List ℤ → Type 0
AreNumbers zs = All (FitsSigned w64) zs

-- the second list begins with the first
abbrev pub IsPrefix : {A : Type 0} → List A → List A → Type 0
IsPrefix {A} xs ys = (rest : List A) × (ys ≡ xs ++ rest)

-- ---- states

-- a frame that waits for its call's answer
pub record Caller : Type 0 where
  pub unit : ℕ
  pub into : Option ℕ
  pub frame : Frame

-- where a run stands
pub data Control : Type 0 where
  -- the frame of this unit steps next; the callers wait, the latest first
  Running : (unit : ℕ) (frame : Frame) (callers : List Caller) → Control
  Ended : (result : ℤ) → Control
  Stopped : (kind : Trap) → Control

-- what was printed, where the run stands, the evaluations so far, and the greatest number of frames so far
pub record State : Type 0 where
  pub printed : List ℤ
  pub control : Control
  pub counted : ℕ
  pub depth : ℕ

-- what a run begins with: the inputs as arguments, and each of so many globals 0
abbrev pub first_entry : ℕ → List ℤ → CallEntry
first_entry shared inputs = record { arguments = inputs; globals = replicate shared (pos 0) }

-- a frame of the first unit, with so many globals, and nothing printed or counted
abbrev pub first_state : ℕ → List ℤ → State
first_state shared inputs =
    record {
      printed = [];
      control = Running 0 (first_frame (first_entry shared inputs)) [];
      counted = 0;
      depth = 1;
    }

-- ---- steps

-- the answer goes to the latest caller; where there is none, it is the result of the run
abbrev pub returned : Answer → List Caller → Control
returned answer [] = Ended answer.value
returned answer (caller ∷ callers) =
    Running caller.unit (resumed caller.into answer caller.frame) callers

-- the state after a transition of the running frame
abbrev pub state_after : ℕ → List Caller → Transition → State → State
state_after unit callers (Continues counted next) state =
    record state { control = Running unit next callers; counted = state.counted + counted }
state_after unit callers (Prints v next) state =
    record state { control = Running unit next callers; printed = state.printed ++ v ∷ [] }
state_after unit callers (Calls called entry into next) state =
    record state {
      control = Running called (first_frame entry)
          (record { unit = unit; into = into; frame = next } ∷ callers);
      depth = max state.depth (suc (suc (length callers)));
    }
state_after unit callers (Returns answer) state = record state { control = returned answer callers }
state_after unit callers (Traps kind counted) state =
    record state { control = Stopped kind; counted = state.counted + counted }

-- one step, where unit number u does `codes u`; a run that is over stays as it is
abbrev pub step_at : (ℕ → Code) → Control → State → State
step_at codes (Running unit frame callers) state = state_after unit callers (codes unit frame) state
step_at codes (Ended result) state = state
step_at codes (Stopped kind) state = state

-- one step of a run
abbrev pub step : (ℕ → Code) → State → State
step codes state = step_at codes state.control state

-- n steps, one after the other
abbrev pub steps : (ℕ → Code) → ℕ → State → State
steps codes zero state = state
steps codes (suc n) state = steps codes n (step codes state)

-- ---- programs

-- what each unit does, by number
abbrev pub codes_of : ProgramShape → ℕ → Code
codes_of program number = body_code (length program.globals) (body_at program.units number)

-- as many inputs as the first unit has receives
abbrev pub inputs_of : ProgramShape → ℕ
inputs_of program = receives_in (body_at program.units 0)

-- the state after n steps, or at the end if that comes first
abbrev pub run : ProgramShape → List ℤ → ℕ → State
run program inputs n = steps (codes_of program) n (first_state (length program.globals) inputs)

-- ---- sameness

-- where the first run is over, so is the second, with equal prints and an equal result or trap
abbrev pub IsOverAs : State → State → Control → Type 0
IsOverAs first second (Running unit frame callers) = Unit {0}
IsOverAs first second (Ended result) = (second.control ≡ Ended result)
    × (second.printed ≡ first.printed)
IsOverAs first second (Stopped kind) = (second.control ≡ Stopped kind)
    × (second.printed ≡ first.printed)

-- what the first run printed is a prefix of what the second did, which is over where the first is
pub record IsMatched (first second : State) : Type 0 where
  pub prints : IsPrefix first.printed second.printed
  pub over : IsOverAs first second first.control

-- for all inputs and every number of steps of the first, some number of steps of the second matches
pub record Follows (first second : ProgramShape) : Type 0 where
  pub follows : (inputs : List ℤ) → length inputs ≡ inputs_of first → AreNumbers inputs → (n : ℕ)
      → (m : ℕ)
      × IsMatched (run first inputs n) (run second inputs m)

-- the two take equally many inputs, and on all of them print the same, end the same, raise the same trap or run on
-- alike
pub record Same (first second : ProgramShape) : Type 0 where
  pub inputs : inputs_of first ≡ inputs_of second
  pub forth : Follows first second
  pub back : Follows second first

-- on all inputs on which both end, the second has counted at most as many evaluations as the first
pub record Cheaper (first second : ProgramShape) : Type 0 where
  pub cheaper : (inputs : List ℤ) → length inputs ≡ inputs_of first → AreNumbers inputs
      → (n m : ℕ) (v w : ℤ)
      → (run first inputs n).control ≡ Ended v → (run second inputs m).control ≡ Ended w
      → (run second inputs m).counted ≤ (run first inputs n).counted
