-- Runs of one frame of a unit or of a graph, when two of them do the same, and when one evaluates no more operators
-- than the other. Cited by contracts.
use Rattle.std.specs.Prelude.{◌≡◌, ℕ, zero, suc, ◌+◌, ◌≤◌, List, [], ◌∷◌, length, ℤ, All, FitsSigned}
use Rattle.mir_base.specs.declared.operators.Trap.{Trap}
use Rattle.mir_base.specs.declared.instructions.Inst.{Inst}
use Rattle.mir_base.specs.Shapes.{UnitShape, ProgramShape, body_at, receives_in}
use Rattle.mir_base.specs.Frames.{CallEntry, Answer, Frame, first_frame, resumed, Transition, Continues, Prints, Calls, Returns, Traps, Code}
use Rattle.mir_base.specs.Units.{body_code}
use Rattle.mir_base.specs.Runs.{AreNumbers, IsPrefix}
use mir.Syntax.{w64}

-- ---- runs of one frame

-- what others see of a frame
pub data Event : Type 0 where
  Printed : (value : ℤ) → Event
  Called : (unit : ℕ) (entry : CallEntry) → Event
  Returned : (answer : Answer) → Event
  Trapped : (kind : Trap) → Event

-- what a run of one frame shows: its events in order, and how many evaluations it counted
pub record Shown : Type 0 where
  pub events : List Event
  pub counted : ℕ

-- no event, and no evaluation
abbrev pub nothing : Shown
nothing = record { events = []; counted = 0 }

-- so many evaluations before what is shown
abbrev pub counting : ℕ → Shown → Shown
counting n shown = record shown { counted = n + shown.counted }

-- an event before what is shown
abbrev pub showing : Event → Shown → Shown
showing event shown = record shown { events = event ∷ shown.events }

-- what a transition shows, and what is shown after it. A call takes the next answer; where there is none, nothing is
-- shown after the call's event, as after a return and after a trap
abbrev pub after_transition : (Frame → List Answer → Shown) → Transition → List Answer → Shown
after_transition go (Continues counted next) answers = counting counted (go next answers)
after_transition go (Prints value next) answers = showing (Printed value) (go next answers)
after_transition go (Calls unit entry into next) [] = showing (Called unit entry) nothing
after_transition go (Calls unit entry into next) (answer ∷ answers) =
    showing (Called unit entry) (go (resumed into answer next) answers)
after_transition go (Returns answer) answers = showing (Returned answer) nothing
after_transition go (Traps kind counted) answers = counting counted (showing (Trapped kind) nothing)

-- n steps of one frame, whose calls get these answers in order
abbrev pub frame_run : Code → ℕ → Frame → List Answer → Shown
frame_run code zero frame answers = nothing
frame_run code (suc n) frame answers = after_transition (frame_run code n) (code frame) answers

-- the last event is a return
abbrev pub EndsInReturn : List Event → Type 0
EndsInReturn [] = ⊥
EndsInReturn (Printed value ∷ events) = EndsInReturn events
EndsInReturn (Called unit entry ∷ events) = EndsInReturn events
EndsInReturn (Trapped kind ∷ events) = EndsInReturn events
EndsInReturn (Returned answer ∷ []) = Unit {0}
EndsInReturn (Returned answer ∷ event ∷ events) = EndsInReturn (event ∷ events)

-- ---- machines

-- a unit or a graph, as far as its runs go: how many arguments it takes, how many of its variables are globals, and
-- what it does at each frame
pub record Machine : Type 0 where
  pub receives : ℕ
  pub shared : ℕ
  pub code : Code

-- the machine of a body, where the first so many variables are shared
abbrev pub body_machine : ℕ → List Inst → Machine
body_machine shared
    body = record { receives = receives_in body; shared = shared; code = body_code shared body }

-- the machine of a unit's body
abbrev pub unit_machine : UnitShape → Machine
unit_machine unit = body_machine unit.shared unit.body

-- the unit of this number, with the globals of the program
abbrev pub machine_at : ProgramShape → ℕ → Machine
machine_at program number = body_machine (length program.globals) (body_at program.units number)

-- n steps from the machine's first frame
abbrev pub unit_run : Machine → CallEntry → List Answer → ℕ → Shown
unit_run machine entry answers n = frame_run machine.code n (first_frame entry) answers

-- the values of so many globals: signed 64-bit numbers
pub record AreGlobals (shared : ℕ) (globals : List ℤ) : Type 0 where
  pub long : length globals ≡ shared
  pub numbers : AreNumbers globals

-- a call of this machine may hand this over: signed 64-bit numbers, as many as it receives, and the globals
pub record IsEntry (machine : Machine) (entry : CallEntry) : Type 0 where
  pub long : length entry.arguments ≡ machine.receives
  pub numbers : AreNumbers entry.arguments
  pub globals : AreGlobals machine.shared entry.globals

-- a call may be answered so: by a signed 64-bit number, and by so many globals
pub record IsCallAnswer (shared : ℕ) (answer : Answer) : Type 0 where
  pub number : FitsSigned w64 answer.value
  pub globals : AreGlobals shared answer.globals

-- each of these may answer a call
abbrev pub AreAnswers : ℕ → List Answer → Type 0
AreAnswers shared answers = All (IsCallAnswer shared) answers

-- ---- sameness

-- for all arguments, first values of the globals and answers, the events of the first after any number of steps are a
-- prefix of the events of the second after some number of steps
pub record UnitFollows (first second : Machine) : Type 0 where
  pub follows : (entry : CallEntry) (answers : List Answer) → IsEntry first entry
      → AreAnswers first.shared answers
      → (n : ℕ) → (m : ℕ)
      × IsPrefix (unit_run first entry answers n).events (unit_run second entry answers m).events

-- the two take equally many arguments and have equally many globals, and on all of them, with all answers to their
-- calls, show the same events
pub record UnitSame (first second : Machine) : Type 0 where
  pub receives : first.receives ≡ second.receives
  pub shared : first.shared ≡ second.shared
  pub forth : UnitFollows first second
  pub back : UnitFollows second first

-- where both return, the second has counted at most as many evaluations as the first
pub record UnitCheaper (first second : Machine) : Type 0 where
  pub cheaper : (entry : CallEntry) (answers : List Answer) → IsEntry first entry
      → AreAnswers first.shared answers
      → (n m : ℕ) → EndsInReturn (unit_run first entry answers n).events
      → EndsInReturn (unit_run second entry answers m).events
      → (unit_run second entry answers m).counted ≤ (unit_run first entry answers n).counted
