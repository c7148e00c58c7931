-- The frames of the runs of a graph or a unit: what a table says of a node is meant of each run that comes there. Cited by
-- contracts of the passes above.
use Rattle.std.specs.Prelude.{◌≡◌, ℕ, zero, suc, List, [], ◌∷◌, Option, Some, None}
use Rattle.mir_base.specs.Frames.{CallEntry, Answer, Frame, first_frame, resumed, Transition, Continues, Prints, Calls, Returns, Traps, Code}
use Rattle.mir_base.specs.UnitRuns.{Machine, AreAnswers, IsEntry}

-- the frame that comes of a transition and the steps behind it. A call takes the next answer; where there is none, and
-- after a return or a trap, there is no further frame
abbrev pub frame_after_transition : (Frame → List Answer → Option Frame) → Transition → List Answer
    → Option Frame
frame_after_transition go (Continues counted next) answers = go next answers
frame_after_transition go (Prints value next) answers = go next answers
frame_after_transition go (Calls unit entry into next) [] = None
frame_after_transition go (Calls unit entry into next) (answer ∷ answers) =
    go (resumed into answer next) answers
frame_after_transition go (Returns answer) answers = None
frame_after_transition go (Traps kind counted) answers = None

-- the frame after n steps of `frame_run`, where the run goes on so far
abbrev pub frame_after : Code → ℕ → Frame → List Answer → Option Frame
frame_after code zero frame answers = Some frame
frame_after code (suc n) frame answers =
    frame_after_transition (frame_after code n) (code frame) answers

-- this is the frame of some run of the machine after some number of steps: with some arguments, first values of the
-- globals and answers to its calls the run comes to its place, and the variables have its values
pub record IsRunFrame (machine : Machine) (frame : Frame) : Type 0 where
  pub entry : CallEntry
  pub answers : List Answer
  pub is_entry : IsEntry machine entry
  pub are_answers : AreAnswers machine.shared answers
  pub steps : ℕ
  pub is : frame_after machine.code steps (first_frame entry) answers ≡ Some frame
