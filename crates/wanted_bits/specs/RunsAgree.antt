-- Along a run each variable agrees with what it was in the bits that are wanted. Cited by contracts.
use Rattle.std.specs.Prelude.{◌≡◌, ℕ, zero, suc, List, [], ◌∷◌, Option, Some, None}
use Rattle.mir_base.specs.Frames.{Answer, CallEntry, Code, Frame, first_frame, resumed, Transition, Continues, Prints, Calls, Returns, Traps}
use Rattle.mir_base.specs.UnitRuns.{AreAnswers, IsEntry}
use Rattle.flow_graph.specs.Graphs.{GraphShape}
use Rattle.flow_graph.specs.Machines.{machine_of}
use Rattle.wanted_bits.specs.Agreement.{AgreeBelow}
use Rattle.wanted_bits.specs.declared.picking.Shift.{Shift}
use Rattle.wanted_bits.specs.MostRemoved.{TellShifts}
use Rattle.wanted_bits.specs.Wanted.{AreLeastWanted}

-- where a step leads, after which a run goes on so: nowhere after a return and a trap, and after a call that gets no
-- answer any more
abbrev pub frame_past : (Frame → List Answer → Option Frame) → Transition → List Answer
    → Option Frame
frame_past go (Continues counted next) answers = go next answers
frame_past go (Prints value next) answers = go next answers
frame_past go (Calls unit entry into next) [] = None
frame_past go (Calls unit entry into next) (answer ∷ answers) =
    go (resumed into answer next) answers
frame_past go (Returns answer) answers = None
frame_past go (Traps kind counted) answers = None

-- the frame after n steps, whose calls get these answers in order
abbrev pub frame_after : Code → ℕ → Frame → List Answer → Option Frame
frame_after code zero frame answers = Some frame
frame_after code (suc n) frame answers = frame_past (frame_after code n) (code frame) answers

-- there is none on both sides, or both stand at one node, and the values agree in as many of the lowest bits as are
-- wanted there
abbrev pub AgreeThere : (ℕ → ℕ → ℕ) → Option Frame → Option Frame → Type 0
AgreeThere wanted None None = Unit {0}
AgreeThere wanted (Some f) (Some g) =
    (g.place ≡ f.place) × ((x : ℕ) → AgreeBelow (wanted f.place x) (f.values x) (g.values x))
AgreeThere wanted _ _ = ⊥

-- by the least numbers of wanted bits, after every number of steps of both from one entry, with the same answers
pub record RunsAgree (graph narrowed : GraphShape) : Type 0 where
  pub shifts : ℕ → ℕ → Option Shift
  pub tell : TellShifts graph shifts
  pub wanted : ℕ → ℕ → ℕ
  pub least : AreLeastWanted graph shifts wanted
  pub agree : (entry : CallEntry) (answers : List Answer) (n : ℕ) → IsEntry (machine_of graph) entry
      → AreAnswers graph.shared answers
      → AgreeThere wanted (frame_after (machine_of graph).code n (first_frame entry) answers)
      (frame_after (machine_of narrowed).code n (first_frame entry) answers)
