-- What held assignments say of the values in runs. Cited by contracts.
use Rattle.std.specs.Prelude.{◌≡◌, ℕ}
use Rattle.mir_base.specs.declared.instructions.Rhs.{Rhs}
use Rattle.mir_base.specs.Expressions.{rhs_value}
use Rattle.mir_base.specs.Frames.{Frame}
use Rattle.flow_graph.specs.Graphs.{GraphShape}
use Rattle.flow_graph.specs.Machines.{machine_of}
use Rattle.flow_graph.specs.RunFrames.{IsRunFrame}
use Rattle.held_assign.specs.Holding.{IsHeld}

-- each variable has the value of the right side that holds for it at the place of the frame
abbrev pub AgreesThere : GraphShape → Frame → Type 0
AgreesThere graph frame = (v : ℕ) (rhs : Rhs) → IsHeld graph v rhs frame.place
    → frame.values v ≡ rhs_value frame.values rhs

-- wherever a run of the graph comes to, it is so
abbrev pub HeldValuesAgree : GraphShape → Type 0
HeldValuesAgree graph =
    (frame : Frame) → IsRunFrame (machine_of graph) frame → AgreesThere graph frame
