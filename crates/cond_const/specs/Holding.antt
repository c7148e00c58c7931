-- What the least states of a graph say is true of its runs. Cited by contracts.
use Rattle.std.specs.Prelude.{◌≡◌, ℕ, ℤ, List, length, Option}
use Rattle.mir_base.specs.Frames.{Frame, Values}
use Rattle.flow_graph.specs.Graphs.{GraphShape}
use Rattle.flow_graph.specs.Machines.{machine_of}
use Rattle.flow_graph.specs.RunFrames.{IsRunFrame}
use Rattle.cond_const.specs.declared.known.Known.{Known}
use Rattle.cond_const.specs.declared.known.Known.TheVariants.{Fixed}
use Rattle.cond_const.specs.States.{NodeState, Unreached, Knows}
use Rattle.cond_const.specs.Folding.{known_at}
use Rattle.cond_const.specs.Folded.{HasLeastStates}
use Rattle.cond_const.specs.KnownBefore.{state_of_known}

-- each variable of which a constant is known has it
pub record Agrees (known : List Known) (values : Values) : Type 0 where
  pub is : (x : ℕ) (c : ℤ) → known_at known x ≡ Fixed c → values x ≡ c

-- these values agree with the state of a node: none do where no run comes to the node
abbrev pub HoldsAt : NodeState → Values → Type 0
HoldsAt (Unreached size) values = ⊥
HoldsAt (Knows known) values = Agrees known values

-- wherever a run of the graph comes to a node, its values agree with the node's state. So no run comes to a node whose
-- state is "unreached"
abbrev pub HoldInRuns : GraphShape → (ℕ → NodeState) → Type 0
HoldInRuns graph states = (frame : Frame) → IsRunFrame (machine_of graph) frame
    → HoldsAt (states frame.place) frame.values

-- so it is of the least states of the graph
abbrev pub StatesHold : GraphShape → Type 0
StatesHold graph = (states : ℕ → NodeState) → HasLeastStates graph states → HoldInRuns graph states

-- wherever a run of the graph comes to this node, its values agree with what is known before the node; no run comes
-- there where that is None
abbrev pub HoldsBefore : GraphShape → ℕ → Option (List Known) → Type 0
HoldsBefore graph node known =
    (frame : Frame) → IsRunFrame (machine_of graph) frame → frame.place ≡ node
    → HoldsAt (state_of_known (length graph.vars) known) frame.values
