-- What the least states of a graph say is true of its runs. Cited by contracts.
use Rattle.std.specs.Prelude.{◌≡◌, ℕ, ℤ, List, length, Option}
use Rattle.mir_base.specs.Frames.{Frame, Values}
use Rattle.flow_graph.specs.Graphs.{GraphShape}
use Rattle.flow_graph.specs.Machines.{machine_of}
use Rattle.flow_graph.specs.RunFrames.{IsRunFrame}
use Rattle.cond_flow.specs.Rules.{AreHeld, Rules}
use Rattle.cond_flow.specs.States.{NodeState, Unreached, Knows}
use Rattle.cond_flow.specs.Solutions.{HasLeastStates}
use Rattle.cond_flow.specs.KnownBefore.{state_of_known}

-- these values agree with the state of a node: none do where no run comes to the node
abbrev pub HoldsAt : {K : Type 0} → (K → ℤ → Type 0) → Rules K → NodeState K → Values → Type 0
HoldsAt holds rules (Unreached size) values = ⊥
HoldsAt holds rules (Knows known) values = AreHeld holds rules known values

-- wherever a run of the graph comes to a node, its values agree with the node's state
abbrev pub HoldInRuns : {K : Type 0} → (K → ℤ → Type 0) → Rules K → GraphShape → (ℕ → NodeState K)
    → Type 0
HoldInRuns holds rules graph states = (frame : Frame) → IsRunFrame (machine_of graph) frame
    → HoldsAt holds rules (states frame.place) frame.values

-- so it is of the least states of the graph
abbrev pub StatesHold : {K : Type 0} → (K → K → Type 0) → (K → ℤ → Type 0) → Rules K → GraphShape
    → Type 0
StatesHold {K = K} below holds rules graph =
    (states : ℕ → NodeState K) → HasLeastStates below rules graph states
    → HoldInRuns holds rules graph states

-- wherever a run of the graph comes to this node, its values agree with what is known before the node; no run comes
-- there where that is None
abbrev pub HoldsBefore : {K : Type 0} → (K → ℤ → Type 0) → Rules K → GraphShape → ℕ
    → Option (List K) → Type 0
HoldsBefore holds rules graph node known =
    (frame : Frame) → IsRunFrame (machine_of graph) frame → frame.place ≡ node
    → HoldsAt holds rules (state_of_known (length graph.vars) known) frame.values
