-- What one step of a graph does: a graph as a machine, whose runs are compared with those of units and other graphs.
-- Cited by contracts, those of the passes above too.
use Rattle.std.specs.Prelude.{ℕ, suc, if◌then◌else◌, List, [], ◌∷◌, map, length, slice_get, ℤ, pos, Option, Some, None, slice_index_or}
use Rattle.mir_base.specs.Frames.{Values, all_zero, shared_values, with_first, with_value, Frame, Transition, Continues, Prints, Calls, Returns, Code}
use Rattle.mir_base.specs.Units.{operand_value, test_holds, at, assign_transition, guard_transition}
use Rattle.mir_base.specs.UnitRuns.{Machine}
use Rattle.flow_graph.specs.declared.nodes.Node.{Node}
use Rattle.flow_graph.specs.declared.nodes.Node.TheVariants.{Start, Skip, Assign, Print, Guard, Call, Test, Return}
use Rattle.flow_graph.specs.Graphs.{GraphShape}

-- the received variables from number i on take the arguments from number i on
abbrev pub received_from : ℕ → List ℕ → List ℤ → Values → Values
received_from i [] arguments values = values
received_from i (x ∷ xs) arguments values =
    received_from (suc i) xs arguments (with_value x (slice_index_or arguments i (pos 0)) values)

-- one node, where the first so many variables are globals. Start keeps them, and every other variable becomes 0 before
-- the received ones get the arguments. Where there is no node, which no graph comes to, the frame returns 0
abbrev pub node_transition : ℕ → List ℕ → Option Node → Frame → Transition
node_transition shared received None frame =
    Returns (record { value = pos 0; globals = shared_values shared frame.values })
node_transition shared received (Some (Start next)) frame =
    Continues 0
    (record {
      place = next;
      arguments = frame.arguments;
      values =
          received_from 0 received frame.arguments
          (with_first (shared_values shared frame.values) all_zero);
    })
node_transition shared received (Some (Skip next)) frame = Continues 0 (at next frame)
node_transition shared received (Some (Assign x rhs next)) frame =
    assign_transition x rhs next frame
node_transition shared received (Some (Print a next)) frame =
    Prints (operand_value frame.values a) (at next frame)
node_transition shared received (Some (Guard test number next)) frame =
    guard_transition test number next frame
node_transition shared received (Some (Call into unit operands next)) frame =
    Calls unit (record {
      arguments = map (operand_value frame.values) operands;
      globals = shared_values shared frame.values;
    }) into
    (at next frame)
node_transition shared received (Some (Test test taken other)) frame =
    Continues 0 (at (if test_holds frame.values test then taken else other) frame)
node_transition shared received (Some (Return a)) frame =
    Returns (record {
      value = operand_value frame.values a;
      globals = shared_values shared frame.values;
    })

-- the place of a frame is the number of its node
abbrev pub graph_code : ℕ → List ℕ → List Node → Code
graph_code shared received nodes frame =
    node_transition shared received (slice_get nodes frame.place) frame

-- the machine of nodes and received variables, with so many globals
abbrev pub graph_machine : ℕ → List ℕ → List Node → Machine
graph_machine shared received nodes =
    record { receives = length received; shared = shared; code = graph_code shared received nodes }

-- the machine of a graph
abbrev pub machine_of : GraphShape → Machine
machine_of graph = graph_machine graph.shared graph.received graph.nodes
