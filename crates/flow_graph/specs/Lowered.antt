-- The graph of a unit: Start for the receives, and a node for each other place that is reached. Cited by contracts of
-- `lower` and of what calls it.
use Rattle.std.specs.Prelude.{◌≡◌, ℕ, suc, ◌<◌, ◌≤◌, List, [], ◌∷◌, slice_get, pos, Option, Some, None}
use Rattle.mir_base.specs.declared.instructions.Operand.TheVariants.{Const}
use Rattle.mir_base.specs.declared.instructions.Inst.{Inst}
use Rattle.mir_base.specs.declared.instructions.Inst.TheVariants as insts
use Rattle.mir_base.specs.Shapes.{UnitShape, receives_in, IsTarget}
use Rattle.flow_graph.specs.declared.nodes.Node.{Node}
use Rattle.flow_graph.specs.declared.nodes.Node.TheVariants.{Start, Skip, Assign, Print, Guard, Call, Test, Return}
use Rattle.flow_graph.specs.Graphs.{GraphShape}
use Rattle.flow_graph.specs.Retained.{IsMade}

-- The node of the instruction at place p, where the node of place q has the number q + 1. A receive has none of its
-- own, since Start does its work: no node leads to the Return that stands for it
abbrev pub place_node : ℕ → Inst → Node
place_node p (insts.Receive x) = Return (Const (pos 0))
place_node p (insts.Assign x rhs) = Assign x rhs (suc (suc p))
place_node p (insts.Goto place) = Skip (suc place)
place_node p (insts.If test place) = Test test (suc place) (suc (suc p))
place_node p (insts.Call into unit operands) = Call into unit operands (suc (suc p))
place_node p (insts.Print a) = Print a (suc (suc p))
place_node p (insts.TrapIf test number) = Guard test number (suc (suc p))
place_node p (insts.Return a) = Return a

-- the nodes of the places from p on, and last the one of the place of `end`, which returns 0
abbrev pub nodes_from : ℕ → List Inst → List Node
nodes_from p [] = Return (Const (pos 0)) ∷ []
nodes_from p (inst ∷ insts) = place_node p inst ∷ nodes_from (suc p) insts

-- Start, which leads to the first place after the receives, and a node for each place
abbrev pub all_nodes : List Inst → List Node
all_nodes body = Start (suc (receives_in body)) ∷ nodes_from 0 body

-- the variables of the receives that stand first
abbrev pub received_in : List Inst → List ℕ
received_in [] = []
received_in (insts.Receive x ∷ insts) = x ∷ received_in insts
received_in (_ ∷ insts) = []

-- where a jump goes
abbrev pub target_of : Option Inst → Option ℕ
target_of (Some (insts.Goto target)) = Some target
target_of (Some (insts.If test target)) = Some target
target_of _ = None

-- the receives stand first and name distinct variables, none of them a global, and the targets of jumps are at least
-- the number of receives and at most the length of the body
pub record CanLower (shared : ℕ) (body : List Inst) : Type 0 where
  pub first : (place x : ℕ) → slice_get body place ≡ Some (insts.Receive x)
      → place < receives_in body
  pub received : (i j x : ℕ) → slice_get body i ≡ Some (insts.Receive x)
      → slice_get body j ≡ Some (insts.Receive x)
      → i ≡ j
  pub own : (place x : ℕ) → slice_get body place ≡ Some (insts.Receive x) → shared ≤ x
  pub targets : (place target : ℕ) → target_of (slice_get body place) ≡ Some target
      → IsTarget body target

-- The graph of the unit. Of Start and the nodes of all places those that are reached are retained, in order of place,
-- so that the receives, to which no target leads, have no node. Variables keep their numbers
pub record IsLowered (unit : UnitShape) (graph : GraphShape) : Type 0 where
  pub made : IsMade unit.name unit.shared unit.vars (received_in unit.body)
      (all_nodes unit.body) graph
