-- Which units are called, and with how many arguments: a rewriting that makes no other calls gives units that fit
-- into the program again. Cited by contracts, those of the passes above too.
use Rattle.std.specs.Prelude.{◌≡◌, ℕ, List, length, slice_get, Option, Some, None}
use Rattle.mir_base.specs.declared.instructions.Inst.{Inst}
use Rattle.mir_base.specs.declared.instructions.Inst.TheVariants as insts
use Rattle.flow_graph.specs.declared.nodes.Node.{Node}
use Rattle.flow_graph.specs.declared.nodes.Node.TheVariants.{Start, Skip, Assign, Print, Guard, Call, Test, Return}

-- the unit that an instruction calls, and the number of arguments
abbrev pub inst_call : Inst → Option (ℕ × ℕ)
inst_call (insts.Receive x) = None
inst_call (insts.Assign x rhs) = None
inst_call (insts.Goto place) = None
inst_call (insts.If test place) = None
inst_call (insts.Call into unit operands) = Some (unit, length operands)
inst_call (insts.Print a) = None
inst_call (insts.TrapIf test number) = None
inst_call (insts.Return a) = None

-- the unit that a node calls, and the number of arguments
abbrev pub node_call : Node → Option (ℕ × ℕ)
node_call (Start next) = None
node_call (Skip next) = None
node_call (Assign x rhs next) = None
node_call (Print a next) = None
node_call (Guard test number next) = None
node_call (Call into unit operands next) = Some (unit, length operands)
node_call (Test test taken other) = None
node_call (Return a) = None

-- some instruction of the body calls the unit with so many arguments
pub record BodyCalls (body : List Inst) (called count : ℕ) : Type 0 where
  pub place : ℕ
  pub inst : Inst
  pub here : slice_get body place ≡ Some inst
  pub calls : inst_call inst ≡ Some (called, count)

-- some node calls the unit with so many arguments
pub record NodesCall (nodes : List Node) (called count : ℕ) : Type 0 where
  pub number : ℕ
  pub node : Node
  pub here : slice_get nodes number ≡ Some node
  pub calls : node_call node ≡ Some (called, count)

-- each call of the one, as `BodyCalls body` or `NodesCall nodes`, is a call of the other
abbrev pub CallsAmong : (ℕ → ℕ → Type 0) → (ℕ → ℕ → Type 0) → Type 0
CallsAmong new old = (called count : ℕ) → new called count → old called count
