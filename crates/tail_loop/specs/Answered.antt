-- What is looked for to find self tail calls and their arguments, as functions of one node. Cited by contracts of
-- private functions.
use Rattle.std.specs.Prelude.{ℕ, if◌then◌else◌, nat_eq, nat_lt, List, [], Option, Some, None}
use Rattle.mir_base.specs.declared.instructions.Operand.{Operand}
use Rattle.mir_base.specs.declared.instructions.Operand.TheVariants.{Var}
use Rattle.flow_graph.specs.declared.nodes.Node.{Node}
use Rattle.flow_graph.specs.declared.nodes.Node.TheVariants.{Call, Return}
use Rattle.tail_loop.specs.declared.calls.Answered.{Answered}

-- the variable and the successor of a call of the unit whose answer goes to a variable that is none of the globals, of
-- which there are so many
abbrev pub answered_call : ℕ → ℕ → Node → Option Answered
answered_call shared unit (Call (Some x) called operands next) =
    if nat_eq called unit
    then (if nat_lt x shared then None else Some (record { into = x; next = next })) else None
answered_call shared unit _ = None

-- the variable that the node returns
abbrev pub returned_var : Node → Option ℕ
returned_var (Return (Var x)) = Some x
returned_var _ = None

-- the same of a node that may be absent
abbrev pub answered_at : ℕ → ℕ → Option Node → Option Answered
answered_at shared unit None = None
answered_at shared unit (Some node) = answered_call shared unit node

-- and the variable that it returns
abbrev pub returned_at : Option Node → Option ℕ
returned_at None = None
returned_at (Some node) = returned_var node

-- the arguments of a call
abbrev pub operands_of : Node → List Operand
operands_of (Call into unit operands next) = operands
operands_of _ = []

-- those of a node that may be absent
abbrev pub operands_at : Option Node → List Operand
operands_at None = []
operands_at (Some node) = operands_of node
