-- The graph in which copies give way to what they copy. Cited by contracts, those of mir_opt too.
use Rattle.std.specs.Prelude.{ℕ, if◌then◌else◌, map, Option}
use Rattle.mir_base.specs.declared.instructions.Rhs.{Rhs}
use Rattle.flow_graph.specs.declared.nodes.Node.{Node}
use Rattle.flow_graph.specs.declared.nodes.Node.TheVariants.{Start, Skip, Assign, Print, Guard, Call, Test, Return}
use Rattle.flow_graph.specs.Graphs.{GraphShape}
use Rattle.flow_graph.specs.Numbering.{renamed_operand, renamed_rhs, renamed_test}
use Rattle.held_assign.specs.HeldPasses.{IsMadeByHeld, IsOnlyMadeByHeld}
use Rattle.copy_flow.specs.Copies.{is_copy, is_var, read_for}

-- ---- what a node becomes, where `read` tells for each variable which one is read in its place

-- an assignment; that of a variable to itself is a Skip
abbrev pub assigned_unless_itself : ℕ → Rhs → ℕ → Node
assigned_unless_itself x rhs next = if is_var x rhs then Skip next else Assign x rhs next

-- the node with other variables for its operands, and a Skip where it then assigns a variable to itself
abbrev pub reread_node : (ℕ → ℕ) → Node → Node
reread_node read (Start next) = Start next
reread_node read (Skip next) = Skip next
reread_node read (Assign x rhs next) = assigned_unless_itself x (renamed_rhs read rhs) next
reread_node read (Print a next) = Print (renamed_operand read a) next
reread_node read (Guard test number next) = Guard (renamed_test read test) number next
reread_node read (Call into unit operands next) =
    Call into unit (map (renamed_operand read) operands) next
reread_node read (Test test taken other) = Test (renamed_test read test) taken other
reread_node read (Return a) = Return (renamed_operand read a)

-- the node with the variables that are read where these right sides hold
abbrev pub copied_node : (ℕ → Option Rhs) → Node → Node
copied_node held node = reread_node (λ v. read_for v (held v)) node

-- ---- the graph

-- the graph with such nodes by the copies that hold before each: `v <- w` holds before node n where w is another variable
-- than v, node n is reached, and on every path from Start to it there is, before n, a node `v <- w` after which, before
-- n, no node assigns v or w
abbrev pub IsCopied : GraphShape → GraphShape → Type 0
IsCopied graph copied = IsMadeByHeld is_copy copied_node graph copied

-- no other graph is the copied one
abbrev pub IsOnlyCopied : GraphShape → GraphShape → Type 0
IsOnlyCopied graph copied = IsOnlyMadeByHeld is_copy copied_node graph copied
