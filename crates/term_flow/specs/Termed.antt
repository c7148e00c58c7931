-- The graph in which operators with constants on one another are one, and operands stand in one order. Cited by contracts.
use Rattle.std.specs.Prelude.{ℕ, Option}
use Rattle.std.specs.Option.{unwrap_or}
use Rattle.mir_base.specs.declared.instructions.Rhs.{Rhs}
use Rattle.flow_graph.specs.declared.nodes.Node.{Node}
use Rattle.flow_graph.specs.declared.nodes.Node.TheVariants.{Start, Skip, Assign, Print, Guard, Call, Test, Return}
use Rattle.flow_graph.specs.Graphs.{GraphShape}
use Rattle.held_assign.specs.HeldPasses.{IsMadeByHeld, IsOnlyMadeByHeld}
use Rattle.held_assign.specs.Holding.{IsHeldRhs}
use Rattle.term_flow.specs.Orders.{in_order}
use Rattle.term_flow.specs.Terms.{is_term, joined_of, read_rhs}

-- ---- what a node becomes, where `held` tells for each variable the right side that it holds

-- a right side: the one that joins it to what its variable holds, and itself where there is none; its operands in order
abbrev pub joined_rhs : (ℕ → Option Rhs) → Rhs → Rhs
joined_rhs held rhs = in_order (unwrap_or (joined_of held (read_rhs rhs)) rhs)

-- an assignment takes such a right side
abbrev pub termed_node : (ℕ → Option Rhs) → Node → Node
termed_node held (Start next) = Start next
termed_node held (Skip next) = Skip next
termed_node held (Assign x rhs next) = Assign x (joined_rhs held rhs) next
termed_node held (Print a next) = Print a next
termed_node held (Guard test number next) = Guard test number next
termed_node held (Call into unit operands next) = Call into unit operands next
termed_node held (Test test taken other) = Test test taken other
termed_node held (Return a) = Return a

-- ---- the graph

-- the right side of a variable and a constant, or the comparison, that a variable holds before node n, or none
abbrev pub IsHeldTerm : GraphShape → ℕ → ℕ → Option Rhs → Type 0
IsHeldTerm graph n v rhs = IsHeldRhs (λ x t. is_term t) graph n v rhs

-- the graph with such nodes by the right sides that hold before each
abbrev pub IsTermed : GraphShape → GraphShape → Type 0
IsTermed graph termed = IsMadeByHeld (λ x t. is_term t) termed_node graph termed

-- no other graph is the termed one
abbrev pub IsOnlyTermed : GraphShape → GraphShape → Type 0
IsOnlyTermed graph termed = IsOnlyMadeByHeld (λ x t. is_term t) termed_node graph termed
