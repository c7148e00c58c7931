-- The graph in which tests of variables that hold comparisons are the comparisons. Cited by contracts, those of
-- pass_chain too.
use Rattle.std.specs.Prelude.{ℕ, Bool, Option, Some, None}
use Rattle.std.specs.Option.{unwrap_or}
use Rattle.mir_base.specs.declared.instructions.Rhs.{Rhs}
use Rattle.mir_base.specs.declared.instructions.Test.{Test as Condition}
use Rattle.flow_graph.specs.declared.nodes.Node.{Node}
use Rattle.flow_graph.specs.declared.nodes.Node.TheVariants.{Start, Skip, Assign, Print, Guard, Call, Test, Return}
use Rattle.flow_graph.specs.Graphs.{GraphShape}
use Rattle.held_assign.specs.Holding.{IsHeldRhs}
use Rattle.held_assign.specs.HeldPasses.{IsMadeByHeld, IsOnlyMadeByHeld}
use Rattle.compare_flow.specs.declared.truths.Asked.{Asked}
use Rattle.compare_flow.specs.Truths.{asked_in, is_comparison, truth_test}

-- ---- what a node becomes, where `held` tells for each variable the comparison that it holds

-- the test for a comparison that may be absent
abbrev pub truth_in : Option Rhs → Bool → Option Condition
truth_in None holds = None
truth_in (Some rhs) holds = truth_test rhs holds

-- the test for the comparison of the variable that is asked for
abbrev pub truth_of : (ℕ → Option Rhs) → Option Asked → Option Condition
truth_of held None = None
truth_of held (Some q) = truth_in (held q.var) q.holds

-- a test: the one for the comparison of the variable that it asks for, and itself where there is none
abbrev pub compared_test : (ℕ → Option Rhs) → Condition → Condition
compared_test held test = unwrap_or (truth_of held (asked_in test)) test

-- the node with such a test
abbrev pub compared_node : (ℕ → Option Rhs) → Node → Node
compared_node held (Start next) = Start next
compared_node held (Skip next) = Skip next
compared_node held (Assign x rhs next) = Assign x rhs next
compared_node held (Print a next) = Print a next
compared_node held (Guard test number next) = Guard (compared_test held test) number next
compared_node held (Call into unit operands next) = Call into unit operands next
compared_node held (Test test taken other) = Test (compared_test held test) taken other
compared_node held (Return a) = Return a

-- ---- the graph

-- the comparison that a variable holds before node n, or none
abbrev pub IsHeldComparison : GraphShape → ℕ → ℕ → Option Rhs → Type 0
IsHeldComparison graph n v rhs = IsHeldRhs (λ x t. is_comparison t) graph n v rhs

-- the graph with such nodes by the comparisons that hold before each
abbrev pub IsCompared : GraphShape → GraphShape → Type 0
IsCompared graph compared = IsMadeByHeld (λ x t. is_comparison t) compared_node graph compared

-- no other graph is the compared one
abbrev pub IsOnlyCompared : GraphShape → GraphShape → Type 0
IsOnlyCompared graph compared =
    IsOnlyMadeByHeld (λ x t. is_comparison t) compared_node graph compared
