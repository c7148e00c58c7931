-- The graph with clean jumps. Cited by contracts.
use Rattle.std.specs.Prelude.{◌≡◌, ℕ, ◌≢◌, List, map, slice_get, slice_index_or, Some}
use Rattle.mir_base.specs.declared.instructions.Test as tests
use Rattle.flow_graph.specs.declared.nodes.Node.{Node}
use Rattle.flow_graph.specs.declared.nodes.Node.TheVariants.{Skip, Test}
use Rattle.flow_graph.specs.Graphs.{GraphShape}
use Rattle.flow_graph.specs.Retained.{redirected, IsMade}
use Rattle.jump_clean.specs.Chains.{AreEnds}
use Rattle.jump_clean.specs.Reductions.{AreReduced}

-- Tests that make no difference have become Skips, and then each successor has become its end of chain
pub record AreCleaned (nodes cleaned : List Node) : Type 0 where
  pub reduced : List Node
  pub are_reduced : AreReduced nodes reduced
  pub ends : List ℕ
  pub are_ends : AreEnds reduced ends
  pub are : cleaned ≡ map (redirected (λ n. slice_index_or ends n 0)) reduced

-- and then the nodes that are not reached have been dropped
pub record IsClean (graph cleaned : GraphShape) : Type 0 where
  pub nodes : List Node
  pub are_cleaned : AreCleaned graph.nodes nodes
  pub made : IsMade graph.name graph.shared graph.vars graph.received nodes cleaned

-- there is no other such graph
abbrev pub IsOnlyClean : GraphShape → GraphShape → Type 0
IsOnlyClean graph cleaned = (other : GraphShape) → IsClean graph other → other ≡ cleaned

-- each Skip is its own successor, and no Test has two equal successors
pub record HasCleanJumps (nodes : List Node) : Type 0 where
  pub skips : (n next : ℕ) → slice_get nodes n ≡ Some (Skip next) → next ≡ n
  pub tests_differ : (n : ℕ) (test : tests.Test) (taken other : ℕ)
      → slice_get nodes n ≡ Some (Test test taken other)
      → taken ≢ other
