-- What a walk over the reached nodes keeps: marks, and a stack of the marked nodes whose successors have yet to be
-- marked. Cited by contracts of src/reach.rt alone.
use Rattle.std.specs.Prelude.{◌≡◌, ℕ, suc, ◌+◌, Bool, true, false, if◌then◌else◌, List, [], ◌∷◌, ◌++◌, length, slice_get, slice_set, slice_index_or, Option, Some, None, ◌⊎◌}
use Rattle.flow_graph.specs.declared.nodes.Node.{Node}
use Rattle.flow_graph.specs.Graphs.{IsEdge, Reached}
use Rattle.flow_graph.specs.Numbering.{is_in}

-- a marked node is on the stack, or is the one at hand, or its successors are marked
pub record Walking (nodes : List Node) (marks : List Bool) (stack : List ℕ)
    (at_hand : Option ℕ) : Type 0 where
  pub long : length marks ≡ length nodes
  pub sound : (n : ℕ) → slice_get marks n ≡ Some true → Reached nodes n
  pub start_marked : slice_get marks 0 ≡ Some true
  pub stacked : (n : ℕ) → is_in n stack ≡ true → slice_get marks n ≡ Some true
  pub closed : (n : ℕ) → slice_get marks n ≡ Some true
      → (is_in n stack ≡ true) ⊎ (at_hand ≡ Some n)
      ⊎ ((slot s : ℕ) → IsEdge nodes n slot s → slice_get marks s ≡ Some true)

-- the marks once a node is marked, where there is one
abbrev pub marks_after : List Bool → Option ℕ → List Bool
marks_after marks None = marks
marks_after marks (Some n) = slice_set marks n true

-- the stack then: the node is added where it was not marked
abbrev pub stack_after : List Bool → List ℕ → Option ℕ → List ℕ
stack_after marks stack None = stack
stack_after marks stack (Some n) = if slice_index_or marks n false then stack else stack ++ n ∷ []

-- how many are not marked
abbrev pub unmarked : List Bool → ℕ
unmarked [] = 0
unmarked (true ∷ marks) = unmarked marks
unmarked (false ∷ marks) = suc (unmarked marks)

-- what a step of the walk makes less
abbrev pub walk_weight : List Bool → List ℕ → ℕ
walk_weight marks stack = unmarked marks + unmarked marks + length stack
