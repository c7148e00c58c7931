-- The least states of a graph as `LeastStates` has them, and what is known before a node. Cited by contracts.
use Rattle.std.specs.Prelude.{◌≡◌, ℕ, List, slice_get, Option, Some, Vec}
use Rattle.std.specs.Option.{option_map}
use Rattle.flow_graph.specs.Graphs.{GraphShape}
use Rattle.cond_flow.specs.KnownBefore.{AreStatesOf as AreStatesBy, IsKnownBefore as IsKnownBy, StatesShape as StatesBy}
pub use Rattle.cond_flow.specs.KnownBefore.{state_of_known}
use Rattle.cond_const.specs.declared.known.Known.{Known}
use Rattle.cond_const.specs.States.{BelowKnown}
use Rattle.cond_const.specs.Folding.{fold_rules}

-- blocks, and the state of each
abbrev pub StatesShape : Type 0
StatesShape = StatesBy Known

-- these are the blocks of the graph, and the least states of them
abbrev pub AreStatesOf : GraphShape → StatesShape → Type 0
AreStatesOf graph states = AreStatesBy BelowKnown fold_rules graph states

-- the least states of the graph say this of the node; so a list has one entry for each variable
abbrev pub IsKnownBefore : GraphShape → ℕ → Option (List Known) → Type 0
IsKnownBefore graph node known = IsKnownBy BelowKnown fold_rules graph node known

-- and nothing else
abbrev pub IsOnlyKnownBefore : GraphShape → ℕ → Option (List Known) → Type 0
IsOnlyKnownBefore graph node known =
    (other : Option (List Known)) → IsKnownBefore graph node other → other ≡ known

-- of each of these nodes, by their numbers, the least states of the graph say this
abbrev pub AreKnownBefore : {A : Type 0} → GraphShape → List (Option (Vec Known A)) → Type 0
AreKnownBefore {A = A} graph all =
    (n : ℕ) (known : Option (Vec Known A)) → slice_get all n ≡ Some known
    → IsKnownBefore graph n (option_map (λ list. list.items) known)
