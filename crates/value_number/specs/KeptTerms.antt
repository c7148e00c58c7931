-- What is kept of the nodes while the graph is walked. Cited by contracts of private functions.
use Rattle.std.specs.Prelude.{◌≡◌, ◌⊎◌, ℕ, Bool, List, slice_get, slice_set, Option, Some}
use Rattle.flow_graph.specs.Graphs.{GraphShape}
use Rattle.value_number.specs.declared.all_terms.TermsAt.{TermsAt}
use Rattle.value_number.specs.declared.terms.TermKey.{TermKey}
use Rattle.value_number.specs.declared.walk.Step.{Step}
use Rattle.value_number.specs.declared.walk.Step.TheVariants.{Visit, Restore}
use Rattle.value_number.specs.NodeTerms.{AreTermsBefore}
use Rattle.value_number.specs.TermWalks.{IsUnvisited}

-- no node has been visited
abbrev pub AreNoneVisited : List Bool → List Step → Type 0
AreNoneVisited listed steps = (n : ℕ) → IsUnvisited n listed steps

-- a visit with these numbers keeps them of its node, and nothing else is changed
abbrev pub KeepsAt : Step → List (Option ℕ) → List TermsAt → List TermsAt → Type 0
KeepsAt (Visit n root) numbers old new =
    (at : TermsAt) × (at.root ≡ root) × (at.numbers.items ≡ numbers) × (new ≡ slice_set old n at)
KeepsAt (Restore v number) numbers old new = new ≡ old

-- what is kept of node n are the terms before it
abbrev pub IsNodeKept : GraphShape → List TermKey → List TermsAt → ℕ → Type 0
IsNodeKept graph table nodes n = (at : TermsAt) → slice_get nodes n ≡ Some at
    → AreTermsBefore graph n at.root table at.numbers.items

-- each node has not been visited yet, or is kept
abbrev pub AreKeptOrLeft : GraphShape → List TermKey → List Bool → List Step → List TermsAt → Type 0
AreKeptOrLeft graph table listed steps nodes = (n : ℕ)
    → IsUnvisited n listed steps ⊎ IsNodeKept graph table nodes n
