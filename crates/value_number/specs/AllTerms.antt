-- The terms of the variables before all nodes, by their numbers in one table. Cited by contracts.
use Rattle.std.specs.Prelude.{◌≡◌, ℕ, List, length, slice_get, Some}
use Rattle.flow_graph.specs.Graphs.{GraphShape}
use Rattle.value_number.specs.declared.all_terms.TermsAt.{TermsAt}
use Rattle.value_number.specs.declared.terms.TermKey.{TermKey}
use Rattle.value_number.specs.Entries.{AreEntries}
use Rattle.value_number.specs.NodeTerms.{AreTermsBefore, IsOnlyRoot, StandOneToOne}
use Rattle.value_number.specs.OneValue.{NumbersHold}

-- each node has this root, and for each variable the number is that of the term that it has before the node
abbrev pub AreTermsOfAll : GraphShape → List TermKey → List TermsAt → Type 0
AreTermsOfAll graph table nodes = (n : ℕ) (at : TermsAt) → slice_get nodes n ≡ Some at
    → AreTermsBefore graph n at.root table at.numbers.items

-- no node has another root
abbrev pub AreOnlyRoots : GraphShape → List TermsAt → Type 0
AreOnlyRoots graph nodes = (n : ℕ) (at : TermsAt) → slice_get nodes n ≡ Some at
    → IsOnlyRoot graph.nodes n at.root

-- before each node the numbers are those of the terms that the variables have on the way from its only root; a number
-- stands for at most one term, and a term has at most one number. Each entry of the table names variables and nodes of
-- the graph and earlier entries, and is needed
pub record AreAllTerms (graph : GraphShape) (table : List TermKey)
    (nodes : List TermsAt) : Type 0 where
  pub long : length nodes ≡ length graph.nodes
  pub terms : AreTermsOfAll graph table nodes
  pub roots : AreOnlyRoots graph nodes
  pub numbers : StandOneToOne table
  pub entries : AreEntries graph table

-- any two variables that have one number before a node have one value wherever a run comes to it
abbrev pub AreNumbersTrue : GraphShape → List TermsAt → Type 0
AreNumbersTrue graph nodes = (n : ℕ) (at : TermsAt) → slice_get nodes n ≡ Some at
    → NumbersHold graph n at.numbers.items
