-- What the walk over the graph keeps: numbers for the terms of the variables, and steps that are still to be taken.
-- Cited by contracts of private functions.
use Rattle.std.specs.Prelude.{◌≡◌, ◌≢◌, ◌⊎◌, ℕ, suc, ◌+◌, ◌*◌, ◌<◌, ◌≤◌, Bool, true, false, if◌then◌else◌, List, [], ◌∷◌, ◌++◌, length, slice_get, slice_index_or, slice_set, Option, Some, None}
use Rattle.flow_graph.specs.declared.nodes.Node.{Node}
use Rattle.flow_graph.specs.Graphs.{GraphShape, is_start}
use Rattle.flow_graph.specs.Paths.{HasEdge}
use Rattle.flow_graph.specs.ReachWalks.{unmarked}
use Rattle.value_number.specs.declared.finding.NewTerm.{NewTerm}
use Rattle.value_number.specs.declared.finding.AtNode.{AtNode}
use Rattle.value_number.specs.declared.terms.TermKey.{TermKey}
use Rattle.value_number.specs.declared.walk.Step.{Step}
use Rattle.value_number.specs.declared.walk.Step.TheVariants.{Visit, Restore}
use Rattle.value_number.specs.declared.walk.Walk.{Walk}
use Rattle.value_number.specs.Entries.{AreEntries, GainsEntries, IsTermOf}
use Rattle.value_number.specs.Terms.{Opaque, Terms, with_term, movable_term, node_terms, own_terms, renewed_terms, with_globals}
use Rattle.value_number.specs.Roots.{FromRoot, is_root, terms_before}
use Rattle.value_number.specs.Numbered.{IsHolder, IsHolderAt}
use Rattle.value_number.specs.Table.{AllStand, Represent, StandOn, Stands, Stay, variable_number}

-- ---- roots

-- which nodes are roots
pub record AreRoots (nodes : List Node) (roots : List Bool) : Type 0 where
  pub long : length roots ≡ length nodes
  pub are : (n : ℕ) → n < length nodes → slice_get roots n ≡ Some (is_root nodes n)

-- a visit of each root, each its own root
pub record VisitRoots (roots : List Bool) (steps : List Step) : Type 0 where
  pub has : (n : ℕ) → slice_get roots n ≡ Some true
      → (i : ℕ) × (slice_get steps i ≡ Some (Visit n n))
  pub only : (i : ℕ) (step : Step) → slice_get steps i ≡ Some step → (n : ℕ) × (step ≡ Visit n n)
      × (slice_get roots n ≡ Some true)

-- the steps with a visit of this node behind them, where it is a root
abbrev pub with_root : List Step → ℕ → Bool → List Step
with_root steps n root = if root then steps ++ Visit n n ∷ [] else steps

-- ---- one node

-- the numbers once a node has changed one, where it does
abbrev pub changed_numbers : List (Option ℕ) → Option NewTerm → List (Option ℕ)
changed_numbers numbers None = numbers
changed_numbers numbers (Some change) = slice_set numbers change.variable (Some change.number)

-- this step, where there are others: where none is left, nothing has to be undone
abbrev pub where_any : List Step → Step → List Step
where_any [] step = []
where_any (other ∷ steps) step = step ∷ []

-- and what undoes it before these steps
abbrev pub undoing : List Step → List (Option ℕ) → Option NewTerm → List Step
undoing steps numbers None = []
undoing steps numbers (Some change) =
    where_any steps (Restore change.variable (slice_index_or numbers change.variable None))

-- a change is that of a variable below `count`
abbrev pub NewTermWithin : ℕ → Option NewTerm → Type 0
NewTermWithin count None = Unit {0}
NewTermWithin count (Some change) = change.variable < count

-- where these numbers stand for the terms before node n, which is this one, each new entry is needed for the term of
-- some variable after it
abbrev pub GrowsAfter : List (Option ℕ) → (root n : ℕ) → Node → (old new : List TermKey) → Type 0
GrowsAfter numbers root n node old new = (shared nodes : ℕ) (terms : Terms) → root < nodes
    → n < nodes
    → Represent old numbers root terms
    → GainsEntries (length numbers) nodes
    (IsTermOf new (length numbers) (node_terms shared n node terms)) old new

-- what was found at node n, where the numbers stood for the terms before it: the holder of its term, and numbers that
-- stand for the terms after it, but for the globals. A Start changes none
pub record Finds (old new : List TermKey) (numbers : List (Option ℕ)) (root n : ℕ) (node : Node)
    (found : AtNode) : Type 0 where
  pub stay : Stay old new
  pub within : NewTermWithin (length numbers) found.change
  pub holder : (terms : Terms) → Represent old numbers root terms
      → IsHolder (length numbers) terms (movable_term terms node) found.holder
  pub change : (terms : Terms) → Represent old numbers root terms → is_start node ≡ false
      → Represent new (changed_numbers numbers found.change) root (own_terms n node terms)
  pub start : is_start node ≡ true → found.change ≡ None
  pub all : StandOn old numbers root new
  pub grows : GrowsAfter numbers root n node old new

-- ---- steps

-- the numbers once all of these steps are taken, the last first, as far as they restore them
abbrev pub restored : List Step → List (Option ℕ) → List (Option ℕ)
restored [] numbers = numbers
restored (Visit n root ∷ steps) numbers = restored steps numbers
restored (Restore v old ∷ steps) numbers = slice_set (restored steps numbers) v old

-- these numbers stand for the terms before node n
pub record IsReady (shared : ℕ) (nodes : List Node) (table : List TermKey)
    (numbers : List (Option ℕ))
    (n root : ℕ) : Type 0 where
  pub within : n < length nodes
  pub before : List ℕ
  pub path : FromRoot nodes root n before
  pub represent : Represent table numbers root (terms_before shared nodes root before)

-- when a node is visited, the numbers stand for the terms before it
abbrev pub AreReady : ℕ → List Node → List TermKey → List (Option ℕ) → List Step → Type 0
AreReady shared nodes table numbers [] = Unit {0}
AreReady shared nodes table numbers (Visit n root ∷ steps) =
    IsReady shared nodes table (restored steps numbers) n root
    × AreReady shared nodes table numbers steps
AreReady shared nodes table numbers (Restore v old ∷ steps) = (v < length numbers)
    × AreReady shared nodes table numbers steps

-- a visit of node n is among the steps
abbrev pub IsToVisit : ℕ → List Step → Type 0
IsToVisit n steps = (i : ℕ) × (root : ℕ) × (slice_get steps i ≡ Some (Visit n root))

-- this step is no visit of node n
abbrev pub IsNoVisit : ℕ → Step → Type 0
IsNoVisit n (Visit m root) = m ≢ n
IsNoVisit n (Restore v old) = Unit {0}

-- node n has not been visited: where it is listed, a visit of it is among the steps
abbrev pub IsUnvisited : ℕ → List Bool → List Step → Type 0
IsUnvisited n listed steps = slice_get listed n ≡ Some true → IsToVisit n steps

-- each node that was not visited before this step, which was the last, is not visited after it either, but for the node
-- that the step visits
abbrev pub LeavesUnvisited : Step → List Bool → List Step → List Bool → List Step → Type 0
LeavesUnvisited step listed steps listed' steps' = (n : ℕ) → IsNoVisit n step
    → IsUnvisited n listed (steps ++ step ∷ []) → IsUnvisited n listed' steps'

-- the holder of node n, as the table has it
abbrev pub holder_at : List (Option ℕ) → ℕ → Option ℕ
holder_at = variable_number

-- node n has been visited: its holder is known, and its successors are listed
pub record IsVisited (graph : GraphShape) (listed : List Bool) (holders : List (Option ℕ))
    (n : ℕ) : Type 0 where
  pub holder : (node : Node) → slice_get graph.nodes n ≡ Some node
      → IsHolderAt graph.shared graph.nodes (length graph.vars) n node (holder_at holders n)
  pub succs : (s : ℕ) → HasEdge graph.nodes n s → slice_get listed s ≡ Some true

-- a listed node is to be visited, or is the one at hand, or has been visited
pub record IsUnderWay (graph : GraphShape) (table : List TermKey) (numbers : List (Option ℕ))
    (listed : List Bool)
    (steps : List Step) (holders : List (Option ℕ)) (at_hand : Option ℕ) : Type 0 where
  pub numbers_long : length numbers ≡ length graph.vars
  pub listed_long : length listed ≡ length graph.nodes
  pub holders_long : length holders ≡ length graph.nodes
  pub roots : (n : ℕ) → n < length graph.nodes → is_root graph.nodes n ≡ true
      → slice_get listed n ≡ Some true
  pub ready : AreReady graph.shared graph.nodes table numbers steps
  pub stand : AllStand table
  pub entries : AreEntries graph table
  pub all : (n : ℕ) → slice_get listed n ≡ Some true
      → IsToVisit n steps ⊎ (at_hand ≡ Some n) ⊎ IsVisited graph listed holders n

-- the same of the walk in the code, with these steps
abbrev pub GoesOver : GraphShape → Walk → List Step → Type 0
GoesOver graph walk steps =
    IsUnderWay graph walk.table walk.numbers walk.listed.items steps walk.holders.items None

-- ---- listing successors

-- the marks of listed nodes, once these are listed
abbrev pub listed_after : List ℕ → List Bool → List Bool
listed_after [] listed = listed
listed_after (s ∷ succs) listed = listed_after succs (slice_set listed s true)

-- and the steps: a visit of each that was not listed, under this root
abbrev pub steps_after : ℕ → List ℕ → List Bool → List Step → List Step
steps_after root [] listed steps = steps
steps_after root (s ∷ succs) listed steps =
    steps_after root succs (slice_set listed s true)
    (if slice_index_or listed s false then steps else steps ++ Visit s root ∷ [])

-- ---- how much is left

-- a visit weighs more than what it puts in its place beside nodes that it lists
abbrev pub step_weight : ℕ → Step → ℕ
step_weight shared (Visit n root) = shared + 2
step_weight shared (Restore v old) = 1

-- the weight of all steps
abbrev pub steps_weight : ℕ → List Step → ℕ
steps_weight shared [] = 0
steps_weight shared (step ∷ steps) = step_weight shared step + steps_weight shared steps

-- what each step makes less
abbrev pub weight_left : ℕ → List Bool → List Step → ℕ
weight_left shared listed steps = (shared + 3) * unmarked listed + steps_weight shared steps

-- ---- numbers that are changed

-- the numbers and the steps became these, where at most so many changes were made: as many steps as that were put on,
-- and where all are taken, each node is visited with the numbers with which it would have been before
pub record Undoes (count : ℕ) (numbers : List (Option ℕ)) (steps : List Step)
    (numbers' : List (Option ℕ))
    (steps' : List Step) : Type 0 where
  pub long : length numbers' ≡ length numbers
  pub ready : (shared : ℕ) (nodes : List Node) (table : List TermKey)
      → AreReady shared nodes table numbers steps
      → AreReady shared nodes table numbers' steps'
  pub visits : (n : ℕ) → IsToVisit n steps → IsToVisit n steps'
  pub light : (shared : ℕ) → steps_weight shared steps' ≤ count + steps_weight shared steps

-- number k stands for the leaf that node n gives one of the first so many variables
abbrev pub IsLeafBelow : List TermKey → (n count k : ℕ) → Type 0
IsLeafBelow table n count k = (x : ℕ) × (x < count) × Stands table k (Opaque n x)

-- variable x got a leaf of node n
pub record RenewsOne (n x : ℕ) (old new : List TermKey) (numbers numbers' : List (Option ℕ))
    (steps steps' : List Step) : Type 0 where
  pub stay : Stay old new
  pub undoes : Undoes 1 numbers steps numbers' steps'
  pub terms : (root : ℕ) (terms : Terms) → Represent old numbers root terms
      → Represent new numbers' root (with_term x (Opaque n x) terms)
  pub all : AllStand old → AllStand new
  pub grows : (nodes : ℕ) → n < nodes
      → GainsEntries (length numbers) nodes (IsLeafBelow new n (suc x)) old new

-- each of the first `count` variables got the number of a new leaf of node n, a term of which nothing is known
pub record Renews (n count : ℕ) (old new : List TermKey) (numbers numbers' : List (Option ℕ))
    (steps steps' : List Step) : Type 0 where
  pub stay : Stay old new
  pub undoes : Undoes count numbers steps numbers' steps'
  pub terms : (root : ℕ) (terms : Terms) → Represent old numbers root terms
      → Represent new numbers' root (renewed_terms n count terms)
  pub all : AllStand old → AllStand new
  pub grows : (nodes : ℕ) → n < nodes
      → GainsEntries (length numbers) nodes (IsLeafBelow new n count) old new

-- the same of the globals after node n, which is this one
pub record RenewsGlobals (shared n : ℕ) (node : Node) (old new : List TermKey)
    (numbers numbers' : List (Option ℕ))
    (steps steps' : List Step) : Type 0 where
  pub stay : Stay old new
  pub undoes : Undoes shared numbers steps numbers' steps'
  pub terms : (root : ℕ) (terms : Terms) → Represent old numbers root terms
      → Represent new numbers' root (with_globals shared n node terms)
  pub all : AllStand old → AllStand new
  pub grows : (nodes : ℕ) (terms : Terms) → n < nodes
      → GainsEntries (length numbers) nodes
      (IsTermOf new (length numbers) (with_globals shared n node terms)) old new

-- node n was passed: its holder is known, and where the numbers stood for the terms before it, they stand for those
-- after it. A Start leaves them
pub record Passes (shared root n : ℕ) (node : Node) (old new : List TermKey)
    (numbers numbers' : List (Option ℕ))
    (steps steps' : List Step) (holder : Option ℕ) : Type 0 where
  pub stay : Stay old new
  pub undoes : Undoes (suc shared) numbers steps numbers' steps'
  pub holds : (terms : Terms) → Represent old numbers root terms
      → IsHolder (length numbers) terms (movable_term terms node) holder
  pub after : (terms : Terms) → Represent old numbers root terms → is_start node ≡ false
      → Represent new numbers' root (node_terms shared n node terms)
  pub start : (terms : Terms) → Represent old numbers root terms → is_start node ≡ true
      → Represent new numbers' root terms
  pub all : StandOn old numbers root new
  pub grows : (nodes : ℕ) (terms : Terms) → root < nodes → n < nodes
      → Represent old numbers root terms
      → GainsEntries (length numbers) nodes
      (IsTermOf new (length numbers) (node_terms shared n node terms)) old new

-- ---- all nodes

-- the holder of each node
pub record AreHolders (graph : GraphShape) (holders : List (Option ℕ)) : Type 0 where
  pub long : length holders ≡ length graph.nodes
  pub each : (n : ℕ) (node : Node) → slice_get graph.nodes n ≡ Some node
      → IsHolderAt graph.shared graph.nodes (length graph.vars) n node (holder_at holders n)
