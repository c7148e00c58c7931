-- What holds while Tests become Skips: classes of nodes whose chains come together, the Skips whose classes are still
-- to be joined with those of their successors, and the nodes that are still to be looked at. Cited by contracts.
use Rattle.std.specs.Prelude.{◌≡◌, ℕ, suc, ◌+◌, ◌<◌, if◌then◌else◌, nat_eq, List, [], ◌∷◌, ◌++◌, length, slice_get, slice_set, Option, Some, None, ◌⊎◌}
use Rattle.mir_base.specs.declared.instructions.Test as tests
use Rattle.mir_base.specs.Shapes.{AllBelow}
use Rattle.flow_graph.specs.declared.nodes.Node.{Node}
use Rattle.flow_graph.specs.declared.nodes.Node.TheVariants.{Start, Skip, Assign, Print, Guard, Call, Test, Return}
use Rattle.flow_graph.specs.declared.edges.Edge.{Edge}
use Rattle.flow_graph.specs.Edges.{EdgesShape, edges_of, preds_among}
use Rattle.flow_graph.specs.Graphs.{AllWithin}
use Rattle.jump_clean.specs.Chains.{SkipsTo}
use Rattle.jump_clean.specs.Reductions.{AreReductions}
use Rattle.jump_clean.specs.declared.classes.Classes.{Classes}
use Rattle.jump_clean.specs.Classes.{class}
use Rattle.flow_graph.specs.Numbering.{IsIn}

-- the chains that begin at the two nodes come together
pub record ChainsMeet (nodes : List Node) (a b : ℕ) : Type 0 where
  pub meet : ℕ
  pub first : SkipsTo nodes a meet
  pub second : SkipsTo nodes b meet

-- the nodes have come from the raw ones; nodes of one class have chains that come together; a Skip is pending or is of
-- the class of its successor; a Test with both successors in one class is among the suspects
pub record IsJoining (raw nodes : List Node) (of worklist suspects : List ℕ) : Type 0 where
  pub order : List ℕ
  pub reductions : AreReductions raw order nodes
  pub within : AllWithin nodes
  pub long : length of ≡ length nodes
  pub sound : (a b : ℕ) → a < length nodes → b < length nodes → class of a ≡ class of b
      → ChainsMeet nodes a b
  pub skips : (n next : ℕ) → slice_get nodes n ≡ Some (Skip next)
      → IsIn n worklist ⊎ (class of n ≡ class of next)
  pub suspected : (n : ℕ) (test : tests.Test) (taken other : ℕ)
      → slice_get nodes n ≡ Some (Test test taken other)
      → class of taken ≡ class of other → IsIn n suspects
  pub worklist_below : AllBelow (length nodes) worklist
  pub suspects_below : AllBelow (length nodes) suspects

-- ---- what one step does

-- the list has the numbers of all Skips
abbrev pub ContainSkips : List Node → List ℕ → Type 0
ContainSkips nodes list = (n next : ℕ) → slice_get nodes n ≡ Some (Skip next) → IsIn n list

-- the source of each edge that enters one of these nodes is in the list
abbrev pub ContainPreds : List Edge → List ℕ → List ℕ → Type 0
ContainPreds edges nodes list = (n m : ℕ) → IsIn n nodes → IsIn m (preds_among n edges)
    → IsIn m list

-- the list has no others
abbrev pub AreOnlyPreds : List Edge → List ℕ → List ℕ → Type 0
AreOnlyPreds edges nodes list = (m : ℕ) → IsIn m list
    → (n : ℕ) × IsIn n nodes × IsIn m (preds_among n edges)

-- the last pending node has been joined with its successor, and what has to be looked at for that are these nodes
abbrev pub JoinsLast : EdgesShape → List Node → ℕ → Classes → Classes → List ℕ → Type 0
JoinsLast edges nodes n old new checks = (raw : List Node) (worklist : List ℕ)
    → edges ≡ edges_of raw → IsJoining raw nodes old.of.items (worklist ++ n ∷ []) []
    → IsJoining raw nodes new.of.items worklist checks

-- the nodes `checks` have been looked at: what was a joining of a graph with these left to look at is one with none
-- left
abbrev pub AreChecked : List ℕ → List ℕ → List Node → List ℕ → List Node → List ℕ → Type 0
AreChecked of checks nodes worklist nodes' worklist' = (raw : List Node)
    → IsJoining raw nodes of worklist checks → IsJoining raw nodes' of worklist' []

-- the `taken` of a Test with both successors in one class
abbrev pub useless_of : List ℕ → Node → Option ℕ
useless_of of (Test test taken other) =
    if nat_eq (class of taken) (class of other) then Some taken else None
useless_of of _ = None

-- how many Tests there are
abbrev pub tests_in : List Node → ℕ
tests_in [] = 0
tests_in (Start s ∷ nodes) = tests_in nodes
tests_in (Skip s ∷ nodes) = tests_in nodes
tests_in (Assign x rhs s ∷ nodes) = tests_in nodes
tests_in (Print a s ∷ nodes) = tests_in nodes
tests_in (Guard x g s ∷ nodes) = tests_in nodes
tests_in (Call into unit operands s ∷ nodes) = tests_in nodes
tests_in (Test test taken other ∷ nodes) = suc (tests_in nodes)
tests_in (Return a ∷ nodes) = tests_in nodes

-- how many joins can follow: those of the pending Skips, and of the Tests once they are Skips
abbrev pub joins_left : List Node → List ℕ → ℕ
joins_left nodes worklist = length worklist + tests_in nodes

-- ---- one node is looked at

-- the same of a node that may be missing
abbrev pub useless_in : List ℕ → Option Node → Option ℕ
useless_in of None = None
useless_in of (Some node) = useless_of of node

-- a useless Test has become a Skip
abbrev pub nodes_after : Option ℕ → List Node → ℕ → List Node
nodes_after None nodes n = nodes
nodes_after (Some taken) nodes n = slice_set nodes n (Skip taken)

-- which is then pending
abbrev pub worklist_after : Option ℕ → List ℕ → ℕ → List ℕ
worklist_after None worklist n = worklist
worklist_after (Some taken) worklist n = worklist ++ n ∷ []

-- the nodes once node n has been looked at
abbrev pub checked_nodes : List ℕ → List Node → ℕ → List Node
checked_nodes of nodes n = nodes_after (useless_in of (slice_get nodes n)) nodes n

-- and the numbers of the pending ones
abbrev pub checked_worklist : List ℕ → List Node → List ℕ → ℕ → List ℕ
checked_worklist of nodes worklist n = worklist_after (useless_in of (slice_get nodes n)) worklist n
