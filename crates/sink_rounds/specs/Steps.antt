-- A step of partial dead code elimination, with which a round is compared: any admissible sinking of some assignments,
-- with any admissible stops, and then the removal of some dead assignments; and that a round is the best of all steps.
-- Cited by contracts, those of the crates above too.
use Rattle.std.specs.Prelude.{◌≡◌, ◌⊎◌, ◌≤◌, ◌<◌, ℕ, Bool, true, false, count_by, List, [], ◌∷◌, length, slice_get, Option, Some, None}
use Rattle.mir_base.specs.declared.instructions.Rhs.{Rhs}
use Rattle.mir_base.specs.Expressions.{divides}
use Rattle.flow_graph.specs.declared.nodes.Node.TheVariants.{Assign}
use Rattle.flow_graph.specs.Graphs.{GraphShape}
use Rattle.flow_graph.specs.Paths.{HasEdge, IsFullPath}
use Rattle.flow_graph.specs.Sums.{sum_on}
use Rattle.graph_edit.specs.Insertions.{Unchanged, Removed, Rewriting, rewritten, rewritten_nodes}
use Rattle.graph_edit.specs.Over.{IsOver, weight_at}
use Rattle.sink_code.specs.Sinking.{AreApart, put_for}
use Rattle.graph_edit.specs.Accesses.{blocks_at, is_sinkable, occurs_at}
use Rattle.dead_code.specs.Pruned.{IsDeadAt, pruned_from}
use Rattle.sink_rounds.specs.RoundGraphs.{HaveOneLayout}

-- ---- steps

-- the occurrence of x <- t at node n goes
abbrev pub MovesAway : GraphShape → Rewriting → ℕ → ℕ → Rhs → Type 0
MovesAway graph r n x t = (r.changes n ≡ Removed) × (occurs_at x t graph n ≡ true)

-- x <- t is delayed past node n: it is delayed before the node, which does not block it, and it is not put there
abbrev pub IsDelayedPast : GraphShape → Rewriting → (ℕ → ℕ → Option Rhs) → ℕ → ℕ → Rhs → Type 0
IsDelayedPast graph r late n x t =
    (blocks_at x t graph n ≡ false) × ((late n x ≡ Some t) × (put_for (r.inserts n) x ≡ None))

-- A sinking; `late n x` is the right side of the pattern of x that it delays before node n, where it delays one. Some
-- occurrences go, and each that goes is delayed from there on; nothing else is delayed, and nothing before Start. A
-- pattern is delayed before a node only if along every edge into the node it comes from an occurrence that goes, or
-- past a node before which it is delayed. Only what is delayed is put. It is put before a node that blocks it, and
-- before a node with a successor before which it is delayed no longer; it need not be put before a Return that does not
-- block it, nor where it goes on for ever. Assignments that are put before one node leave each other alone, and none is
-- put before what is no node
pub record IsSinking (graph : GraphShape) (r : Rewriting) (late : ℕ → ℕ → Option Rhs) : Type 0 where
  pub only : (n : ℕ) → (r.changes n ≡ Unchanged)
      ⊎ ((r.changes n ≡ Removed) × (is_sinkable (slice_get graph.nodes n) ≡ true))
  pub removed : (n s x : ℕ) (t : Rhs) → slice_get graph.nodes n ≡ Some (Assign x t s)
      → r.changes n ≡ Removed → late s x ≡ Some t
  pub start : (x : ℕ) → late 0 x ≡ None
  pub back : (n s x : ℕ) (t : Rhs) → HasEdge graph.nodes n s → late s x ≡ Some t
      → MovesAway graph r n x t ⊎ IsDelayedPast graph r late n x t
  pub put : (n x : ℕ) (t : Rhs) → put_for (r.inserts n) x ≡ Some t → late n x ≡ Some t
  pub apart : (n : ℕ) → AreApart (r.inserts n)
  pub blocked : (n x : ℕ) (t : Rhs) → late n x ≡ Some t → blocks_at x t graph n ≡ true
      → put_for (r.inserts n) x ≡ Some t
  pub past : (n : ℕ) → length graph.nodes ≤ n → r.inserts n ≡ []
  pub lost : (n s x : ℕ) → HasEdge graph.nodes n s → late s x ≡ None
      → late n x ≡ put_for (r.inserts n) x

-- some assignments sink, and then some dead ones become Skips. A sinking alone and a removal alone are steps too
pub record IsStep (graph result : GraphShape) : Type 0 where
  pub r : Rewriting
  pub late : ℕ → ℕ → Option Rhs
  pub sinks : IsSinking graph r late
  pub dead : ℕ → Bool
  pub dead_are : (n : ℕ) → n < length (rewritten_nodes r graph.nodes) → dead n ≡ true
      → IsDeadAt (rewritten r [] graph) n
  pub is : result
      ≡ record (rewritten r [] graph) { nodes = pruned_from dead 0 (rewritten_nodes r graph.nodes) }

-- ---- two results of one graph

-- on each full path of the graph no plain or movable assignment stands more often in the one result than in the other.
-- Over each full path lies one path of a step's result, since old nodes keep their numbers and what is put before a
-- node is a chain to it
abbrev pub IsNoWorse : GraphShape → GraphShape → GraphShape → Type 0
IsNoWorse graph result other = (path over over' : List ℕ) → IsFullPath graph.nodes path
    → IsOver graph.nodes result.nodes path over → IsOver graph.nodes other.nodes path over'
    → (x : ℕ) (t : Rhs) → divides t ≡ false
    → count_by (occurs_at x t result) over ≤ count_by (occurs_at x t other) over'

-- no plain or movable assignment stands less often on the path of the result over a full path of the graph than on
-- that path
abbrev pub HasNoFewer : GraphShape → GraphShape → Type 0
HasNoFewer graph result = (path over : List ℕ) → IsFullPath graph.nodes path
    → IsOver graph.nodes result.nodes path over → (x : ℕ) (t : Rhs) → divides t ≡ false
    → count_by (occurs_at x t graph) path ≤ count_by (occurs_at x t result) over

-- on each full path of the graph the plain and movable assignments together weigh no more in the one result than in
-- the other, whatever each of them weighs
abbrev pub IsNoHeavier : GraphShape → GraphShape → GraphShape → Type 0
IsNoHeavier graph result other = (weight : ℕ → Rhs → ℕ)
    → ((x : ℕ) (t : Rhs) → divides t ≡ true → weight x t ≡ 0)
    → (path over over' : List ℕ) → IsFullPath graph.nodes path
    → IsOver graph.nodes result.nodes path over → IsOver graph.nodes other.nodes path over'
    → sum_on (weight_at weight result.nodes) over ≤ sum_on (weight_at weight other.nodes) over'

-- ---- the best of all steps

-- the round is a step, and of all steps it is the best: none leaves fewer of a plain or movable assignment on any full
-- path, or lighter ones; and where the round leaves the layout as it is, none leaves fewer than the graph has
pub record IsBestStep (graph round : GraphShape) : Type 0 where
  pub is_step : IsStep graph round
  pub no_worse : (step : GraphShape) → IsStep graph step → IsNoWorse graph round step
  pub no_heavier : (step : GraphShape) → IsStep graph step → IsNoHeavier graph round step
  pub settled : HaveOneLayout graph round → (step : GraphShape) → IsStep graph step
      → HasNoFewer graph step

-- each of these is the best step from the graph before it
abbrev pub AreBestSteps : GraphShape → List GraphShape → Type 0
AreBestSteps graph [] = Unit {0}
AreBestSteps graph (round ∷ rounds) = IsBestStep graph round × AreBestSteps round rounds
