-- Which patterns of a graph can still move. Cited by contracts.
use Rattle.std.specs.Prelude.{◌≡◌, ◌<◌, ◌⊎◌, ℕ, true, Contains, List, length, slice_get, Option, Some, None}
use Rattle.flow_graph.specs.declared.nodes.Node.{Node}
use Rattle.flow_graph.specs.declared.nodes.Node.TheVariants.{Assign}
use Rattle.flow_graph.specs.Graphs.{GraphShape}
use Rattle.sink_code.specs.declared.patterns.Pattern.{Pattern}
use Rattle.graph_edit.specs.Accesses.{blocks_at}
use Rattle.sink_code.specs.Skips.{LeadsOn}
use Rattle.sink_code.specs.PatternTables.{AreSinkableBelow, AreOrdered, pattern_of}

-- Skips lead on from node s to a node that blocks the pattern, each to a node that no other edge enters
pub record IsHeldUp (graph : GraphShape) (p : Pattern) (s : ℕ) : Type 0 where
  pub at : ℕ
  pub leads : LeadsOn graph.nodes s at
  pub blocks : blocks_at p.var p.rhs graph at ≡ true

-- what a node gives to the table of patterns that can still move: with `Some p`, p is its pattern and is not held up
-- after it; with `None`, it has no pattern, or its pattern is held up after it
abbrev pub MovesFrom : GraphShape → Node → Option Pattern → Type 0
MovesFrom graph node (Some p) = (pattern_of node ≡ Some p)
    × ((next : ℕ) × (node ≡ Assign p.var p.rhs next) × (IsHeldUp graph p next → ⊥))
MovesFrom graph node None = (p : Pattern) (next : ℕ) → node ≡ Assign p.var p.rhs next
    → pattern_of node ≡ Some p → IsHeldUp graph p next

-- the same of a node with this successor
abbrev pub MovesOn : GraphShape → Node → ℕ → Option Pattern → Type 0
MovesOn graph node next (Some p) = (pattern_of node ≡ Some p) × (IsHeldUp graph p next → ⊥)
MovesOn graph node next None = (p : Pattern) → pattern_of node ≡ Some p → IsHeldUp graph p next

-- the pattern occurs at node n, and is not held up after it
abbrev pub CanMoveFrom : GraphShape → Pattern → ℕ → Type 0
CanMoveFrom graph p n = (next : ℕ) × (slice_get graph.nodes n ≡ Some (Assign p.var p.rhs next))
    × (IsHeldUp graph p next → ⊥)

-- the pattern can still move, from some node
abbrev pub CanMove : GraphShape → Pattern → Type 0
CanMove graph p = (n : ℕ) × CanMoveFrom graph p n

-- before each node from which pattern q can move is one from which pattern p can
abbrev pub MovesFirst : GraphShape → Pattern → Pattern → Type 0
MovesFirst graph p q = (m : ℕ) → CanMoveFrom graph q m → (n : ℕ) × (n < m) × CanMoveFrom graph p n

-- the table has exactly the patterns of the graph that can still move, distinct and in order of their variables, those
-- of one variable in order of the first node from which each can move: each that it has can move, and wherever one that
-- it does not have occurs, it is held up after the node. What it has does not divide and is over the graph's variables
pub record AreMoving (graph : GraphShape) (table : List Pattern) : Type 0 where
  pub ordered : AreOrdered table
  pub ties : (i j : ℕ) (p q : Pattern) → i < j → slice_get table i ≡ Some p
      → slice_get table j ≡ Some q → p.var ≡ q.var → MovesFirst graph p q
  pub all : (n next : ℕ) (p : Pattern) → slice_get graph.nodes n ≡ Some (Assign p.var p.rhs next)
      → pattern_of (Assign p.var p.rhs next) ≡ Some p → Contains table p ⊎ IsHeldUp graph p next
  pub moves : (k : ℕ) (p : Pattern) → slice_get table k ≡ Some p → CanMove graph p
  pub each : AreSinkableBelow (length graph.vars) table
