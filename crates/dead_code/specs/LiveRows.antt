-- Rows of bits by nodes and variables: what nodes read and assign, and which variables are live before them. Cited by
-- contracts.
use Rattle.std.specs.Prelude.{◌≡◌, ℕ, ◌<◌, ◌&&◌, if◌then◌else◌, Bool, true, nat_eq, List, length}
use Rattle.bit_rows.specs.Bits.{row_of}
use Rattle.flow_graph.specs.declared.nodes.Node.{Node}
use Rattle.flow_graph.specs.Blocks.{StandsIn}
use Rattle.flow_graph.specs.Graphs.{GraphShape}
use Rattle.flow_graph.specs.Numbering.{is_in}
use Rattle.path_laws.specs.Paths.{HaveShape, Tell, has_bit}
use Rattle.dead_code.specs.Liveness.{IsLiveBefore}
use Rattle.graph_edit.specs.Accesses.{assigns_of}

-- ---- marks of what nodes read and assign

-- the bits of these variables in row n are this value, and all else stays
pub record IsMarkedAt (value : Bool) (n : ℕ) (vars : List ℕ)
    (old new : List (List Bool)) : Type 0 where
  pub len : length new ≡ length old
  pub each : (m : ℕ) → length (row_of new m) ≡ length (row_of old m)
  pub bits : (m x : ℕ)
      → has_bit new x m ≡ (if nat_eq n m && is_in x vars then value else has_bit old x m)

-- ---- rows of what is live

-- the rows tell which variables are live before each node
abbrev pub TellLive : GraphShape → List (List Bool) → Type 0
TellLive graph rows = Tell graph (length graph.vars) rows (λ x n. IsLiveBefore graph x n)

-- one row for each node and one bit for each variable: each bit that is set is that of a variable that is live before
-- the node, and at the nodes of the blocks below this number each live variable has its bit
pub record AreLiveTo (graph : GraphShape) (lists : List (List ℕ)) (below : ℕ)
    (rows : List (List Bool)) : Type 0 where
  pub shape : HaveShape graph (length graph.vars) rows
  pub only : (n x : ℕ) → x < length graph.vars → has_bit rows x n ≡ true → IsLiveBefore graph x n
  pub all : (b n x : ℕ) → b < below → x < length graph.vars → StandsIn lists b n
      → IsLiveBefore graph x n
      → has_bit rows x n ≡ true
