-- Dead assignments, told block by block: what blocks read and assign, what is live after each, and which nodes are
-- flagged. Cited by contracts of private functions.
use Rattle.std.specs.Prelude.{◌≡◌, ℕ, ◌<◌, ◌≤◌, ◌↔◌, ◌||◌, ◌&&◌, not, nat_eq, if◌then◌else◌, Bool, true, false, List, length, reverse, slice_get, Some}
use Rattle.std.specs.List.{list_any}
use Rattle.mir_base.specs.Expressions.{divides}
use Rattle.flow_graph.specs.declared.nodes.Node.{Node}
use Rattle.flow_graph.specs.declared.nodes.Node.TheVariants.{Start, Skip, Assign, Print, Guard, Call, Test, Return}
use Rattle.flow_graph.specs.Blocks.{StandsIn}
use Rattle.flow_graph.specs.Graphs.{GraphShape, node_reads}
use Rattle.flow_graph.specs.Numbering.{is_in}
use Rattle.flow_graph.specs.Paths.{Ends}
pub use Rattle.graph_edit.specs.Flagged.{flag_at, graph_flagged}
use Rattle.path_laws.specs.Blockwise.{passed_all}
use Rattle.path_laws.specs.Paths.{AreRows, has_bit}
use Rattle.bit_rows.specs.Bits.{row_of}
use Rattle.dead_code.specs.declared.dead.BlockAccesses.{BlockAccesses}
use Rattle.graph_edit.specs.Accesses.{assigns_at, reads_at, assigned_vars}
use Rattle.dead_code.specs.Liveness.{IsLiveAfter}
use Rattle.dead_code.specs.Pruned.{IsDeadAt}

-- ---- one node

-- one row, which told what is live after a node of the graph, tells what is live before it, and all else stays
pub record PassesBack (graph : GraphShape) (node : Node) (n : ℕ)
    (old new : List (List Bool)) : Type 0 where
  pub len : length new ≡ length old
  pub each : (m : ℕ) → length (row_of new m) ≡ length (row_of old m)
  pub bits : (m x : ℕ) → has_bit new x m
      ≡ (if nat_eq n m then is_in x (node_reads graph node)
      || (has_bit old x m && not (is_in x (assigned_vars graph node)))
      else has_bit old x m)

-- by the row of what is live after it the node is a dead assignment
abbrev pub is_dead_by : List (List Bool) → ℕ → Node → Bool
is_dead_by live row (Start next) = false
is_dead_by live row (Skip next) = false
is_dead_by live row (Assign x rhs next) = not (divides rhs) && not (has_bit live x row)
is_dead_by live row (Print a next) = false
is_dead_by live row (Guard test number next) = false
is_dead_by live row (Call into unit operands next) = false
is_dead_by live row (Test test taken other) = false
is_dead_by live row (Return a) = false

-- ---- blocks

-- whether x is live before these nodes of a block, by whether it is live after the last of them
abbrev pub live_past : GraphShape → ℕ → Bool → List ℕ → Bool
live_past graph x after list =
    passed_all (reads_at graph x) (assigns_at graph x) after (reverse list)

-- of the blocks below this number the rows say which variables each reads before it assigns them, and which it assigns
pub record AreAccessesTo (graph : GraphShape) (lists : List (List ℕ)) (below : ℕ)
    (reads assigns : List (List Bool)) : Type 0 where
  pub reads_shape : AreRows (length lists) (length graph.vars) reads
  pub assigns_shape : AreRows (length lists) (length graph.vars) assigns
  pub read : (b x : ℕ) (list : List ℕ) → b < below → slice_get lists b ≡ Some list
      → has_bit reads x b ≡ live_past graph x false list
  pub assigned : (b x : ℕ) (list : List ℕ) → b < below → slice_get lists b ≡ Some list
      → has_bit assigns x b ≡ list_any (assigns_at graph x) list
  pub later : (b x : ℕ) → below ≤ b → (has_bit reads x b ≡ false) × (has_bit assigns x b ≡ false)

-- and so it is of all blocks
abbrev pub AreBlockAccesses : GraphShape → List (List ℕ) → BlockAccesses → Type 0
AreBlockAccesses graph lists made = AreAccessesTo graph lists (length lists) made.reads made.assigns

-- of the blocks from this one on the rows tell which variables are live after the last node
pub record AreLiveAfterFrom (graph : GraphShape) (lists : List (List ℕ)) (block : ℕ)
    (rows : List (List Bool)) : Type 0 where
  pub shape : AreRows (length lists) (length graph.vars) rows
  pub are : (b x last : ℕ) (list : List ℕ) → block ≤ b → x < length graph.vars
      → slice_get lists b ≡ Some list
      → Ends last list → (has_bit rows x b ≡ true) ↔ IsLiveAfter graph x last

-- of all blocks
abbrev pub AreLiveAfter : GraphShape → List (List ℕ) → List (List Bool) → Type 0
AreLiveAfter graph lists rows = AreLiveAfterFrom graph lists 0 rows

-- ---- flags

-- one flag for each node; those of the blocks below this number tell whether the node is a dead assignment
pub record AreFlaggedTo (graph : GraphShape) (lists : List (List ℕ)) (below : ℕ)
    (dead : List Bool) : Type 0 where
  pub long : length dead ≡ length graph.nodes
  pub are : (b n : ℕ) (flag : Bool) → b < below → StandsIn lists b n → slice_get dead n ≡ Some flag
      → (flag ≡ true) ↔ IsDeadAt graph n

-- one flag for each node tells whether it is a dead assignment
pub record TellDead (graph : GraphShape) (dead : List Bool) : Type 0 where
  pub long : length dead ≡ length graph.nodes
  pub are : (n : ℕ) (flag : Bool) → slice_get dead n ≡ Some flag → (flag ≡ true) ↔ IsDeadAt graph n

-- no node is flagged
abbrev pub NoneFlagged : List Bool → Type 0
NoneFlagged dead = (n : ℕ) → n < length dead → flag_at dead n ≡ false
