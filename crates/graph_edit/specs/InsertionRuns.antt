-- When a rewriting keeps what a graph does: a relation between the values of the two sides before each old node,
-- which the new assignments and the changed ones keep up. `TrapsAfter` is cited by a contract of motion_rewrite, and the
-- rest by proofs of the crates above.
use Rattle.std.specs.Prelude.{◌≡◌, ◌⊎◌, ℕ, ◌≤◌, Bool, true, false, not, ◌&&◌, List, [], ◌∷◌, slice_get, ℤ, Some}
use Rattle.mir_base.specs.declared.instructions.Rhs.{Rhs}
use Rattle.mir_base.specs.declared.operators.Trap.TheVariants.{ZeroDivisor}
use Rattle.mir_base.specs.Frames.{Values, with_value, Frame, Traps, Code}
use Rattle.mir_base.specs.Expressions.{rhs_traps, rhs_value, rhs_count}
use Rattle.mir_base.specs.Simulations.{Silently}
use Rattle.flow_graph.specs.declared.nodes.Node.{Node}
use Rattle.flow_graph.specs.declared.nodes.Node.TheVariants.{Assign}
use Rattle.flow_graph.specs.Graphs.{GraphShape, node_reads, assigns}
use Rattle.flow_graph.specs.Machines.{graph_code}
use Rattle.flow_graph.specs.Paths.{HasEdge, IsFullPath, Trace}
use Rattle.flow_graph.specs.Sums.{sum_on}
use Rattle.mir_base.specs.EqualValues.{EqualOn}
use Rattle.graph_edit.specs.Insertions.{Insertion, Unchanged, Replaced, Removed, Rewriting}
use Rattle.graph_edit.specs.Over.{weight_at, new_weight_at}

-- ---- new assignments

-- the values after them
abbrev pub values_after : List Insertion → Values → Values
values_after [] values = values
values_after (put ∷ puts) values =
    values_after puts (with_value put.var (rhs_value values put.rhs) values)

-- none of them traps
abbrev pub none_traps : List Insertion → Values → Bool
none_traps [] values = true
none_traps (put ∷ puts) values = not (rhs_traps values put.rhs)
    && none_traps puts (with_value put.var (rhs_value values put.rhs) values)

-- ---- values of the two sides

-- of a node, the nodes before it on the way from Start, the nearest first, and the values of the graph and of the
-- rewritten graph, before what is put before the node
abbrev pub ValueRelation : Type 1
ValueRelation = ℕ → List ℕ → Values → Values → Type 0

-- each side gives the same value to what is assigned, and keeps all else
pub record BothAssign (assigned : ℕ → Bool) (v w v' w' : Values) : Type 0 where
  pub same : (x : ℕ) → assigned x ≡ true → v' x ≡ w' x
  pub first_keeps : (x : ℕ) → assigned x ≡ false → v' x ≡ v x
  pub second_keeps : (x : ℕ) → assigned x ≡ false → w' x ≡ w x

-- after so many silent steps from this frame the code traps by a divisor of 0, the only trap that a right side has
pub record TrapsAfter (code : Code) (steps : ℕ) (frame : Frame) : Type 0 where
  pub there : Frame
  pub cost : ℕ
  pub silent : Silently code steps frame there cost
  pub counted : ℕ
  pub is : code there ≡ Traps ZeroDivisor counted

-- The conditions on a rewriting and a relation of values. By them the rewritten graph does the same as the graph
pub record Preserves (graph : GraphShape) (r : Rewriting) (Holds : ValueRelation) : Type 0 where
  -- only assignments are changed
  pub changes : (n : ℕ) (node : Node) → slice_get graph.nodes n ≡ Some node
      → (r.changes n ≡ Unchanged)
      ⊎ ((x : ℕ) × (rhs : Rhs) × (next : ℕ) × (node ≡ Assign x rhs next))
  -- it holds after Start, where the values of both sides are equal
  pub starts : (s : ℕ) (values : Values) → HasEdge graph.nodes 0 s → Holds s (0 ∷ []) values values
  -- where a new assignment traps, the graph traps too, after silent steps
  pub traps : (n : ℕ) (before : List ℕ) (arguments : List ℤ) (v w : Values)
      → Trace graph.nodes n before → Holds n before v w → none_traps (r.inserts n) w ≡ false
      → (steps : ℕ)
      × TrapsAfter (graph_code graph.shared graph.received graph.nodes) steps
      (record { place = n; arguments = arguments; values = v })
  -- what a node reads that is not changed has the same value on both sides
  pub reads : (n : ℕ) (node : Node) (before : List ℕ) (v w : Values) → Trace graph.nodes n before
      → slice_get graph.nodes n ≡ Some node → r.changes n ≡ Unchanged → Holds n before v w
      → none_traps (r.inserts n) w ≡ true
      → EqualOn (node_reads graph node) (values_after (r.inserts n) w) v
  -- and what it assigns keeps the relation
  pub keeps : (n s : ℕ) (node : Node) (before : List ℕ) (v w v' w' : Values)
      → Trace graph.nodes n before → slice_get graph.nodes n ≡ Some node → HasEdge graph.nodes n s
      → r.changes n ≡ Unchanged → Holds n before v w → none_traps (r.inserts n) w ≡ true
      → BothAssign (λ x. assigns graph x node) v (values_after (r.inserts n) w) v' w'
      → Holds s (n ∷ before) v' w'
  -- an assignment with another right side traps where the old one does, and else keeps the relation
  pub replaces : (n s x : ℕ) (rhs other : Rhs) (before : List ℕ) (v w : Values)
      → Trace graph.nodes n before → slice_get graph.nodes n ≡ Some (Assign x rhs s)
      → r.changes n ≡ Replaced other → Holds n before v w → none_traps (r.inserts n) w ≡ true
      → (rhs_traps v rhs ≡ rhs_traps (values_after (r.inserts n) w) other)
      × (rhs_traps v rhs ≡ false
      → Holds s (n ∷ before) (with_value x (rhs_value v rhs) v)
      (with_value x (rhs_value (values_after (r.inserts n) w) other)
      (values_after (r.inserts n) w)))
  -- an assignment that is removed does not trap, and the relation is kept without it
  pub removes : (n s x : ℕ) (rhs : Rhs) (before : List ℕ) (v w : Values)
      → Trace graph.nodes n before → slice_get graph.nodes n ≡ Some (Assign x rhs s)
      → r.changes n ≡ Removed → Holds n before v w → none_traps (r.inserts n) w ≡ true
      → (rhs_traps v rhs ≡ false)
      × Holds s (n ∷ before) (with_value x (rhs_value v rhs) v) (values_after (r.inserts n) w)

-- ---- counts

-- the number of operators that an assignment evaluates
abbrev pub counts : ℕ → Rhs → ℕ
counts x rhs = rhs_count rhs

-- on no full path do the assignments count more than before
abbrev pub CountsNoMore : Rewriting → List Node → Type 0
CountsNoMore r nodes = (path : List ℕ) → IsFullPath nodes path
    → sum_on (new_weight_at counts r nodes) path ≤ sum_on (weight_at counts nodes) path
