-- Laws of a node that is changed (`changed`), alone and with other numbers for its successors. For proofs only; the
-- crates above cite them too.
use Rattle.std.proofs.Common.{◌≡◌, ℕ, map, refl, ap, ◌∙◌}
use Rattle.mir_base.specs.Shapes.{AllBelow}
use Rattle.flow_graph.specs.declared.nodes.Node.{Node}
use Rattle.flow_graph.specs.declared.nodes.Node.TheVariants.{Start, Skip, Assign, Print, Guard, Call, Test, Return}
use Rattle.flow_graph.specs.Calls.{node_call}
use Rattle.flow_graph.specs.Graphs.{node_succs, node_vars}
use Rattle.flow_graph.specs.NodeLaws.{redirected_succs}
use Rattle.flow_graph.specs.Retained.{redirected}
use Rattle.graph_edit.specs.Insertions.{Change, Unchanged, Replaced, Removed, changed, ChangeBelow}

-- ---- a changed node

-- all that is the same of a node and the changed one
record IsChanged (change : Change) (node : Node) : Type 0 where
  succs : node_succs (changed change node) ≡ node_succs node
  call : node_call (changed change node) ≡ node_call node
  start : (s : ℕ) → changed change node ≡ Start s → (t : ℕ) × (node ≡ Start t)
  below : (k : ℕ) → ChangeBelow k change → AllBelow k (node_vars node)
      → AllBelow k (node_vars (changed change node))
  moved : (to : ℕ → ℕ) → redirected to (changed change node) ≡ changed change (redirected to node)
  unchanged : changed Unchanged node ≡ node

-- by cases of the node: all that is kept when it is changed
is_changed : (change : Change) (node : Node) → IsChanged change node
is_changed change (Start next) = record { succs = refl; call = refl; start = λ s e. (next, refl); below = λ k fits b. b; moved = λ to. refl; unchanged = refl }
is_changed change (Skip next) = record { succs = refl; call = refl; start = λ s e. cc; below = λ k fits b. b; moved = λ to. refl; unchanged = refl }
is_changed Unchanged (Assign x rhs next) = record { succs = refl; call = refl; start = λ s e. cc; below = λ k fits b. b; moved = λ to. refl; unchanged = refl }
is_changed (Replaced other) (Assign x rhs next) = record {
  succs = refl;
  call = refl;
  start = λ s e. cc;
  below = λ k fits b. (b.0, fits);
  moved = λ to. refl;
  unchanged = refl;
}
is_changed Removed (Assign x rhs next) = record { succs = refl; call = refl; start = λ s e. cc; below = λ k fits b. tt; moved = λ to. refl; unchanged = refl }
is_changed change (Print a next) = record { succs = refl; call = refl; start = λ s e. cc; below = λ k fits b. b; moved = λ to. refl; unchanged = refl }
is_changed change (Guard test number next) = record {
  succs = refl;
  call = refl;
  start = λ s e. cc;
  below = λ k fits b. b;
  moved = λ to. refl;
  unchanged = refl;
}
is_changed change (Call into unit operands next) = record {
  succs = refl;
  call = refl;
  start = λ s e. cc;
  below = λ k fits b. b;
  moved = λ to. refl;
  unchanged = refl;
}
is_changed change (Test test taken other) = record { succs = refl; call = refl; start = λ s e. cc; below = λ k fits b. b; moved = λ to. refl; unchanged = refl }
is_changed change (Return a) = record { succs = refl; call = refl; start = λ s e. cc; below = λ k fits b. b; moved = λ to. refl; unchanged = refl }

-- it has the node's successors
pub changed_succs : (change : Change) (node : Node) → node_succs (changed change node) ≡ node_succs node
changed_succs change node = let is = is_changed change node in is.succs

-- it makes the node's call, if any
pub changed_call : (change : Change) (node : Node) → node_call (changed change node) ≡ node_call node
changed_call change node = let is = is_changed change node in is.call

-- it is Start only where the node is
pub changed_start : (change : Change) (node : Node) (s : ℕ) → changed change node ≡ Start s → (t : ℕ) × (node ≡ Start t)
changed_start change node = let is = is_changed change node in is.start

-- its variables are in range where those of the change are
pub changed_below : (change : Change) (k : ℕ) → ChangeBelow k change → (node : Node)
    → AllBelow k (node_vars node) → AllBelow k (node_vars (changed change node))
changed_below change k fits node below = let is = is_changed change node in is.below k fits below

-- it may be redirected before or after the change
pub redirected_changed : (to : ℕ → ℕ) (change : Change) (node : Node)
    → redirected to (changed change node) ≡ changed change (redirected to node)
redirected_changed to change node = let is = is_changed change node in is.moved to

-- a kept node is the node
pub changed_not : (node : Node) → changed Unchanged node ≡ node
changed_not node = let is = is_changed Unchanged node in is.unchanged

-- ---- a changed node with other numbers for its successors

-- its successors have the other numbers
pub rewritten_succs : (to : ℕ → ℕ) (change : Change) (node : Node)
    → node_succs (redirected to (changed change node)) ≡ map to (node_succs node)
rewritten_succs to change node = redirected_succs to (changed change node) ∙ ap (map to) (changed_succs change node)
