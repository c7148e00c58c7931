-- The graph without dead assignments. Cited by contracts.
use Rattle.std.specs.Prelude.{◌≡◌, ◌↔◌, ◌<◌, ℕ, Bool, true, false, length, slice_get, Some}
use Rattle.mir_base.specs.declared.instructions.Rhs.{Rhs}
use Rattle.mir_base.specs.Expressions.{divides}
use Rattle.flow_graph.specs.declared.nodes.Node.TheVariants.{Assign}
use Rattle.flow_graph.specs.Graphs.{GraphShape}
pub use Rattle.graph_edit.specs.Flagged.{pruned_from, removed_if}
use Rattle.dead_code.specs.Liveness.{IsHandedOn, IsLiveAfter}

-- node n assigns a variable that is not live after it, and its right side does not divide: it is plain or movable
pub record IsDeadAt (graph : GraphShape) (n : ℕ) : Type 0 where
  pub var : ℕ
  pub rhs : Rhs
  pub next : ℕ
  pub is : slice_get graph.nodes n ≡ Some (Assign var rhs next)
  pub sinkable : divides rhs ≡ false
  pub unread : ¬ (IsLiveAfter graph var n)

-- the graph in which exactly the dead assignments became Skips with their successors; all else is as it was
pub record IsPruned (graph pruned : GraphShape) : Type 0 where
  pub dead : ℕ → Bool
  pub dead_are : (n : ℕ) → n < length graph.nodes → (dead n ≡ true) ↔ IsDeadAt graph n
  pub is : pruned ≡ record graph { nodes = pruned_from dead 0 graph.nodes }

-- each assignment of a global whose value some later call or return may hand on to other units stays
abbrev pub KeepsHandedOn : GraphShape → GraphShape → Type 0
KeepsHandedOn graph pruned = (n x : ℕ) (rhs : Rhs) (next : ℕ) → x < graph.shared
    → slice_get graph.nodes n ≡ Some (Assign x rhs next) → IsHandedOn graph x next
    → slice_get pruned.nodes n ≡ Some (Assign x rhs next)
