-- Assignments that hold: after `v <- rhs` the variable has the value of the right side as long as neither v nor a variable
-- of rhs is assigned. Cited by contracts, here and above.
use Rattle.std.specs.Prelude.{◌≡◌, ℕ, Bool, true, false, not, ◌&&◌, ◌∷◌, List, slice_get, Option, Some, None}
use Rattle.std.specs.List.{list_any}
use Rattle.mir_base.specs.declared.instructions.Rhs.{Rhs}
use Rattle.mir_base.specs.Expressions.{divides}
use Rattle.mir_base.specs.Shapes.{rhs_vars}
use Rattle.flow_graph.specs.declared.nodes.Node.{Node}
use Rattle.flow_graph.specs.Graphs.{GraphShape, Reached, assigns}
use Rattle.flow_graph.specs.Numbering.{is_in}
use Rattle.graph_edit.specs.Accesses.{occurs_at}
use Rattle.path_laws.specs.Paths.{BornBefore}

-- the assignment `v <- rhs` never traps and does not read v
abbrev pub can_hold : ℕ → Rhs → Bool
can_hold v rhs = not (divides rhs) && not (is_in v (rhs_vars rhs))

-- the node, where there is one, assigns one of these variables; a call assigns the globals too
abbrev pub assigns_one : GraphShape → List ℕ → Option Node → Bool
assigns_one graph vars None = false
assigns_one graph vars (Some node) = list_any (λ x. assigns graph x node) vars

-- node n assigns v or a variable of rhs
abbrev pub ends_at : GraphShape → ℕ → Rhs → ℕ → Bool
ends_at graph v rhs n = assigns_one graph (v ∷ rhs_vars rhs) (slice_get graph.nodes n)

-- the assignment holds before node n: it never traps and does not read v, node n is reached, and on every path from
-- Start to it there is, before n, a node `v <- rhs` after which, before n, no node assigns v or a variable of rhs
pub record IsHeld (graph : GraphShape) (v : ℕ) (rhs : Rhs) (n : ℕ) : Type 0 where
  pub can : can_hold v rhs ≡ true
  pub reached : Reached graph.nodes n
  pub paths : BornBefore graph.nodes (occurs_at v rhs graph) (ends_at graph v rhs) n

-- of the picked assignments of v this is the right side of the one that holds before node n, and there is none
abbrev pub IsHeldRhs : (ℕ → Rhs → Bool) → GraphShape → ℕ → ℕ → Option Rhs → Type 0
IsHeldRhs picked graph n v (Some rhs) = (picked v rhs ≡ true) × IsHeld graph v rhs n
IsHeldRhs picked graph n v None = (rhs : Rhs) → picked v rhs ≡ true → IsHeld graph v rhs n → ⊥
