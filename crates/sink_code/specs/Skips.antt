-- Skips that an assignment passes: the node after each, and where they lead. Cited by contracts.
use Rattle.std.specs.Prelude.{◌≡◌, ◌<◌, ◌≤◌, ℕ, zero, suc, nat_eq, if◌then◌else◌, Bool, true, false, List, length, slice_get, Option, Some, None}
use Rattle.flow_graph.specs.declared.nodes.Node.{Node}
use Rattle.flow_graph.specs.declared.nodes.Node.TheVariants.{Start, Skip, Assign, Print, Guard, Call, Test, Return}
use Rattle.flow_graph.specs.Edges.{preds_of}

-- the node, where one edge alone enters it
abbrev pub entered_once : List Node → ℕ → Option ℕ
entered_once nodes n = if nat_eq (length (preds_of nodes n)) 1 then Some n else None

-- the node after this one, where this is a Skip and no other edge leads there
abbrev pub skip_over : List Node → Option Node → Option ℕ
skip_over nodes None = None
skip_over nodes (Some (Start next)) = None
skip_over nodes (Some (Skip next)) = entered_once nodes next
skip_over nodes (Some (Assign x rhs next)) = None
skip_over nodes (Some (Print a next)) = None
skip_over nodes (Some (Guard test number next)) = None
skip_over nodes (Some (Call into unit operands next)) = None
skip_over nodes (Some (Test test taken other)) = None
skip_over nodes (Some (Return a)) = None

-- the same of node n
abbrev pub skip_on : List Node → ℕ → Option ℕ
skip_on nodes n = skip_over nodes (slice_get nodes n)

-- over so many Skips node s leads to node n
abbrev pub LeadsBy : List Node → ℕ → ℕ → ℕ → Type 0
LeadsBy nodes zero s n = s ≡ n
LeadsBy nodes (suc k) s n = (m : ℕ) × LeadsBy nodes k s m × (skip_on nodes m ≡ Some n)

-- over no more than there are nodes
pub record LeadsOn (nodes : List Node) (s n : ℕ) : Type 0 where
  pub skips : ℕ
  pub few : skips ≤ length nodes
  pub leads : LeadsBy nodes skips s n

-- and no Skip leads on from there, as far as there are nodes
pub record LeadsTo (nodes : List Node) (s n : ℕ) : Type 0 where
  pub over : LeadsOn nodes s n
  pub last : (k m : ℕ) → over.skips < k → k ≤ length nodes → LeadsBy nodes k s m → ⊥
