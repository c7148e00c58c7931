-- The graph without the divisions that nothing reads. Cited by contracts, those of pass_chain too.
use Rattle.std.specs.Prelude.{◌≡◌, ◌⊎◌, ◌↔◌, ◌<◌, ℕ, pos, Bool, true, false, List, length, slice_get, Option, Some, None}
use Rattle.mir_base.specs.declared.instructions.Operand.{Operand}
use Rattle.mir_base.specs.declared.instructions.Rhs.TheVariants.{Binary}
use Rattle.mir_base.specs.declared.operators.Op.{Op}
use Rattle.mir_base.specs.declared.operators.RelOp.TheVariants.{Eq}
use Rattle.mir_base.specs.Frames.{Frame}
use Rattle.mir_base.specs.Numbers.{is_dividing}
use Rattle.mir_base.specs.Units.{operand_value}
use Rattle.flow_graph.specs.declared.nodes.Node.TheVariants.{Assign}
use Rattle.flow_graph.specs.Dividing.{DividesOf}
use Rattle.flow_graph.specs.Graphs.{GraphShape}
use Rattle.flow_graph.specs.Machines.{machine_of}
use Rattle.flow_graph.specs.RunFrames.{IsRunFrame}
use Rattle.graph_edit.specs.Flagged.{pruned_from}
use Rattle.cond_flow.specs.KnownBefore.{IsKnownBefore}
use Rattle.cond_flow.specs.Rules.{Rules}
use Rattle.bounds.specs.declared.facts.Fact.{Fact}
use Rattle.bounds.specs.declared.facts.Fact.TheVariants.{Fixed}
use Rattle.bounds.specs.BoundRules.{bound_rules}
use Rattle.bounds.specs.Bounding.{span_of}
use Rattle.bounds.specs.Edges.{fact_of}
use Rattle.bounds.specs.Facts.{BelowFact}
use Rattle.bounds.specs.Narrowing.{may_relate}
use Rattle.dead_code.specs.Liveness.{IsLiveAfter}
use Rattle.zero_flow.specs.declared.facts.ZeroFact.{ZeroFact}
use Rattle.zero_flow.specs.ZeroFacts.{BelowZeroFact}
use Rattle.zero_flow.specs.ZeroRules.{may_be_nought, zero_rules}

-- ---- which divisions go

-- node n divides, whether or not the divisor may be 0, and its variable is not live behind it
pub record IsDeadDivision (graph : GraphShape) (n : ℕ) : Type 0 where
  pub var : ℕ
  pub op : Op
  pub left : Operand
  pub right : Operand
  pub next : ℕ
  pub is : slice_get graph.nodes n ≡ Some (Assign var (Binary op left right) next)
  pub divides : is_dividing op ≡ true
  pub dead : ¬ (IsLiveAfter graph var n)

-- the operand may be 0 by which variables are 0, if a run comes to the node at all
abbrev pub may_be_nought_before : Option (List ZeroFact) → Operand → Bool
may_be_nought_before None b = false
may_be_nought_before (Some known) b = may_be_nought known b

-- and by the bounds of the variables
abbrev pub bounds_have_zero : Option (List Fact) → Operand → Bool
bounds_have_zero None b = false
bounds_have_zero (Some facts) b =
    may_relate Eq (span_of (fact_of facts b)) (span_of (Fixed (pos 0)))

-- by the least states of the graph, by these rules, the operand may not be 0 before node n
pub record IsRuledOut {K : Type 0} (below : K → K → Type 0) (rules : Rules K)
    (may_be : Option (List K) → Operand → Bool) (graph : GraphShape) (n : ℕ)
    (b : Operand) : Type 0 where
  pub known : Option (List K)
  pub is_known : IsKnownBefore below rules graph n known
  pub never : may_be known b ≡ false

-- by the states that say which variables are 0
abbrev pub IsOtherByZeros : GraphShape → ℕ → Operand → Type 0
IsOtherByZeros graph n b = IsRuledOut BelowZeroFact zero_rules may_be_nought_before graph n b

-- by those that have their bounds
abbrev pub IsOtherByBounds : GraphShape → ℕ → Operand → Type 0
IsOtherByBounds graph n b = IsRuledOut BelowFact bound_rules bounds_have_zero graph n b

-- by either the operand is not 0 before node n
abbrev pub IsNeverZero : GraphShape → ℕ → Operand → Type 0
IsNeverZero graph n b = IsOtherByZeros graph n b ⊎ IsOtherByBounds graph n b

-- node n is a division that nothing reads, and its divisor is not 0
pub record IsUnreadAt (graph : GraphShape) (n : ℕ) : Type 0 where
  pub division : IsDeadDivision graph n
  pub safe : IsNeverZero graph n division.right

-- ---- the graph

-- exactly these became Skips with their successors; all else is as it was
pub record IsUnread (graph lessened : GraphShape) : Type 0 where
  pub gone : ℕ → Bool
  pub gone_are : (n : ℕ) → n < length graph.nodes → (gone n ≡ true) ↔ IsUnreadAt graph n
  pub is : lessened ≡ record graph { nodes = pruned_from gone 0 graph.nodes }

-- no other graph is
abbrev pub IsOnlyUnread : GraphShape → GraphShape → Type 0
IsOnlyUnread graph lessened = (other : GraphShape) → IsUnread graph other → other ≡ lessened

-- x is not live behind node n, and in each run that comes there the operand is not 0
pub record IsUnneeded (graph : GraphShape) (n x : ℕ) (b : Operand) : Type 0 where
  pub dead : ¬ (IsLiveAfter graph x n)
  pub safe : (frame : Frame) → IsRunFrame (machine_of graph) frame → frame.place ≡ n
      → ¬ (operand_value frame.values b ≡ pos 0)

-- each node that divides stays as it is, where it stood, or is not needed
abbrev pub KeepsReadDivisions : GraphShape → GraphShape → Type 0
KeepsReadDivisions graph lessened = (n x : ℕ) (op : Op) (left right : Operand)
    → DividesOf graph.nodes n x op left right
    → DividesOf lessened.nodes n x op left right ⊎ IsUnneeded graph n x right
