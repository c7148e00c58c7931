-- Which units call a unit. Cited by contracts.
use Rattle.std.specs.Prelude.{◌≡◌, ℕ, ◌<◌, true, List, length, slice_get, Option, Some}
use Rattle.mir_base.specs.declared.instructions.Operand.{Operand}
use Rattle.node_list.specs.Lists.{list_at}
use Rattle.flow_graph.specs.declared.nodes.Node.{Node}
use Rattle.flow_graph.specs.declared.nodes.Node.TheVariants.{Call}
use Rattle.flow_graph.specs.Graphs.{GraphShape}
use Rattle.flow_graph.specs.Numbering.{is_in}

-- a node calls none but the first units
abbrev pub CallIsWithin : Node → ℕ → Type 0
CallIsWithin node count = (into : Option ℕ) (v : ℕ) (operands : List Operand) (next : ℕ)
    → node ≡ Call into v operands next → v < count

-- the nodes of a graph
abbrev pub CallsWithin : GraphShape → ℕ → Type 0
CallsWithin graph count =
    (n : ℕ) (node : Node) → slice_get graph.nodes n ≡ Some node → CallIsWithin node count

-- those of all units call none but these
abbrev pub AllCallWithin : List GraphShape → Type 0
AllCallWithin graphs = (u : ℕ) (graph : GraphShape) → slice_get graphs u ≡ Some graph
    → CallsWithin graph (length graphs)

-- a list keeps its units, and has this one
pub record Notes (unit : ℕ) (old new : List ℕ) : Type 0 where
  pub keeps : (x : ℕ) → is_in x old ≡ true → is_in x new ≡ true
  pub noted : is_in unit new ≡ true

-- lists keep their units, and that of the unit that a node calls has this one
pub record NotesCall (node : Node) (unit : ℕ) (old new : List (List ℕ)) : Type 0 where
  pub long : length new ≡ length old
  pub keeps : (v x : ℕ) → is_in x (list_at old v) ≡ true → is_in x (list_at new v) ≡ true
  pub noted : (into : Option ℕ) (v : ℕ) (operands : List Operand) (next : ℕ)
      → node ≡ Call into v operands next → is_in unit (list_at new v) ≡ true

-- so of the first nodes of a graph
pub record NotesCalls (graph : GraphShape) (count unit : ℕ) (old new : List (List ℕ)) : Type 0 where
  pub long : length new ≡ length old
  pub keeps : (v x : ℕ) → is_in x (list_at old v) ≡ true → is_in x (list_at new v) ≡ true
  pub noted : (n : ℕ) (into : Option ℕ) (v : ℕ) (operands : List Operand) (next : ℕ)
      → n < count → slice_get graph.nodes n ≡ Some (Call into v operands next)
      → is_in unit (list_at new v) ≡ true

-- each of the first units is among the callers of those that it calls
pub record AreCallersBelow (graphs : List GraphShape) (count : ℕ) (callers : List (List ℕ))
    : Type 0 where
  pub long : length callers ≡ length graphs
  pub calls : (w : ℕ) (graph : GraphShape) (n : ℕ) (into : Option ℕ) (v : ℕ)
      (operands : List Operand) (next : ℕ) → w < count → slice_get graphs w ≡ Some graph
      → slice_get graph.nodes n ≡ Some (Call into v operands next)
      → is_in w (list_at callers v) ≡ true

-- each unit
abbrev pub AreUnitCallers : List GraphShape → List (List ℕ) → Type 0
AreUnitCallers graphs callers = AreCallersBelow graphs (length graphs) callers
