-- The graph that is made by the least states. Cited by contracts.
use Rattle.std.specs.Prelude.{◌≡◌, ◌↔◌, ◌<◌, ℕ, true, List, length, slice_get, Some}
use Rattle.mir_base.specs.declared.instructions.Operand.{Operand}
use Rattle.mir_base.specs.declared.instructions.Rhs.{Rhs}
use Rattle.mir_base.specs.declared.instructions.Rhs.TheVariants.{Binary}
use Rattle.mir_base.specs.declared.operators.Op.{Op}
use Rattle.flow_graph.specs.declared.nodes.Node.{Node}
use Rattle.flow_graph.specs.declared.nodes.Node.TheVariants.{Assign}
use Rattle.flow_graph.specs.Dividing.{DividesAt, DividesOf}
use Rattle.flow_graph.specs.Graphs.{GraphShape, Reached as IsReachedNode}
use Rattle.flow_graph.specs.Passes.{GraphCalls, GraphCheaper, GraphSame}
use Rattle.flow_graph.specs.Retained.{IsMade}
use Rattle.cond_flow.specs.Rules.{Rules}
use Rattle.cond_flow.specs.States.{NodeState, Knows, is_reached}
use Rattle.cond_flow.specs.Becoming.{nodes_become}
use Rattle.cond_flow.specs.Solutions.{HasLeastStates}

-- the graph is made of what the nodes of the first become by its least states, and of these exactly those are kept
-- whose state is reached
pub record IsRewritten {K : Type 0} (below : K → K → Type 0) (rules : Rules K)
    (graph result : GraphShape) : Type 0 where
  pub states : ℕ → NodeState K
  pub least : HasLeastStates below rules graph states
  pub made : IsMade graph.name graph.shared graph.vars graph.received
      (nodes_become rules states graph.nodes) result
  pub kept : (n : ℕ) → n < length graph.nodes
      → IsReachedNode (nodes_become rules states graph.nodes) n
      ↔ (is_reached (states n) ≡ true)

-- the graph of what the nodes become by these states, reached or not
abbrev pub become_graph : {K : Type 0} → Rules K → (ℕ → NodeState K) → GraphShape → GraphShape
become_graph rules states graph = record graph { nodes = nodes_become rules states graph.nodes }

-- a graph does the same as that, evaluates no more operators and makes no other calls, nor does that make other calls than
-- the first
pub record IsMadeWithin {K : Type 0} (below : K → K → Type 0) (rules : Rules K)
    (graph made : GraphShape) : Type 0 where
  pub rewritten : IsRewritten below rules graph made
  pub same : GraphSame (become_graph rules rewritten.states graph) made
  pub cheaper : GraphCheaper (become_graph rules rewritten.states graph) made
  pub middle_calls : GraphCalls graph (become_graph rules rewritten.states graph)
  pub calls : GraphCalls (become_graph rules rewritten.states graph) made

-- there is no other such graph
abbrev pub IsOnlyRewritten : {K : Type 0} → (K → K → Type 0) → Rules K → GraphShape → GraphShape
    → Type 0
IsOnlyRewritten below rules graph made =
    (other : GraphShape) → IsRewritten below rules graph other → other ≡ made

-- node n assigns this right side to the variable x
pub record AssignsAt (nodes : List Node) (n x : ℕ) (rhs : Rhs) : Type 0 where
  pub next : ℕ
  pub is : slice_get nodes n ≡ Some (Assign x rhs next)

-- each node that divides and is reached stands in the result at `place` of its number, in the old order: with the same
-- variable and what its right side becomes by what is known there. Unless its divisor is known not to be 0 it divides
-- still, with the same operator, and its operands are what they become
pub record KeepsDivisions {K : Type 0} (below : K → K → Type 0) (rules : Rules K)
    (graph made : GraphShape) : Type 0 where
  pub states : ℕ → NodeState K
  pub least : HasLeastStates below rules graph states
  pub place : ℕ → ℕ
  pub variable : (n x : ℕ) (op : Op) (left right : Operand) (known : List K)
      → DividesOf graph.nodes n x op left right → states n ≡ Knows known
      → AssignsAt made.nodes (place n) x (rules.rhs known (Binary op left right))
  pub operator : (n x : ℕ) (op : Op) (left right : Operand) (known : List K)
      → DividesOf graph.nodes n x op left right → states n ≡ Knows known
      → rules.may_vanish known right ≡ true
      → DividesOf made.nodes (place n) x op (rules.operand known left) (rules.operand known right)
  pub in_order : (n m x y : ℕ) (op other : Op) → DividesAt graph.nodes n x op
      → DividesAt graph.nodes m y other
      → is_reached (states n) ≡ true → n < m → place n < place m
