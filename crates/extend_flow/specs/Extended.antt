-- The graph in which extensions that change nothing are copies. Cited by contracts.
use Rattle.std.specs.Prelude.{◌≡◌, ℕ, ◌<◌, if◌then◌else◌, List, length, slice_get, Option, Some, None, option_map}
use Rattle.mir_base.specs.declared.instructions.Operand.TheVariants.{Var}
use Rattle.mir_base.specs.declared.instructions.Rhs.{Rhs}
use Rattle.mir_base.specs.declared.instructions.Rhs.TheVariants.{Plain}
use Rattle.flow_graph.specs.declared.nodes.Node.{Node}
use Rattle.flow_graph.specs.declared.nodes.Node.TheVariants.{Start, Skip, Assign, Print, Guard, Call, Test, Return}
use Rattle.flow_graph.specs.Graphs.{GraphShape}
use Rattle.held_assign.specs.Holding.{IsHeldRhs}
use Rattle.held_assign.specs.InPlace.{HasNodes}
use Rattle.bounds.specs.declared.facts.Fact.{Fact}
use Rattle.bounds.specs.BoundRules.{bound_rules}
use Rattle.bounds.specs.Edges.{fact_at}
use Rattle.bounds.specs.Facts.{BelowFact}
use Rattle.cond_flow.specs.KnownBefore.{IsKnownBefore}
use Rattle.extend_flow.specs.declared.shifts.Extension.{Extension}
use Rattle.extend_flow.specs.Extensions.{extension_of, shifts_variable, keeps_all}

-- ---- what a node becomes, where `held` tells for each variable the shift to the left that it holds

-- by what is known of each variable before the node: a copy of the source where the extension keeps all that it may be.
-- Where no run comes to the node, the right side stays
abbrev pub extended_by : Option (List Fact) → Rhs → Extension → Rhs
extended_by None rhs e = rhs
extended_by (Some facts) rhs e =
    if keeps_all e (fact_at facts e.source) then Plain (Var e.source) else rhs

-- the same of an extension, if the right side is one
abbrev pub extended_where : Option (List Fact) → Rhs → Option Extension → Rhs
extended_where known rhs None = rhs
extended_where known rhs (Some e) = extended_by known rhs e

-- what a right side becomes
abbrev pub extended_rhs : (ℕ → Option Rhs) → Option (List Fact) → Rhs → Rhs
extended_rhs held known rhs = extended_where known rhs (extension_of held rhs)

-- what a node becomes: an assignment has such a right side
abbrev pub extended_node : (ℕ → Option Rhs) → Option (List Fact) → Node → Node
extended_node held known (Start next) = Start next
extended_node held known (Skip next) = Skip next
extended_node held known (Assign x rhs next) = Assign x (extended_rhs held known rhs) next
extended_node held known (Print a next) = Print a next
extended_node held known (Guard test number next) = Guard test number next
extended_node held known (Call into unit operands next) = Call into unit operands next
extended_node held known (Test test taken other) = Test test taken other
extended_node held known (Return a) = Return a

-- ---- the graph

-- the shift to the left that a variable holds before node n, or none
abbrev pub IsHeldShift : GraphShape → ℕ → ℕ → Option Rhs → Type 0
IsHeldShift graph n v rhs = IsHeldRhs (λ x t. shifts_variable t) graph n v rhs

-- this is what node n becomes, and none where there is no node: where it assigns an extension, by the least bounds of
-- the variables before it
pub record IsExtendedAt (graph : GraphShape) (held : ℕ → Option Rhs) (n : ℕ)
    (made : Option Node) : Type 0 where
  pub known : Option (List Fact)
  pub is_known : (x : ℕ) (rhs : Rhs) (next : ℕ) (e : Extension)
      → slice_get graph.nodes n ≡ Some (Assign x rhs next) → extension_of held rhs ≡ Some e
      → IsKnownBefore BelowFact bound_rules graph n known
  pub is : made ≡ option_map (extended_node held known) (slice_get graph.nodes n)

-- each node with the shifts that hold before it, all decided on the nodes as they were
pub record AreExtended (graph : GraphShape) (nodes : List Node) : Type 0 where
  pub held : ℕ → ℕ → Option Rhs
  pub is_held : (n v : ℕ) → n < length graph.nodes → IsHeldShift graph n v (held n v)
  pub nodes_are : (n : ℕ) → IsExtendedAt graph (held n) n (slice_get nodes n)

-- the graph with these nodes in the place of the old ones
abbrev pub IsExtended : GraphShape → GraphShape → Type 0
IsExtended graph extended = HasNodes (AreExtended graph) graph extended

-- no other graph is the extended one
abbrev pub IsOnlyExtended : GraphShape → GraphShape → Type 0
IsOnlyExtended graph extended = (other : GraphShape) → IsExtended graph other → other ≡ extended
