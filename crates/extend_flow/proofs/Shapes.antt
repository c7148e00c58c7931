-- The extended graph has the shape of the graph: a graph can be made of its nodes, with the same edges, no other calls,
-- and the same divisions.
use Rattle.std.proofs.Common.{◌≡◌, ℕ, Bool, true, false, if◌then◌else◌, inl, inr, List, [], ◌∷◌, length, Option, Some, None, refl, sym, ap, ◌∙◌, subst, true≢false, pos}
use Rattle.std.proofs.lemmas.Bool.{and_parts}
use Rattle.std.proofs.lemmas.Option.{slice_get_within}
use Rattle.mir_base.specs.declared.operators.Op.{Op}
use Rattle.mir_base.specs.declared.operators.Op.TheVariants.{Shl}
use Rattle.mir_base.specs.declared.instructions.Operand.{Operand}
use Rattle.mir_base.specs.declared.instructions.Operand.TheVariants.{Var, Const}
use Rattle.mir_base.specs.declared.instructions.Rhs.{Rhs}
use Rattle.mir_base.specs.declared.instructions.Rhs.TheVariants.{Plain, Binary}
use Rattle.mir_base.specs.Expressions.{may_be_zero}
use Rattle.mir_base.specs.Numbers.{is_dividing}
use Rattle.mir_base.specs.Shapes.{AllBelow, rhs_vars}
use Rattle.flow_graph.specs.declared.nodes.Node.{Node}
use Rattle.flow_graph.specs.declared.nodes.Node.TheVariants.{Start, Skip, Assign, Print, Guard, Call, Test, Return}
use Rattle.flow_graph.specs.Dividing.{DividesUnchanged}
use Rattle.flow_graph.specs.Graphs.{CanMake, GraphShape, node_vars}
use Rattle.flow_graph.specs.NodeByNode.{IsInPlace, IsNodeByNode, in_place_assign, in_place_itself, kept_can, kept_divides}
use Rattle.held_assign.specs.HeldLaws.{found_below}
use Rattle.bounds.specs.declared.facts.Fact.{Fact}
use Rattle.bounds.specs.Edges.{fact_at}
use Rattle.extend_flow.specs.declared.shifts.Extension.{Extension}
use Rattle.extend_flow.specs.Extended.{AreExtended, extended_by, extended_node, extended_rhs, extended_where}
use Rattle.extend_flow.specs.Extensions.{extension_of, keeps_all, shifts_variable}
use Rattle.extend_flow.proofs.Undone.{Extends, ShiftsBack, extends, same_source}

-- ---- one node

-- an extension does not divide
pub extends_whole : (held : ℕ → Option Rhs) (op : Op) (a b : Operand) (e : Extension) → Extends held (Binary op a b) e → is_dividing op ≡ true → ⊥
extends_whole held op a b e is divides = by is.back
  where
    same : (other : Op) (x y : Operand) → Binary op a b ≡ Binary other x y → op ≡ other
    same other x y f = cc

    by : ShiftsBack is.op is.shift e → ⊥
    by (inl back) = true≢false (sym divides ∙ ap is_dividing (same is.op (Var is.var) (Const (pos is.shift.distance)) is.is ∙ back.0))
    by (inr back) = true≢false (sym divides ∙ ap is_dividing (same is.op (Var is.var) (Const (pos is.shift.distance)) is.is ∙ back.0))

module _ (held : ℕ → Option Rhs) (known : Option (List Fact)) where
  -- the new node stands in the place of the old one
  pub extended_in_place : (node : Node) → IsInPlace node (extended_node held known node)
  extended_in_place (Start next) = in_place_itself (Start next)
  extended_in_place (Skip next) = in_place_itself (Skip next)
  extended_in_place (Assign x rhs next) = in_place_assign x rhs (extended_rhs held known rhs) next
  extended_in_place (Print a next) = in_place_itself (Print a next)
  extended_in_place (Guard test number next) = in_place_itself (Guard test number next)
  extended_in_place (Call into unit operands next) = in_place_itself (Call into unit operands next)
  extended_in_place (Test test taken other) = in_place_itself (Test test taken other)
  extended_in_place (Return a) = in_place_itself (Return a)

  -- a division stays
  division_same : (op : Op) (a b : Operand) → is_dividing op ≡ true → extended_rhs held known (Binary op a b) ≡ Binary op a b
  division_same op a b divides = by (extension_of held (Binary op a b)) refl
    where
      by : (o : Option Extension) → extension_of held (Binary op a b) ≡ o → extended_where known (Binary op a b) o ≡ Binary op a b
      by None is = refl
      by (Some e) is = absurd (extends_whole held op a b e (extends held (Binary op a b) e is) divides)

-- ---- variables of a node

module _ (k : ℕ) (held : ℕ → Option Rhs) (known : Option (List Fact)) (low : (v : ℕ) (rhs : Rhs) → held v ≡ Some rhs → AllBelow k (rhs_vars rhs)) where
  -- the source of an extension is a variable below
  source_below : (rhs : Rhs) (e : Extension) → Extends held rhs e → AllBelow k (e.source ∷ [])
  source_below rhs e is =
      subst (λ x. AllBelow k (x ∷ [])) (sym (same_source is.op is.shift e is.back)) (low is.var (Binary Shl (Var is.shift.source) (Const (pos is.shift.distance))) is.holds)

  -- so it is in what an extension becomes
  by_below : (facts : Option (List Fact)) (rhs : Rhs) (e : Extension) → AllBelow k (e.source ∷ []) → AllBelow k (rhs_vars rhs) → AllBelow k (rhs_vars (extended_by facts rhs e))
  by_below None rhs e source below = below
  by_below (Some facts) rhs e source below = by (keeps_all e (fact_at facts e.source))
    where
      by : (b : Bool) → AllBelow k (rhs_vars (if b then Plain (Var e.source) else rhs))
      by true = source
      by false = below

  -- and in what any right side becomes
  rhs_below : (rhs : Rhs) → AllBelow k (rhs_vars rhs) → AllBelow k (rhs_vars (extended_rhs held known rhs))
  rhs_below rhs below = by (extension_of held rhs) refl
    where
      by : (o : Option Extension) → extension_of held rhs ≡ o → AllBelow k (rhs_vars (extended_where known rhs o))
      by None is = below
      by (Some e) is = by_below known rhs e (source_below rhs e (extends held rhs e is)) below

  pub node_below : (node : Node) → AllBelow k (node_vars node) → AllBelow k (node_vars (extended_node held known node))
  node_below (Start next) below = below
  node_below (Skip next) below = below
  node_below (Assign x rhs next) below = (below.0, rhs_below rhs below.1)
  node_below (Print a next) below = below
  node_below (Guard test number next) below = below
  node_below (Call into unit operands next) below = below
  node_below (Test test taken other) below = below
  node_below (Return a) below = below

-- ---- the extended nodes

module _ (graph : GraphShape) (nodes : List Node) (are : AreExtended graph nodes) where
  -- each node is put anew in its place
  abbrev pub extended_by_node : IsNodeByNode graph.nodes nodes
  extended_by_node = record {
    becomes = λ n. extended_node (are.held n) (are.nodes_are n).known;
    in_place = λ n. extended_in_place (are.held n) (are.nodes_are n).known;
    nodes_are = λ n. (are.nodes_are n).is;
  }

  -- no division is an extension
  pub extended_divides : DividesUnchanged graph.nodes nodes
  extended_divides = kept_divides graph.nodes nodes extended_by_node (λ n x op left right next may. ap (λ r. Assign x r next) (division_same (are.held n) (are.nodes_are n).known op left right (and_parts (is_dividing op) (may_be_zero right) may).0))

  pub extended_can_make : CanMake graph.vars graph.received graph.nodes → CanMake graph.vars graph.received nodes
  extended_can_make can = kept_can graph.nodes nodes extended_by_node graph.vars graph.received can (λ n node here.
      let low = found_below (λ x t. shifts_variable t) graph can n (are.held n) (λ v. are.is_held n v (slice_get_within graph.nodes n node here)) in
      node_below (length graph.vars) (are.held n) (are.nodes_are n).known low node (can.below n node here))
