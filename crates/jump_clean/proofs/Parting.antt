-- A graph taken apart: a graph of two nodes has all else of it, and what is made of nodes in this frame is made of the
-- parts of the graph.
use Rattle.std.proofs.Common.{◌≡◌, ℕ, zero, suc, ◌<◌, List, [], ◌∷◌, length, slice_get, Some, refl, sym, ◌∙◌, subst, arith}
use Rattle.mir_base.specs.declared.instructions.Operand.{Operand}
use Rattle.mir_base.specs.Shapes.{AllBelow, operand_vars}
use Rattle.flow_graph.specs.declared.nodes.Node.{Node}
use Rattle.flow_graph.specs.declared.nodes.Node.TheVariants.{Start, Return}
use Rattle.std.proofs.lemmas.Option.{none-some, same_Some}
use Rattle.flow_graph.specs.Graphs.{CanMake, GraphShape, IsEdge, IsGraph, Reached, at_start, along, node_vars}
use Rattle.flow_graph.specs.Retained.{IsMade}
use Rattle.jump_clean.specs.Parting.{IsFrameOf}

-- Start, and a Return that it leads to
abbrev pub two_nodes : Operand → List Node
two_nodes a = Start 1 ∷ Return a ∷ []

-- both are reached
two_reached : (a : Operand) (n : ℕ) → n < 2 → Reached (two_nodes a) n
two_reached a zero lt = at_start
two_reached a (suc zero) lt = along 0 0 1 at_start refl
two_reached a (suc (suc n)) lt = absurd (omega (arith, lt))

-- the only edge leads from the first to the second
two_edges : (a : Operand) (m slot s : ℕ) → IsEdge (two_nodes a) m slot s → s ≡ 1
two_edges a zero zero s edge = sym (same_Some 1 s edge)
two_edges a zero (suc slot) s edge = absurd (none-some s edge)
two_edges a (suc zero) slot s edge = absurd (none-some s edge)
two_edges a (suc (suc m)) slot s edge = absurd (none-some s edge)

-- and the first is the only Start
two_start : (a : Operand) (n s : ℕ) → slice_get (two_nodes a) n ≡ Some (Start s) → n ≡ 0
two_start a zero s e = refl
two_start a (suc zero) s e = cc
two_start a (suc (suc n)) s e = cc

-- with what fits a graph they are a graph
pub two_graph : (vars : List (List ℕ)) (received : List ℕ) (nodes : List Node) (a : Operand) → AllBelow (length vars) (operand_vars a) → IsGraph vars received nodes → IsGraph vars received (two_nodes a)
two_graph vars received nodes a fits is = record {
  can = record {
    start = (1, refl);
    only = two_start a;
    succs = λ m slot s edge. (let one = two_edges a m slot s edge in (omega (arith, one), omega (arith, one)));
    below = two_below;
    received_below = is.can.received_below;
    received_differ = is.can.received_differ;
    names = is.can.names;
  };
  reached = two_reached a;
}
  where
    two_below : (n : ℕ) (node : Node) → slice_get (two_nodes a) n ≡ Some node → AllBelow (length vars) (node_vars node)
    two_below zero node e = subst (λ n. AllBelow (length vars) (node_vars n)) (same_Some (Start 1) node e) tt
    two_below (suc zero) node e = subst (λ n. AllBelow (length vars) (node_vars n)) (same_Some (Return a) node e) fits
    two_below (suc (suc n)) node e = absurd (none-some node e)

-- what is made in the frame of a graph is made of its own parts
pub made_in : (graph frame : GraphShape) → IsFrameOf graph frame → (nodes : List Node) (made : GraphShape) → IsMade frame.name frame.shared frame.vars frame.received nodes made → IsMade graph.name graph.shared graph.vars graph.received nodes made
made_in graph frame f nodes made is = record {
  name_is = is.name_is ∙ f.name;
  shared_is = is.shared_is ∙ f.shared;
  vars_are = is.vars_are ∙ f.vars;
  received_are = is.received_are ∙ f.received;
  nodes_are = is.nodes_are;
}

-- what holds by the globals and the received variables of the frame holds by those of the graph
pub by_frame : (graph frame : GraphShape) → IsFrameOf graph frame → (P : ℕ → List ℕ → Type 0) → P frame.shared frame.received → P graph.shared graph.received
by_frame graph frame f P holds = subst (λ (k : ℕ). P k graph.received) f.shared (subst (λ (l : List ℕ). P frame.shared l) f.received holds)

-- nodes of which the graph can be made can stand in its frame
pub can_stand : (graph frame : GraphShape) → IsFrameOf graph frame → (nodes : List Node) → CanMake graph.vars graph.received nodes → CanMake frame.vars frame.received nodes
can_stand graph frame f nodes can = subst (λ (l : List (List ℕ)). CanMake l frame.received nodes) (sym f.vars) (subst (λ (l : List ℕ). CanMake graph.vars l nodes) (sym f.received) can)
