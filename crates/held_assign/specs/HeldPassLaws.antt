-- Laws of passes by held assignments: a graph has one such graph, a graph can be made of its nodes, with the same edges, and
-- they do what the nodes of the graph do. For proofs only, here and above.
use Rattle.std.proofs.Common.{◌≡◌, ℕ, ◌<◌, Bool, List, length, slice_get, Option, Some, None, option_map, refl, sym, subst}
use Rattle.std.proofs.lemmas.Option.{slice_get_within}
use Rattle.mir_base.specs.declared.instructions.Rhs.{Rhs}
use Rattle.mir_base.specs.FrameLaws.{ValuesFit}
use Rattle.mir_base.specs.Frames.{Frame}
use Rattle.flow_graph.specs.declared.nodes.Node.{Node}
use Rattle.flow_graph.specs.Graphs.{CanMake, GraphShape}
use Rattle.flow_graph.specs.Machines.{graph_code, node_transition}
use Rattle.flow_graph.specs.NodeByNode.{IsNodeByNode, kept_can}
use Rattle.held_assign.specs.CheapRuns.{AsCheap}
use Rattle.held_assign.specs.HeldLaws.{found_below, found_is_one, made_is_one}
use Rattle.held_assign.specs.HeldPasses.{AreMadeByHeld, DoesAsTheOld, IsMadeByHeld, ReadsWhatHolds, StandsInPlace}
use Rattle.held_assign.specs.InPlaceLaws.{has_nodes_one}
use Rattle.held_assign.specs.HeldValues.{AgreesThere}

module _ (picked : ℕ → Rhs → Bool) (becomes : (ℕ → Option Rhs) → Node → Node) where
  -- the nodes become one list
  nodes_are_one : (graph : GraphShape) (nodes other : List Node) → AreMadeByHeld picked becomes graph nodes
      → AreMadeByHeld picked becomes graph other → nodes ≡ other
  nodes_are_one graph nodes other p q =
      made_is_one becomes graph.nodes nodes other p.held q.held p.nodes_are q.nodes_are
      (λ n lt. found_is_one picked graph n (p.held n) (q.held n) (λ v. p.is_held n v lt) (λ v. q.is_held n v lt))

  -- a graph has one such graph
  pub made_by_held_is_one : (graph a b : GraphShape) → IsMadeByHeld picked becomes graph a → IsMadeByHeld picked becomes graph b → a ≡ b
  made_by_held_is_one graph = has_nodes_one (AreMadeByHeld picked becomes graph) (nodes_are_one graph) graph

  module _ (graph : GraphShape) (nodes : List Node) (are : AreMadeByHeld picked becomes graph nodes) where
    -- each node is put anew in its place
    abbrev pub by_node : StandsInPlace becomes → IsNodeByNode graph.nodes nodes
    by_node in_place = record { becomes = λ n. becomes (are.held n); in_place = λ n. in_place (are.held n); nodes_are = are.nodes_are }

    -- a graph can be made of them
    pub made_can : StandsInPlace becomes → ReadsWhatHolds becomes → CanMake graph.vars graph.received graph.nodes → CanMake graph.vars graph.received nodes
    made_can in_place reads can = kept_can graph.nodes nodes (by_node in_place) graph.vars graph.received can (λ n node here.
        let low = found_below picked graph can n (are.held n) (λ v. are.is_held n v (slice_get_within graph.nodes n node here)) in
        reads (length graph.vars) (are.held n) low node (can.below n node here))

    -- where what holds agrees, they do what the nodes of the graph do, and count no more
    pub made_cheap : DoesAsTheOld picked becomes → (f : Frame) → AgreesThere graph f → ValuesFit f.values
        → AsCheap (graph_code graph.shared graph.received graph.nodes f) (graph_code graph.shared graph.received nodes f)
    made_cheap does f agrees fits =
        subst (λ o. AsCheap (graph_code graph.shared graph.received graph.nodes f) (node_transition graph.shared graph.received o f)) (sym (are.nodes_are f.place)) (by (slice_get graph.nodes f.place) refl)
      where
        by : (o : Option Node) → slice_get graph.nodes f.place ≡ o → AsCheap (node_transition graph.shared graph.received o f) (node_transition graph.shared graph.received (option_map (becomes (are.held f.place)) o) f)
        by None here = refl
        by (Some node) here =
            let lt : f.place < length graph.nodes = slice_get_within graph.nodes f.place node here in
            does graph f (are.held f.place) (λ v. are.is_held f.place v lt) agrees fits node
