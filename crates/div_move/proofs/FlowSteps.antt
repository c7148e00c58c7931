-- The edge that has a number by target is the flow's edge of this number, turned round. What a push along it leaves is
-- the least upper bound of what was there and what came.
use Rattle.std.proofs.Common.{◌≡◌, ℕ, ◌<◌, true, List, length, slice_get, Some, Bool, option_map, sym, ap, ◌∙◌, subst}
use Rattle.std.proofs.lemmas.Option.{slice_get-map, get_or_from_slice_get}
use Rattle.flow_graph.specs.declared.edges.Edge.{Edge}
use Rattle.flow_graph.specs.declared.nodes.Node.{Node}
use Rattle.flow_graph.specs.Edges.{EdgesShape, by_target, edges_from, edges_of}
use Rattle.flow_graph.specs.FlowEdges.{edge_at, flow_edges, reversed_edge}
use Rattle.fix_solve.specs.Order.{IsLeastUpper}
use Rattle.div_move.specs.declared.flow.SlotFlow.{SlotFlow}
use Rattle.div_move.specs.SlotFlow.{IsSlotFlow, arriving_at, down_row, slot_net}
use Rattle.div_move.specs.SlotFlowLaws.{flow_ends, slot_flow_laws}
use Rattle.div_move.specs.SlotLaws.{or_pairs_join}
use Rattle.div_move.specs.Slots.{BelowSlots, or_pairs}

-- ---- one push

-- the edge of this number by target is that of the flow, the other way round
pub entering_is : (nodes : List Node) (edges : EdgesShape) → edges ≡ edges_of nodes → (number : ℕ) (edge : Edge) → slice_get (by_target edges.nodes edges.edges) number ≡ Some edge → edge_at (flow_edges true nodes) number ≡ reversed_edge edge
entering_is nodes edges is number edge at =
    let there : slice_get (by_target (length nodes) (edges_from 0 nodes)) number ≡ Some edge = subst (λ (x : EdgesShape). slice_get (by_target x.nodes x.edges) number ≡ Some edge) is at in
    get_or_from_slice_get (flow_edges true nodes) number (reversed_edge edge) (record { source = 0; target = 0 }) (slice_get-map reversed_edge (by_target (length nodes) (edges_from 0 nodes)) number ∙ ap (option_map reversed_edge) there)

module _ {L : Type 0} (f : SlotFlow L) (is : IsSlotFlow f) (number : ℕ) (edge : Edge) (within : number < length (flow_edges true f.graph.now.nodes)) (at : slice_get (by_target f.edges.now.nodes f.edges.now.edges) number ≡ Some edge) where
  same : edge_at (flow_edges true f.graph.now.nodes) number ≡ reversed_edge edge
  same = entering_is f.graph.now.nodes f.edges.now is.edges_are number edge at

  -- its ends are nodes
  pub pushed_ends : (edge.source < length f.graph.now.nodes) × (edge.target < length f.graph.now.nodes)
  pushed_ends =
      let ends = flow_ends f is number within in
      (subst (λ (x : Edge). x.target < length f.graph.now.nodes) same ends.1, subst (λ (x : Edge). x.source < length f.graph.now.nodes) same ends.0)

  -- what arrives along it is the transfer, and the least upper bound is what is known then
  pub pushed_join : (into from new : List (Bool × Bool)) → length into ≡ f.bits → length from ≡ f.bits → new ≡ or_pairs into (arriving_at f edge.source edge.target (down_row f edge.target from)) → IsLeastUpper BelowSlots into ((slot_net f).transfer number from) new
  pushed_join into from new long size is_new =
      let moved : arriving_at f edge.source edge.target (down_row f edge.target from) ≡ (slot_net f).transfer number from = ap (λ (x : Edge). arriving_at f x.target x.source (down_row f x.source from)) (sym same) in
      subst (IsLeastUpper BelowSlots into ((slot_net f).transfer number from)) (sym (is_new ∙ ap (or_pairs into) moved))
      (or_pairs_join into ((slot_net f).transfer number from) (long ∙ sym ((slot_flow_laws f is).transfer_size number from within size)))
