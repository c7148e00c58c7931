-- The edges of a graph in the order of a flow are in order of their sources, and lead from node to node. For proofs
-- only; the crates above cite them too.
use Rattle.std.specs.Prelude.{◌≡◌, ℕ, suc, ◌<◌, Bool, true, false, List, length, map, slice_get, Option, Some, None, refl}
use Rattle.std.proofs.Common.{sym, ap, ◌∙◌, option_map}
use Rattle.std.proofs.lemmas.List.{length-map}
use Rattle.std.proofs.lemmas.Option.{slice_get-map}
use Rattle.flow_graph.specs.declared.edges.Edge.{Edge}
use Rattle.flow_graph.specs.declared.nodes.Node.{Node}
use Rattle.flow_graph.specs.BoundLaws.{slot_within}
use Rattle.flow_graph.specs.Edges.{AllEnter, by_target, edges_from}
use Rattle.flow_graph.specs.EdgeLaws.{all_by_target, by_target_from, edge_is, enters_only, enters_within, entering_few, leaves_only, leaves_within, leaving_few}
use Rattle.flow_graph.specs.FlowEdges.{AreFlowEdges, first_out, flow_edges, reversed_edge}
use Rattle.flow_graph.specs.Graphs.{AllWithin}

-- an edge that was reversed
pub reversed_from : (edges : List Edge) (e : ℕ) (edge : Edge) → slice_get (map reversed_edge edges) e ≡ Some edge
    → slice_get edges e ≡ Some (reversed_edge edge)
reversed_from edges e edge h = back (slice_get edges e) (sym (slice_get-map reversed_edge edges e) ∙ h)
  where
    back : (o : Option Edge) → option_map reversed_edge o ≡ Some edge → o ≡ Some (reversed_edge edge)
    back None h = cc
    back (Some x) h = let same : reversed_edge x ≡ edge = cc in ap (λ (y : Edge). Some (reversed_edge y)) same

module _ (nodes : List Node) (within : AllWithin nodes) where
  ends_in : (e : ℕ) (edge : Edge) → slice_get (edges_from 0 nodes) e ≡ Some edge → (edge.source < length nodes) × (edge.target < length nodes)
  ends_in e edge h = let leads = edge_is nodes e edge h in (slot_within nodes edge.source leads.0 edge.target leads.1, within edge.source leads.0 edge.target leads.1)

  pub all_enter : AllEnter (length nodes) (edges_from 0 nodes)
  all_enter = record { below = λ e edge h. (ends_in e edge h).1 }

  pub flow_edges_are : (against : Bool) → AreFlowEdges (length nodes) (flow_edges against nodes) (first_out against nodes)
  flow_edges_are true =
      let all = edges_from 0 nodes in
      let reversed = reversed_from (by_target (length nodes) all) in
      record {
        ends = λ e edge h. let k = by_target_from (length nodes) all e (reversed_edge edge) (reversed e edge h) in let both = ends_in k.0 (reversed_edge edge) k.1 in (both.1, both.0);
        starts = λ n. rw (length-map (by_target (length nodes) all) reversed_edge, all_by_target (length nodes) all all_enter) (entering_few n all);
        stops = λ n. rw (length-map (by_target (length nodes) all) reversed_edge, all_by_target (length nodes) all all_enter) (entering_few (suc n) all);
        only = λ e n edge h low high. enters_only (length nodes) all e n (reversed_edge edge) (reversed e edge h) low high;
        stands = λ e edge h. enters_within (length nodes) all e (reversed_edge edge) (reversed e edge h);
      }
  flow_edges_are false =
      let all = edges_from 0 nodes in
      record {
        ends = ends_in;
        starts = λ n. leaving_few n all;
        stops = λ n. leaving_few (suc n) all;
        only = λ e n edge h low high. leaves_only nodes e n edge h low high;
        stands = λ e edge h. leaves_within nodes e edge h;
      }

-- along the edges or against them, they are as many
pub length_flow_edges : (against : Bool) (nodes : List Node) → AllWithin nodes → length (flow_edges against nodes) ≡ length (edges_from 0 nodes)
length_flow_edges true nodes within = length-map (by_target (length nodes) (edges_from 0 nodes)) reversed_edge ∙ all_by_target (length nodes) (edges_from 0 nodes) (all_enter nodes within)
length_flow_edges false nodes within = refl
