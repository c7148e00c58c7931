-- The edges of a flow, along the edges of a graph or against them, are the steps by which bits come. For proofs only; the
-- crates above cite them too.
use Rattle.std.specs.Prelude.{◌≡◌, ℕ, ◌+◌, ◌<◌, Bool, true, false, List, length, slice_get, Some}
use Rattle.std.proofs.Common.{ap, ◌∙◌, option_map}
use Rattle.std.proofs.lemmas.Option.{slice_get_within, slice_get-get_or, slice_get-map, get_or_from_slice_get}
use Rattle.flow_graph.specs.declared.edges.Edge.{Edge}
use Rattle.flow_graph.specs.declared.nodes.Node.{Node}
use Rattle.flow_graph.specs.EdgeLaws.{by_target_from, by_target_has, edge_is, edge_number}
use Rattle.flow_graph.specs.Edges.{by_target, edges_from, first_leaving}
use Rattle.flow_graph.specs.FlowEdgeLaws.{reversed_from}
use Rattle.flow_graph.specs.FlowEdges.{edge_at, flow_edges, reversed_edge}
use Rattle.flow_graph.specs.Graphs.{AllWithin}
use Rattle.path_laws.specs.Leads.{steps_of}

-- an edge of the flow is a step back to its source
pub flow_step : (against : Bool) (nodes : List Node) (e : ℕ) → e < length (flow_edges against nodes)
    → steps_of against nodes (edge_at (flow_edges against nodes) e).target (edge_at (flow_edges against nodes) e).source
flow_step true nodes e h =
    let edge = edge_at (flow_edges true nodes) e in
    let back = reversed_from (by_target (length nodes) (edges_from 0 nodes)) e edge (slice_get-get_or (flow_edges true nodes) e _ h) in
    let k = by_target_from (length nodes) (edges_from 0 nodes) e (reversed_edge edge) back in
    edge_is nodes k.0 (reversed_edge edge) k.1
flow_step false nodes e h = edge_is nodes e (edge_at (edges_from 0 nodes) e) (slice_get-get_or (edges_from 0 nodes) e _ h)

-- and each step back is one of these edges
pub step_edge : (against : Bool) (nodes : List Node) → AllWithin nodes → (m n : ℕ) → steps_of against nodes m n
    → (e : ℕ) × (e < length (flow_edges against nodes)) × ((edge_at (flow_edges against nodes) e).source ≡ n) × ((edge_at (flow_edges against nodes) e).target ≡ m)
step_edge true nodes within m n step =
    let edge : Edge = record { source = m; target = n } in
    let k = first_leaving m (edges_from 0 nodes) + step.0 in
    let place = by_target_has (length nodes) (edges_from 0 nodes) k edge (edge_number nodes m step.0 n step.1) (within m step.0 n step.1) in
    let there : slice_get (flow_edges true nodes) place.0 ≡ Some (reversed_edge edge) = slice_get-map reversed_edge (by_target (length nodes) (edges_from 0 nodes)) place.0 ∙ ap (option_map reversed_edge) place.1 in
    let is = get_or_from_slice_get (flow_edges true nodes) place.0 (reversed_edge edge) (record { source = 0; target = 0 }) there in
    (place.0, slice_get_within (flow_edges true nodes) place.0 (reversed_edge edge) there, ap (λ (x : Edge). x.source) is, ap (λ (x : Edge). x.target) is)
step_edge false nodes within m n step =
    let edge : Edge = record { source = n; target = m } in
    let k = first_leaving n (edges_from 0 nodes) + step.0 in
    let there = edge_number nodes n step.0 m step.1 in
    let is = get_or_from_slice_get (edges_from 0 nodes) k edge (record { source = 0; target = 0 }) there in
    (k, slice_get_within (edges_from 0 nodes) k edge there, ap (λ (x : Edge). x.source) is, ap (λ (x : Edge). x.target) is)
