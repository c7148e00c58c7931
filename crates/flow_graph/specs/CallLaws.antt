-- Law: other numbers for the successors change no call. For proofs only; jump_clean cites it.
use Rattle.std.proofs.Common.{ℕ, List, map, slice_get, sym, ap, ◌∙◌}
use Rattle.std.proofs.lemmas.Option.{slice_get-map}
use Rattle.flow_graph.specs.declared.nodes.Node.{Node}
pub use Rattle.flow_graph.specs.NodeLaws.{mapped_from}
use Rattle.flow_graph.specs.NodeLaws.{redirected_call}
use Rattle.flow_graph.specs.Retained.{redirected}
use Rattle.flow_graph.specs.Calls.{NodesCall, node_call}

-- redirected nodes make no calls but those of the nodes
pub redirected_calls : (to : ℕ → ℕ) (nodes : List Node) (called count : ℕ) → NodesCall (map (redirected to) nodes) called count → NodesCall nodes called count
redirected_calls to nodes called count c =
    let from = mapped_from (redirected to) (slice_get nodes c.number) c.node (sym (slice_get-map (redirected to) nodes c.number) ∙ c.here) in
    record { number = c.number; node = from.0; here = from.1; calls = sym (redirected_call to from.0) ∙ ap node_call from.2 ∙ c.calls }
