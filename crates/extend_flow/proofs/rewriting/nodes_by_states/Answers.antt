use Rattle.std.proofs.Common.{◌≡◌, ◌∙◌, ℕ, length, slice_get, Option, Some, None, option_map, ap, sym, arith}
use Rattle.std.proofs.lemmas.Option.{slice_get_past}
use Rattle.mir_base.specs.declared.instructions.Rhs.{Rhs}
use Rattle.flow_graph.specs.declared.nodes.Node.{Node}
use Rattle.flow_graph.specs.Graphs.{GraphShape}
use Rattle.held_assign.specs.Making.{made_all, made_more}
use Rattle.held_assign.specs.Rows.{held_at}
use Rattle.extend_flow.specs.Extended.{IsExtendedAt, extended_node}
use Rattle.extend_flow.proofs.rewriting.nodes_by_states.Goals as goal

-- past the nodes there are none
none_past : (graph : GraphShape) (held : ℕ → Option Rhs) (n : ℕ) → slice_get graph.nodes n ≡ None → IsExtendedAt graph held n None
none_past graph held n past = record {
  known = None;
  is_known = λ x rhs next e there extends. absurd (apart (sym past ∙ there));
  is = sym (ap (option_map (extended_node held None)) past);
}
  where
    apart : {node : Node} → None ≡ Some node → ⊥
    apart e = cc

pub loop-n-preserved : goal.loop-n-preserved
loop-n-preserved c =
    let held = c.args.held.now in
    made_more (λ m. IsExtendedAt c.args.graph.now (held_at held m) m) c.loop-n.n c.in_ok-node.node c.loop-n.nodes.items c.push.new.self.items c.in_ok-node.ensures c.in_ok-push.ensures.items c.loop-n.invariant

pub returns : goal.returns
returns c =
    let graph = c.args.graph.now in
    let held = c.args.held.now in
    let end : length c.nodes-old.result.now ≡ c.loop-n.n = omega (arith, c.loop-n-test.false, c.loop-n.auto.n-end) in
    let long : length graph.nodes ≡ c.loop-n.n = ap length (sym c.nodes-old.ensures.value) ∙ end in
    made_all (λ m. IsExtendedAt graph (held_at held m) m) c.loop-n.n c.loop-n.nodes.items (λ m ge. none_past graph (held_at held m) m (slice_get_past graph.nodes m (omega (arith, ge, long)))) c.loop-n.invariant
