-- Law: a graph has one graph without the divisions that nothing reads. For proofs only, of pass_chain too.
use Rattle.std.proofs.Common.{◌≡◌, List, sym, ap, ◌∙◌}
use Rattle.flow_graph.specs.declared.nodes.Node.{Node}
use Rattle.flow_graph.specs.Graphs.{GraphShape}
use Rattle.path_laws.specs.Says.{same_says}
use Rattle.dead_code.specs.PrunedLaws.{pruned_alike}
use Rattle.unread_div.specs.Unread.{IsUnread}

-- which nodes go is determined
pub unread_is_one : (graph a b : GraphShape) → IsUnread graph a → IsUnread graph b → a ≡ b
unread_is_one graph a b p q =
    let alike = pruned_alike p.gone q.gone graph.nodes
    (λ n lt. same_says (p.gone n) (q.gone n)
    (λ h. (q.gone_are n lt).1 ((p.gone_are n lt).0 h), λ h. (p.gone_are n lt).1 ((q.gone_are n lt).0 h))) in
    p.is ∙ ap (λ (l : List Node). record graph { nodes = l }) alike ∙ sym q.is
