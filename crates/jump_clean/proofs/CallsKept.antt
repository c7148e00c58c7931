-- Clean jumps make no other calls.
use Rattle.std.proofs.Common.{◌≡◌, ℕ, List, slice_get, slice_index_or, Option, Some, None, inl, inr, sym, ap, ◌∙◌, subst}
use Rattle.flow_graph.specs.declared.nodes.Node.{Node}
use Rattle.flow_graph.specs.declared.nodes.Node.TheVariants.{Skip}
use Rattle.flow_graph.specs.Calls.{NodesCall, node_call}
use Rattle.flow_graph.specs.CallLaws.{redirected_calls}
use Rattle.jump_clean.specs.Cleaned.{AreCleaned}
use Rattle.jump_clean.specs.ReductionLaws.{Becomes, BecomesAt, all_become}

-- a Test that becomes a Skip is no Call, so the result calls nothing new
become_calls : (before after : List Node) (called count : ℕ) → Becomes before after → NodesCall after called count → NodesCall before called count
become_calls before after called count p c = by_case (p.at_node c.number)
  where
    by_case : BecomesAt (slice_get before c.number) (slice_get after c.number) → NodesCall before called count
    by_case (inl e) = record { number = c.number; node = c.node; here = e ∙ c.here; calls = c.calls }
    by_case (inr r) =
        let both : Some (Skip r.1) ≡ Some c.node = sym r.4 ∙ c.here in
        let skip : Skip r.1 ≡ c.node = cc in
        let none : ◌≡◌ {A = Option (ℕ × ℕ)} None (Some (called, count)) = ap node_call skip ∙ c.calls in
        absurd (cc)

-- the cleaned nodes make no calls but those of the old ones
pub cleaned_calls : (nodes cleaned : List Node) (called count : ℕ) → AreCleaned nodes cleaned → NodesCall cleaned called count → NodesCall nodes called count
cleaned_calls nodes cleaned called count are c =
    become_calls nodes are.reduced called count (all_become nodes are.are_reduced.order are.reduced are.are_reduced.reductions)
    (redirected_calls (λ n. slice_index_or are.ends n 0) are.reduced called count (subst (λ ns. NodesCall ns called count) are.are c))
