-- Where edges meet in a split graph: into each node lead edges from one node alone, or from Skips alone. For proofs
-- only, here and above.
use Rattle.std.proofs.Common.{◌≡◌, ◌<◌, ◌⊎◌, ℕ, zero, suc, List, [], ◌∷◌, length, slice_get, Option, Some, inl, inr, sym, ap, ◌∙◌, arith}
use Rattle.std.proofs.Math.Decide.{dec_lt}
use Rattle.std.proofs.lemmas.Option.{none-some}
use Rattle.flow_graph.specs.declared.nodes.Node.{Node}
use Rattle.flow_graph.specs.declared.nodes.Node.TheVariants.{Skip}
use Rattle.flow_graph.specs.EdgeLaws.{pred_has}
use Rattle.flow_graph.specs.Edges.{IsSplit, preds_of}
use Rattle.flow_graph.specs.Graphs.{AllWithin, succs_of}
use Rattle.flow_graph.specs.Paths.{HasEdge}

-- a list with at most one item has the same at two places
only_item : (xs : List ℕ) (i j m k : ℕ) → (1 < length xs → ⊥) → slice_get xs i ≡ Some m
    → slice_get xs j ≡ Some k → m ≡ k
only_item [] i j m k few here there = absurd (none-some _ here)
only_item (x ∷ []) zero zero m k few here there = cc
only_item (x ∷ []) zero (suc j) m k few here there = absurd (none-some _ there)
only_item (x ∷ []) (suc i) j m k few here there = absurd (none-some _ here)
only_item (x ∷ y ∷ xs) i j m k few here there = absurd (few (omega arith))

-- into each node lead edges from one node alone, or from Skips alone
pub one_or_skips : (nodes : List Node) → AllWithin nodes → IsSplit nodes → (n : ℕ)
    → ((m k : ℕ) → HasEdge nodes m n → HasEdge nodes k n → m ≡ k) ⊎ ((m : ℕ) → HasEdge nodes m n → slice_get nodes m ≡ Some (Skip n))
one_or_skips nodes within split n = elim (dec_lt 1 (length (preds_of nodes n))) [
  | yes many ↦ inr (λ m edge. let i = pred_has nodes m n edge in split.by_skips n i.0 m (within m edge.0 n edge.1) many i.1)
  | no few ↦ inl (λ m k from_m from_k. let i = pred_has nodes m n from_m in let j = pred_has nodes k n from_k in only_item (preds_of nodes n) i.0 j.0 m k few i.1 j.1)
]

-- so two nodes that lead to one node are one, or the first is a Skip to it
pub joins : (nodes : List Node) → AllWithin nodes → IsSplit nodes → (m k n : ℕ) → HasEdge nodes m n
    → HasEdge nodes k n → (m ≡ k) ⊎ (slice_get nodes m ≡ Some (Skip n))
joins nodes within split m k n from_m from_k = elim (one_or_skips nodes within split n) [ inl one ↦ inl (one m k from_m from_k) | inr skips ↦ inr (skips m from_m) ]

-- a Skip leads to one node
pub skip_leads : (nodes : List Node) (m n s : ℕ) → slice_get nodes m ≡ Some (Skip n) → HasEdge nodes m s → n ≡ s
skip_leads nodes m n s here edge = only edge.0 (sym (ap (λ (o : Option Node). slice_get (succs_of o) edge.0) here) ∙ edge.1)
  where
    only : (slot : ℕ) → slice_get (n ∷ []) slot ≡ Some s → n ≡ s
    only zero e = cc
    only (suc slot) e = absurd (none-some _ e)
