-- That the rule of anticipatable expressions keeps the laws of a down rule. Cited by the rule.
use Rattle.std.proofs.Common.{◌≡◌, ℕ, zero, suc, ◌<◌, true, false, List, [], ◌∷◌, length, slice_get, Some, inl, inr, refl, sym, ap, ◌∙◌, subst, arith, true≢false}
use Rattle.std.proofs.lemmas.Bool.{cases_Bool}
use Rattle.mir_base.specs.declared.instructions.Expr.{Expr}
use Rattle.flow_graph.specs.declared.nodes.Node.{Node}
use Rattle.flow_graph.specs.declared.nodes.Node.TheVariants.{Start, Skip, Assign, Print, Guard, Call, Test, Return}
use Rattle.flow_graph.specs.BoundLaws.{edge_within}
use Rattle.flow_graph.specs.Graphs.{GraphShape, succs_at, succs_of}
use Rattle.flow_graph.specs.Paths.{HasEdge, IsReturnAt, is_return}
use Rattle.path_laws.specs.Paths.{EndsWell}
use Rattle.motion_rewrite.specs.Expressions.{kills, uses}
use Rattle.motion_rewrite.specs.ExpressionLaws.{skip_keeps}
use Rattle.motion_rewrite.specs.Placements.{DownLaws, IsAnticipatable}
use Rattle.mir_base.specs.ItemLaws.{one_item}

-- a node with no successor is a Return
returns : (nodes : List Node) (n : ℕ) → n < length nodes → succs_at nodes n ≡ [] → IsReturnAt nodes n
returns [] n lt none = absurd (omega (arith, lt))
returns (Start next ∷ nodes) zero lt none = cc
returns (Skip next ∷ nodes) zero lt none = cc
returns (Assign x rhs next ∷ nodes) zero lt none = cc
returns (Print a next ∷ nodes) zero lt none = cc
returns (Guard test number next ∷ nodes) zero lt none = cc
returns (Call into unit operands next ∷ nodes) zero lt none = cc
returns (Test test taken other ∷ nodes) zero lt none = cc
returns (Return a ∷ nodes) zero lt none = refl
returns (node ∷ nodes) (suc n) lt none = returns nodes n (omega (arith, lt)) none

module _ (graph : GraphShape) (e : Expr) where
  -- a node that does not use has no path to itself alone that ends well
  not_alone : (n : ℕ) → n < length graph.nodes → IsAnticipatable graph e n → uses graph e n ≡ false
      → EndsWell graph.nodes (kills graph e) (n ∷ []) → ⊥
  not_alone n lt down unused ends = elim (down (n ∷ []) lt refl ends) [ inl used ↦ true≢false (sym used ∙ unused) | inr none ↦ none ]

  -- so it does not kill
  keeps : (n : ℕ) → n < length graph.nodes → IsAnticipatable graph e n → uses graph e n ≡ false
      → kills graph e n ≡ false
  keeps n lt down unused =
      elim (cases_Bool (kills graph e n)) [
        | inl kill ↦ absurd (not_alone n lt down unused (inl kill))
        | inr keep ↦ keep
      ]

  -- and its successors are down: a path from one of them is the remainder of a path from the node
  onward : (n s : ℕ) → IsAnticipatable graph e n → uses graph e n ≡ false → HasEdge graph.nodes n s
      → IsAnticipatable graph e s
  onward n s down unused edge [] is begins ends = absurd is
  onward n s down unused edge (k ∷ path) is begins ends =
      let to_k : HasEdge graph.nodes n k = subst (HasEdge graph.nodes n) (sym begins) edge in
      let keep = keeps n (edge_within graph.nodes n s edge) down unused in
      elim (down (n ∷ k ∷ path) (to_k, is) refl (keep, ends)) [ inl used ↦ absurd (true≢false (sym used ∙ unused)) | inr met ↦ met ]

  -- a Skip before a node that is down is down
  skips : (n s : ℕ) → slice_get graph.nodes n ≡ Some (Skip s) → IsAnticipatable graph e s → IsAnticipatable graph e n
  skips n s here down [] is begins ends = absurd is
  skips n s here down (m ∷ []) is begins (inl kill) = absurd (true≢false (sym kill ∙ skip_keeps graph e m s (ap (slice_get graph.nodes) begins ∙ here)))
  skips n s here down (m ∷ []) is begins (inr return) = absurd (true≢false (sym return ∙ ap is_return (ap (slice_get graph.nodes) begins ∙ here)))
  skips n s here down (m ∷ k ∷ path) is begins ends =
      let to_k = is.0 in
      let next : k ≡ s = sym (one_item s k to_k.0 (sym (ap (λ o. slice_get (succs_of o) to_k.0) (ap (slice_get graph.nodes) begins ∙ here)) ∙ to_k.1)) in
      inr (down (k ∷ path) is.1 next ends.1)

  -- a node that uses is down, since each path from it begins with the use
  first_use : (n : ℕ) → uses graph e n ≡ true → IsAnticipatable graph e n
  first_use n used [] is begins ends = absurd is
  first_use n used (m ∷ path) is begins ends = inl (ap (uses graph e) begins ∙ used)

  -- the laws
  pub every_path_laws : DownLaws graph e (IsAnticipatable graph e)
  every_path_laws = record {
    used = λ n lt. first_use n;
    keeps = keeps;
    continues = λ n lt down unused none. not_alone n lt down unused (inr (returns graph.nodes n lt none));
    onward = onward;
    skips = skips;
  }
