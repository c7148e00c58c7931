-- Cleaning keeps each dividing assignment: only Skips, and Tests that have become Skips, are no longer reached. For
-- proofs only.
use Rattle.std.proofs.Common.{◌≡◌, ℕ, zero, suc, ◌<◌, List, [], ◌∷◌, length, slice_get, slice_index_or, Option, Some, None, option_map, ◌⊎◌, inl, inr, refl, sym, ap, ◌∙◌, subst, arith}
use Rattle.flow_graph.specs.NodeLaws.{redirected_succs_of}
use Rattle.flow_graph.specs.BoundLaws.{slot_within}
use Rattle.std.proofs.lemmas.Bool.{cases_eq}
use Rattle.std.proofs.lemmas.Option.{slice_get-map, slice_get_within}
use Rattle.mir_base.specs.declared.instructions.Test as tests
use Rattle.mir_base.specs.declared.instructions.Rhs.{Rhs}
use Rattle.mir_base.specs.declared.instructions.Rhs.TheVariants.{Binary}
use Rattle.mir_base.specs.declared.operators.Op.{Op}
use Rattle.flow_graph.specs.declared.nodes.Node.{Node}
use Rattle.flow_graph.specs.declared.nodes.Node.TheVariants.{Start, Skip, Assign, Print, Guard, Call, Test, Return}
use Rattle.flow_graph.specs.Dividing.{DividesAt, DividesUnchanged}
use Rattle.flow_graph.specs.DividingLaws.{retained_unchanged, unchanged_in_place, unchanged_trans}
use Rattle.flow_graph.specs.Graphs.{AllWithin, GraphShape, IsGraph, Reached, along, at_start, succs_of}
use Rattle.flow_graph.specs.Retained.{redirected}
use Rattle.jump_clean.specs.Chains.{IsEnd, SkipsTo}
use Rattle.jump_clean.specs.ChainLaws.{end_is_one, end_later, ends_at_other, skip_or_other, to_itself, to_next}
use Rattle.jump_clean.specs.Cleaned.{AreCleaned, IsClean}
use Rattle.jump_clean.specs.ReductionLaws.{Becomes, BecomesAt, all_become, all_long, leads_still, one_becomes, reduced_elsewhere}
use Rattle.jump_clean.specs.Reductions.{AreReductions}
use Rattle.jump_clean.specs.Joining.{ChainsMeet}

-- a Test that was reduced to a Skip had successors whose chains come together, and they still do in the result
reduced_meet : (nodes : List Node) (order : List ℕ) (reduced : List Node) → AreReductions nodes order reduced
    → (m : ℕ) (test : tests.Test) (taken other : ℕ) → slice_get nodes m ≡ Some (Test test taken other)
    → slice_get reduced m ≡ Some (Skip taken) → ChainsMeet reduced taken other
reduced_meet nodes [] reduced reductions m test taken other was is = let both : Some (Test test taken other) ≡ Some (Skip taken) = sym was ∙ ap (λ l. slice_get l m) (sym reductions) ∙ is in cc
reduced_meet nodes (n ∷ order) reduced reductions m test taken other was is = elim (cases_eq m n) [
  | inl same ↦ here same ((all_become nodes order middle reductions.1).at_node m)
  | inr apart ↦
      let before = reduced_meet nodes order middle reductions.1 m test taken other was (sym (reduced_elsewhere middle n reduced reductions.2 m apart) ∙ is) in
      record { meet = before.meet; first = leads_still middle reduced becomes taken before.meet before.first; second = leads_still middle reduced becomes other before.meet before.second }
]
  where
    middle : List Node
    middle = reductions.0

    becomes : Becomes reductions.0 reduced
    becomes = one_becomes reductions.0 n reduced reductions.2

    here : m ≡ n → BecomesAt (slice_get nodes m) (slice_get reductions.0 m) → ChainsMeet reduced taken other
    here same (inl stays) =
        let reduction = reductions.2.same in
        let both : Some (Test test taken other) ≡ Some (Test reduction.test reductions.2.taken reduction.other) = sym was ∙ stays ∙ ap (slice_get reductions.0) same ∙ reduction.is in
        let one : reductions.2.taken ≡ taken = cc in
        let two : reduction.other ≡ other = cc in
        record {
          meet = reduction.end;
          first = leads_still reductions.0 reduced becomes taken reduction.end (subst (λ k. SkipsTo reductions.0 k reduction.end) one reduction.taken_end.leads);
          second = leads_still reductions.0 reduced becomes other reduction.end (subst (λ k. SkipsTo reductions.0 k reduction.end) two reduction.other_end.leads);
        }
    here same (inr r) =
        let both : Some (Skip r.1) ≡ Some (Test reductions.2.same.test reductions.2.taken reductions.2.same.other) = sym r.4 ∙ ap (slice_get reductions.0) same ∙ reductions.2.same.is in cc

-- the end of chain of each node that is reached is reached among the cleaned nodes
module _ (nodes cleaned : List Node) (within : AllWithin nodes) (start : (s : ℕ) × (slice_get nodes 0 ≡ Some (Start s))) (are : AreCleaned nodes cleaned) where
  becomes : Becomes nodes are.reduced
  becomes = all_become nodes are.are_reduced.order are.reduced are.are_reduced.reductions

  is_end : (n : ℕ) → n < length nodes → IsEnd are.reduced n (slice_index_or are.ends n 0)
  is_end n lt = are.are_ends.are n (omega (arith, lt, all_long nodes are.are_reduced.order are.reduced are.are_reduced.reductions))

  -- a node that is no Skip is its own end
  ends_itself : (n : ℕ) → n < length nodes → ((next : ℕ) → slice_get are.reduced n ≡ Some (Skip next) → ⊥) → slice_index_or are.ends n 0 ≡ n
  ends_itself n lt other = end_is_one are.reduced n (slice_index_or are.ends n 0) n (is_end n lt) (record { leads = to_itself are.reduced n; ends = ends_at_other are.reduced n other })

  -- a Skip has the end of its successor
  end_of_next : (n next : ℕ) → n < length nodes → next < length nodes → slice_get are.reduced n ≡ Some (Skip next)
      → slice_index_or are.ends next 0 ≡ slice_index_or are.ends n 0
  end_of_next n next lt lt' is = end_is_one are.reduced next (slice_index_or are.ends next 0) (slice_index_or are.ends n 0) (is_end next lt') (end_later are.reduced n next (slice_index_or are.ends n 0) (to_next are.reduced n next is) (is_end n lt))

  -- nodes that meet have one end
  ends_meet : (taken other : ℕ) → taken < length nodes → other < length nodes → ChainsMeet are.reduced taken other
      → slice_index_or are.ends other 0 ≡ slice_index_or are.ends taken 0
  ends_meet taken other lt lt' meet =
      end_is_one are.reduced meet.meet (slice_index_or are.ends other 0) (slice_index_or are.ends taken 0)
      (end_later are.reduced other meet.meet (slice_index_or are.ends other 0) meet.second (is_end other lt'))
      (end_later are.reduced taken meet.meet (slice_index_or are.ends taken 0) meet.first (is_end taken lt))

  cleaned_at : (n : ℕ) → slice_get cleaned n ≡ option_map (redirected (λ m. slice_index_or are.ends m 0)) (slice_get are.reduced n)
  cleaned_at n = ap (λ l. slice_get l n) are.are ∙ slice_get-map (redirected (λ m. slice_index_or are.ends m 0)) are.reduced n

  end_reached : (n : ℕ) → Reached nodes n → Reached cleaned (slice_index_or are.ends n 0)
  end_reached _ at_start = subst (Reached cleaned) (sym (ends_itself 0 (slice_get_within nodes 0 _ start.1) no_skip)) at_start
    where
      no_skip : (next : ℕ) → slice_get are.reduced 0 ≡ Some (Skip next) → ⊥
      no_skip next is = by_case (becomes.at_node 0)
        where
          by_case : BecomesAt (slice_get nodes 0) (slice_get are.reduced 0) → ⊥
          by_case (inl same) = let both : Some (Start start.0) ≡ Some (Skip next) = sym start.1 ∙ same ∙ is in cc
          by_case (inr r) = let both : Some (Start start.0) ≡ Some (Test r.0 r.1 r.2) = sym start.1 ∙ r.3 in cc
  end_reached _ (along m slot s reached edge) = onward (end_reached m reached) (becomes.at_node m) (skip_or_other (slice_get are.reduced m))
    where
      lt : m < length nodes
      lt = slot_within nodes m slot s edge

      lt' : s < length nodes
      lt' = within m slot s edge

      -- of a Skip there is one edge
      of_skip : Reached cleaned (slice_index_or are.ends m 0) → (next : ℕ)
          → slice_get are.reduced m ≡ Some (Skip next) → slice_get (next ∷ []) slot ≡ Some s
          → Reached cleaned (slice_index_or are.ends s 0)
      of_skip before next is e = by_slot slot e
        where
          by_slot : (k : ℕ) → slice_get (next ∷ []) k ≡ Some s → Reached cleaned (slice_index_or are.ends s 0)
          by_slot zero e =
              let same : next ≡ s = cc in
              subst (Reached cleaned) (sym (end_of_next m s lt lt' (is ∙ ap (λ k. Some (Skip k)) same))) before
          by_slot (suc k) e = cc

      -- of a Test that has become a Skip both successors have its end
      of_test : Reached cleaned (slice_index_or are.ends m 0)
          → (r : (test : tests.Test) × (taken : ℕ) × (other : ℕ) × (slice_get nodes m ≡ Some (Test test taken other)) × (slice_get are.reduced m ≡ Some (Skip taken)))
          → slice_get (r.1 ∷ r.2 ∷ []) slot ≡ Some s → Reached cleaned (slice_index_or are.ends s 0)
      of_test before r e = by_slot slot e
        where
          lt_taken : r.1 < length nodes
          lt_taken = within m 0 r.1 (ap (λ o. slice_get (succs_of o) 0) r.3)

          taken_end : slice_index_or are.ends r.1 0 ≡ slice_index_or are.ends m 0
          taken_end = end_of_next m r.1 lt lt_taken r.4

          by_slot : (k : ℕ) → slice_get (r.1 ∷ r.2 ∷ []) k ≡ Some s → Reached cleaned (slice_index_or are.ends s 0)
          by_slot zero e = let same : r.1 ≡ s = cc in subst (λ k. Reached cleaned (slice_index_or are.ends k 0)) same (subst (Reached cleaned) (sym taken_end) before)
          by_slot (suc zero) e =
              let same : r.2 ≡ s = cc in
              let meet = reduced_meet nodes are.are_reduced.order are.reduced are.are_reduced.reductions m r.0 r.1 r.2 r.3 r.4 in
              let lt_other : r.2 < length nodes = subst (λ k. k < length nodes) (sym same) lt' in
              subst (λ k. Reached cleaned (slice_index_or are.ends k 0)) same (subst (Reached cleaned) (sym (ends_meet r.1 r.2 lt_taken lt_other meet ∙ taken_end)) before)
          by_slot (suc (suc k)) e = cc

      -- of any other node each edge leads to the end of its target
      of_other : Reached cleaned (slice_index_or are.ends m 0) → slice_get nodes m ≡ slice_get are.reduced m
          → ((next : ℕ) → slice_get are.reduced m ≡ Some (Skip next) → ⊥)
          → Reached cleaned (slice_index_or are.ends s 0)
      of_other before same other =
          let here : Reached cleaned m = subst (Reached cleaned) (ends_itself m lt other) before in
          along m slot (slice_index_or are.ends s 0) here
          (ap (λ o. slice_get (succs_of o) slot) (cleaned_at m) ∙ ap (λ l. slice_get l slot) (redirected_succs_of (λ k. slice_index_or are.ends k 0) (slice_get are.reduced m))
          ∙ slice_get-map (λ k. slice_index_or are.ends k 0) (succs_of (slice_get are.reduced m)) slot
          ∙ ap (option_map (λ k. slice_index_or are.ends k 0)) (ap (λ o. slice_get (succs_of o) slot) (sym same) ∙ edge))

      onward : Reached cleaned (slice_index_or are.ends m 0) → BecomesAt (slice_get nodes m) (slice_get are.reduced m)
          → ((next : ℕ) × (slice_get are.reduced m ≡ Some (Skip next))) ⊎ ((next : ℕ) → slice_get are.reduced m ≡ Some (Skip next) → ⊥)
          → Reached cleaned (slice_index_or are.ends s 0)
      onward before (inl same) (inl skip) = of_skip before skip.0 skip.1 (sym (ap (λ o. slice_get (succs_of o) slot) (same ∙ skip.1)) ∙ edge)
      onward before (inl same) (inr other) = of_other before same other
      onward before (inr r) skip = of_test before r (sym (ap (λ o. slice_get (succs_of o) slot) r.3) ∙ edge)

  -- ---- assignments

  assign_reduced : (n x : ℕ) (rhs : Rhs) (next : ℕ) → slice_get nodes n ≡ Some (Assign x rhs next) → slice_get are.reduced n ≡ Some (Assign x rhs next)
  assign_reduced n x rhs next is = by_case (becomes.at_node n)
    where
      by_case : BecomesAt (slice_get nodes n) (slice_get are.reduced n) → slice_get are.reduced n ≡ Some (Assign x rhs next)
      by_case (inl same) = sym same ∙ is
      by_case (inr r) = let both : Some (Assign x rhs next) ≡ Some (Test r.0 r.1 r.2) = sym is ∙ r.3 in cc

  pub assign_cleaned : (n x : ℕ) (rhs : Rhs) (next : ℕ) → slice_get nodes n ≡ Some (Assign x rhs next)
      → slice_get cleaned n ≡ Some (Assign x rhs (slice_index_or are.ends next 0))
  assign_cleaned n x rhs next is = cleaned_at n ∙ ap (option_map (redirected (λ m. slice_index_or are.ends m 0))) (assign_reduced n x rhs next is)

  pub assign_reached : (n x : ℕ) (rhs : Rhs) (next : ℕ) → slice_get nodes n ≡ Some (Assign x rhs next) → Reached nodes n → Reached cleaned n
  assign_reached n x rhs next is reached = subst (Reached cleaned) (ends_itself n (slice_get_within nodes n _ is) no_skip) (end_reached n reached)
    where
      no_skip : (m : ℕ) → slice_get are.reduced n ≡ Some (Skip m) → ⊥
      no_skip m skip = let both : Some (Assign x rhs next) ≡ Some (Skip m) = sym (assign_reduced n x rhs next is) ∙ skip in cc

  -- and an assignment that is there was there
  pub assign_was : (n x : ℕ) (rhs : Rhs) (next : ℕ) → slice_get cleaned n ≡ Some (Assign x rhs next)
      → (before : ℕ) × (slice_get nodes n ≡ Some (Assign x rhs before))
  assign_was n x rhs next is = by_node (slice_get are.reduced n) refl (sym (cleaned_at n) ∙ is)
    where
      by_node : (node : Option Node) → slice_get are.reduced n ≡ node
          → option_map (redirected (λ m. slice_index_or are.ends m 0)) node ≡ Some (Assign x rhs next)
          → (before : ℕ) × (slice_get nodes n ≡ Some (Assign x rhs before))
      by_node None at e = cc
      by_node (Some (Start s)) at e = cc
      by_node (Some (Skip s)) at e = cc
      by_node (Some (Assign y other s)) at e =
          let one : y ≡ x = cc in
          let two : other ≡ rhs = cc in
          (s, was_before (becomes.at_node n) ∙ at ∙ ap (λ k. Some (Assign k other s)) one ∙ ap (λ r. Some (Assign x r s)) two)
        where
          was_before : BecomesAt (slice_get nodes n) (slice_get are.reduced n) → slice_get nodes n ≡ slice_get are.reduced n
          was_before (inl same) = same
          was_before (inr r) = let both : Some (Skip r.1) ≡ Some (Assign y other s) = sym r.4 ∙ at in cc
      by_node (Some (Print a s)) at e = cc
      by_node (Some (Guard x g s)) at e = cc
      by_node (Some (Call into unit operands s)) at e = cc
      by_node (Some (Test test taken other)) at e = cc
      by_node (Some (Return a)) at e = cc

-- each dividing assignment is unchanged at its number, and is reached, so it is kept
pub clean_unchanged : (graph cleaned : GraphShape) → IsGraph graph.vars graph.received graph.nodes
    → IsClean graph cleaned → DividesUnchanged graph.nodes cleaned.nodes
clean_unchanged graph cleaned is clean = unchanged_trans graph.nodes clean.nodes cleaned.nodes
    (unchanged_in_place graph.nodes clean.nodes (λ n x op left right next may_trap here. (_, assign_cleaned graph.nodes clean.nodes within is.can.start clean.are_cleaned n x (Binary op left right) next here)))
    (retained_unchanged clean.nodes cleaned.nodes clean.made.nodes_are reached)
  where
    within : AllWithin graph.nodes
    within m slot s edge = (is.can.succs m slot s edge).1

    reached : (n x : ℕ) (op : Op) → DividesAt clean.nodes n x op → Reached clean.nodes n
    reached n x op at =
        let was = assign_was graph.nodes clean.nodes within is.can.start clean.are_cleaned n x (Binary op at.left at.right) at.of.next at.of.is in
        assign_reached graph.nodes clean.nodes within is.can.start clean.are_cleaned n x (Binary op at.left at.right) was.0 was.1 (is.reached n (slice_get_within graph.nodes n _ was.1))
