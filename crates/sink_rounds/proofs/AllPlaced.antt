-- Every node of a graph but Start has a place in its whole plan.
use Rattle.std.proofs.Common.{◌≡◌, ℕ, zero, suc, ◌≤◌, Bool, true, false, cond, List, [], ◌∷◌, drop, slice_get, Some, None, refl, sym, ap, ◌∙◌, subst, arith}
use Rattle.mir_base.specs.ItemLaws.{one_item}
use Rattle.flow_graph.specs.declared.plan.Item.{Item}
use Rattle.flow_graph.specs.declared.plan.Item.TheVariants.{Placed, Jump}
use Rattle.flow_graph.specs.declared.nodes.Node.{Node}
use Rattle.flow_graph.specs.declared.nodes.Node.TheVariants.{Start, Skip, Assign, Print, Guard, Call, Test, Return}
use Rattle.flow_graph.specs.BoundLaws.{slot_within}
use Rattle.flow_graph.specs.Graphs.{IsEdge, IsGraph, Reached, at_start, along, following, succs_of}
use Rattle.flow_graph.specs.ListLaws.{some_at}
use Rattle.flow_graph.specs.Plans.{IsPlan, after_node, is_placed, next_item, start_succ}
use Rattle.flow_graph.specs.PlanLaws.{Next, at_placed, bottom, is_placed_drop, last, next_of, placed_at, taken_placed, then_}

module _ (nodes : List Node) (first : ℕ) (plan : List Item) (is_plan : IsPlan nodes first plan) (done : next_item nodes first plan ≡ None) where
  -- so has the node that follows one with a place: it is next, or a jump to it is
  follows_placed : (z n s : ℕ) (older : List Item) → drop z plan ≡ Placed n ∷ older → following (slice_get nodes n) ≡ Some s → is_placed s plan ≡ true
  follows_placed z n s older here follows = by (is_placed s (Placed n ∷ older)) refl (ap (after_node nodes (Placed n ∷ older)) follows) z (next_of nodes first z plan (Placed n) older is_plan done here)
    where
      by : (b : Bool) → is_placed s (Placed n ∷ older) ≡ b → next_item nodes first (Placed n ∷ older) ≡ Some (cond b (Jump s) (Placed s)) → (k : ℕ) → Next nodes first plan (Placed n ∷ older) k → is_placed s plan ≡ true
      by b is next k (last none) = cc
      by true is next k (then_ j item e next') = is_placed_drop nodes first z s plan (subst (λ l. is_placed s l ≡ true) (sym here) is)
      by false is next k (then_ j item e next') =
          let same : item ≡ Placed s = cc in
          at_placed nodes first j s plan (Placed n ∷ older) (e ∙ ap (λ i. i ∷ Placed n ∷ older) same)

module _ (vars : List (List ℕ)) (received : List ℕ) (nodes : List Node) (graph : IsGraph vars received nodes) (plan : List Item) (is_plan : IsPlan nodes (start_succ (slice_get nodes 0)) plan) (done : next_item nodes (start_succ (slice_get nodes 0)) plan ≡ None) where
  abbrev first : ℕ
  first = start_succ (slice_get nodes 0)

  -- the successors of a node with a place have one too
  succ_placed : (m slot s z : ℕ) (older : List Item) → drop z plan ≡ Placed m ∷ older → (node : Node) → slice_get nodes m ≡ Some node → 1 ≤ m → IsEdge nodes m slot s → is_placed s plan ≡ true
  succ_placed m slot s z older here (Start next) is inner edge = absurd (let none : m ≡ 0 = graph.can.only m next is in omega (arith, none, inner))
  succ_placed m slot s z older here (Skip next) is inner edge = follows_placed nodes first plan is_plan done z m s older here (ap following is ∙ ap Some (one_item next s slot (ap (λ o. slice_get (succs_of o) slot) (sym is) ∙ edge)))
  succ_placed m slot s z older here (Assign x rhs next) is inner edge = follows_placed nodes first plan is_plan done z m s older here (ap following is ∙ ap Some (one_item next s slot (ap (λ o. slice_get (succs_of o) slot) (sym is) ∙ edge)))
  succ_placed m slot s z older here (Print a next) is inner edge = follows_placed nodes first plan is_plan done z m s older here (ap following is ∙ ap Some (one_item next s slot (ap (λ o. slice_get (succs_of o) slot) (sym is) ∙ edge)))
  succ_placed m slot s z older here (Guard test number next) is inner edge = follows_placed nodes first plan is_plan done z m s older here (ap following is ∙ ap Some (one_item next s slot (ap (λ o. slice_get (succs_of o) slot) (sym is) ∙ edge)))
  succ_placed m slot s z older here (Call into unit operands next) is inner edge = follows_placed nodes first plan is_plan done z m s older here (ap following is ∙ ap Some (one_item next s slot (ap (λ o. slice_get (succs_of o) slot) (sym is) ∙ edge)))
  succ_placed m zero s z older here (Test test taken other) is inner edge =
      let to : Some taken ≡ Some s = ap (λ o. slice_get (succs_of o) 0) (sym is) ∙ edge in
      let same : taken ≡ s = cc in
      subst (λ t. is_placed t plan ≡ true) same (taken_placed nodes first plan z m older test taken other done here is)
  succ_placed m (suc slot) s z older here (Test test taken other) is inner edge =
      follows_placed nodes first plan is_plan done z m s older here (ap following is ∙ ap Some (one_item other s slot (ap (λ o. slice_get (succs_of o) (suc slot)) (sym is) ∙ edge)))
  succ_placed m slot s z older here (Return a) is inner edge = let none : None ≡ Some s = ap (λ o. slice_get (succs_of o) slot) (sym is) ∙ edge in cc

  -- so each node that is reached has one, but Start
  pub reached_placed : (n : ℕ) → Reached nodes n → 1 ≤ n → is_placed n plan ≡ true
  reached_placed zero at_start inner = absurd (omega (arith, inner))
  reached_placed n (along zero slot s reached edge) inner =
      let b = bottom nodes first plan is_plan done in
      let start = graph.can.start in
      let same : start.0 ≡ n = one_item start.0 n slot (ap (λ o. slice_get (succs_of o) slot) (sym start.1) ∙ edge) in
      let goes : start_succ (slice_get nodes 0) ≡ n = ap start_succ start.1 ∙ same in
      subst (λ m. is_placed m plan ≡ true) goes (at_placed nodes first b.0 first plan [] b.1)
  reached_placed n (along (suc m) slot s reached edge) inner =
      let there = placed_at nodes first (suc m) plan (reached_placed (suc m) reached (omega arith)) in
      let node = some_at nodes (suc m) (slot_within nodes (suc m) slot n edge) in
      succ_placed (suc m) slot n there.0 there.1 there.2 node.0 node.1 (omega arith) edge
