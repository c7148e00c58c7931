-- Law: where a step leaves the layout of a graph as it is, each assignment stands on each full path as often as before.
use Rattle.std.proofs.Common.{◌≡◌, ◌+◌, ◌≤◌, ℕ, suc, Bool, true, false, List, [], ◌∷◌, length, slice_get, Option, Some, None, option_map, refl, sym, ap, ◌∙◌, subst, arith}
use Rattle.std.proofs.lemmas.Bool.{false≢true}
use Rattle.mir_base.specs.declared.instructions.Inst.{Inst}
use Rattle.mir_base.specs.declared.instructions.Rhs.{Rhs}
use Rattle.mir_base.specs.Expressions.{divides}
use Rattle.mir_base.specs.ItemLaws.{one_item}
use Rattle.flow_graph.specs.declared.nodes.Node.{Node}
use Rattle.flow_graph.specs.declared.nodes.Node.TheVariants.{Start, Skip, Assign, Print, Guard, Call, Test, Return}
use Rattle.flow_graph.specs.Graphs.{GraphShape, IsEdge, IsGraph, succs_of}
use Rattle.flow_graph.specs.Layouts.{IsLaid, plain_body}
use Rattle.flow_graph.specs.ListLaws.{some_at}
use Rattle.flow_graph.specs.Numbering.{seen_in}
use Rattle.flow_graph.specs.Paths.{Ends, IsFullPath, IsPath, IsReturnAt, is_return}
use Rattle.flow_graph.specs.BoundLaws.{edge_within}
use Rattle.flow_graph.specs.Plans.{start_succ}
use Rattle.flow_graph.specs.Retained.{redirected}
use Rattle.flow_graph.specs.Sums.{one_if, sum_on}
use Rattle.flow_graph.specs.LayoutLaws.{seen_low}
use Rattle.graph_edit.specs.InsertionNodes.{old_edge, old_get}
use Rattle.graph_edit.specs.InsertionPaths.{IsInsertionChain, chain_is}
use Rattle.graph_edit.specs.Insertions.{Change, Insertion, Removed, Replaced, Rewriting, Unchanged, changed, entry, entry_among, put_below, rewritten_nodes}
use Rattle.graph_edit.specs.Over.{over_path}
use Rattle.graph_edit.specs.Accesses.{is_occurrence}
use Rattle.dead_code.specs.Pruned.{pruned_from, removed_if}
use Rattle.dead_code.specs.PrunedLaws.{pruned_get}
use Rattle.sink_rounds.proofs.Chains.{chain_sum, ones, over_sum}
use Rattle.sink_rounds.specs.Names.{same_bodies}
use Rattle.sink_rounds.specs.Unpruned.{same_succs}
use Rattle.sink_rounds.specs.BodyWalks.{Near, begins, one_walk}
use Rattle.sink_rounds.proofs.Walks.{Walked, at_end, moves, onward, with_way}

-- the ways that a path takes at its tests
abbrev ways_of : (nodes : List Node) (path : List ℕ) → IsPath nodes path → List ℕ
ways_of nodes [] is = []
ways_of nodes (n ∷ []) is = []
ways_of nodes (n ∷ m ∷ path) is = with_way (slice_get nodes n) is.0.0 (ways_of nodes (m ∷ path) is.1)

-- a Return is no occurrence
return_none : (x : ℕ) (t : Rhs) (o : Option Node) → is_return o ≡ true → one_if (is_occurrence x t o) ≡ 0
return_none x t None e = refl
return_none x t (Some (Start next)) e = refl
return_none x t (Some (Skip next)) e = refl
return_none x t (Some (Assign y rhs next)) e = absurd (false≢true e)
return_none x t (Some (Print a next)) e = refl
return_none x t (Some (Guard test number next)) e = refl
return_none x t (Some (Call into unit operands next)) e = refl
return_none x t (Some (Test test taken other)) e = refl
return_none x t (Some (Return a)) e = refl

-- a node that is changed and redirected takes the same ways, and is a Return where it was one
way_stays : (gone : Bool) (go : ℕ → ℕ) (c : Change) (node : Node) (slot : ℕ) (ways : List ℕ) → with_way (Some (changed (removed_if gone) (redirected go (changed c node)))) slot ways ≡ with_way (Some node) slot ways
way_stays gone go c (Start next) slot ways = refl
way_stays gone go c (Skip next) slot ways = refl
way_stays true go Unchanged (Assign y rhs next) slot ways = refl
way_stays false go Unchanged (Assign y rhs next) slot ways = refl
way_stays true go (Replaced other) (Assign y rhs next) slot ways = refl
way_stays false go (Replaced other) (Assign y rhs next) slot ways = refl
way_stays gone go Removed (Assign y rhs next) slot ways = refl
way_stays gone go c (Print a next) slot ways = refl
way_stays gone go c (Guard test number next) slot ways = refl
way_stays gone go c (Call into unit operands next) slot ways = refl
way_stays gone go c (Test test taken other) slot ways = refl
way_stays gone go c (Return a) slot ways = refl

-- a Return stays one
return_stays : (gone : Bool) (go : ℕ → ℕ) (c : Change) (node : Node) → is_return (Some node) ≡ true → is_return (Some (changed (removed_if gone) (redirected go (changed c node)))) ≡ true
return_stays gone go c (Start next) e = absurd (false≢true e)
return_stays gone go c (Skip next) e = absurd (false≢true e)
return_stays gone go c (Assign y rhs next) e = absurd (false≢true e)
return_stays gone go c (Print a next) e = absurd (false≢true e)
return_stays gone go c (Guard test number next) e = absurd (false≢true e)
return_stays gone go c (Call into unit operands next) e = absurd (false≢true e)
return_stays gone go c (Test test taken other) e = absurd (false≢true e)
return_stays gone go c (Return a) e = refl

-- what is put before a node takes no way
chain_way : (gone : Bool) (y : ℕ) (u : Rhs) (next slot : ℕ) (ways : List ℕ) → with_way (Some (changed (removed_if gone) (Assign y u next))) slot ways ≡ ways
chain_way true y u next slot ways = refl
chain_way false y u next slot ways = refl

module _ (graph : GraphShape) (is_graph : IsGraph graph.vars graph.received graph.nodes) (least : graph.shared ≤ length graph.vars) (x : ℕ) (t : Rhs) (sinkable : divides t ≡ false) where
  -- ---- the graph's own path

  module _ (names : List (List ℕ)) (final : List Inst) (laid : IsLaid graph.shared graph.vars graph.received graph.nodes names final) where
    abbrev first : ℕ
    first = start_succ (slice_get graph.nodes 0)

    abbrev body : List Inst
    body = plain_body graph.received graph.nodes laid.plan

    abbrev near : ℕ → ℕ → Type 0
    near n q = Near graph.received graph.nodes first laid.plan laid.is_plan.is_plan laid.is_plan.complete n q

    abbrev mine : ℕ → ℕ
    mine n = one_if (is_occurrence x t (slice_get graph.nodes n))

    -- a path to a Return is a walk of the body by the ways of the path
    walked : (path : List ℕ) (n last q : ℕ) (is : IsPath graph.nodes (n ∷ path)) → Ends last (n ∷ path) → IsReturnAt graph.nodes last → near n q → Walked x t body q (ways_of graph.nodes (n ∷ path) is) (sum_on mine (n ∷ path))
    walked [] n last q is ends returns at =
        let here : IsReturnAt graph.nodes n = subst (IsReturnAt graph.nodes) (sym ends) returns in
        let none = return_none x t (slice_get graph.nodes n) here in
        subst (Walked x t body q []) (let e : 0 ≡ sum_on mine (n ∷ []) = omega (arith, none) in e) (at_end x t graph.received graph.nodes first laid.plan laid.is_plan.is_plan laid.is_plan.complete n q at here)
    walked (m ∷ path) n last q is ends returns at =
        let on = onward x t graph.received graph.nodes first laid.plan laid.is_plan.is_plan laid.is_plan.complete n m is.0.0 q at is.0.1 in
        on.walks (ways_of graph.nodes (m ∷ path) is.1) (sum_on mine (m ∷ path)) (walked path m last on.to is.1 ends returns on.near)

    -- so is the path from the first node on
    first_walked : (path : List ℕ) (last : ℕ) (is : IsPath graph.nodes (first ∷ path)) → Ends last (first ∷ path) → IsReturnAt graph.nodes last → Walked x t body (length graph.received) (ways_of graph.nodes (first ∷ path) is) (sum_on mine (first ∷ path))
    first_walked path last is ends returns = walked path first last (length graph.received) is ends returns (begins graph.received graph.nodes first laid.plan laid.is_plan.is_plan laid.is_plan.complete)

  -- ---- the path over it

  module _ (r : Rewriting) (dead : ℕ → Bool) (at_start : r.inserts 0 ≡ []) (names : List (List ℕ)) (final : List Inst) (laid : IsLaid graph.shared graph.vars graph.received (pruned_from dead 0 (rewritten_nodes r graph.nodes)) names final) where
    abbrev raw : List Node
    raw = rewritten_nodes r graph.nodes

    abbrev after : List Node
    after = pruned_from dead 0 raw

    abbrev to : ℕ → ℕ
    to = entry r.inserts (length graph.nodes)

    abbrev first' : ℕ
    first' = start_succ (slice_get after 0)

    abbrev body' : List Inst
    body' = plain_body graph.received after laid.plan

    abbrev near' : ℕ → ℕ → Type 0
    near' n q = Near graph.received after first' laid.plan laid.is_plan.is_plan laid.is_plan.complete n q

    abbrev theirs : ℕ → ℕ
    theirs = ones graph r x t sinkable dead

    -- an old node is the one that it becomes
    old_is : (n : ℕ) (node : Node) → slice_get graph.nodes n ≡ Some node → slice_get after n ≡ Some (changed (removed_if (dead (0 + n))) (redirected to (changed (r.changes n) node)))
    old_is n node is = pruned_get dead raw 0 n ∙ ap (option_map (changed (removed_if (dead (0 + n))))) (old_get r graph.nodes n node is)

    -- past what is put before a node
    record PastChain (n k q : ℕ) (puts : List Insertion) : Type 0 where
      at : ℕ
      near : near' n at
      walks : (ways : List ℕ) (count : ℕ) → Walked x t body' at ways count → Walked x t body' q ways (chain_sum theirs k puts + count)

    -- each of its assignments emits one instruction or none, and takes no way
    past_chain : (n k q : ℕ) (puts : List Insertion) → IsInsertionChain raw n k puts → near' (entry_among n k puts) q → PastChain n k q puts
    past_chain n k q [] c at = record { at = q; near = at; walks = λ ways count walk. subst (Walked x t body' q ways) (let e : count ≡ 0 + count = omega arith in e) walk }
    past_chain n k q (put ∷ puts) c at =
        let next = entry_among n (suc k) puts in
        let edge : IsEdge after k 0 next = ap (λ l. slice_get l 0) (same_succs dead raw k) ∙ ap (λ (o : Option Node). slice_get (succs_of o) 0) c.0 in
        let on = onward x t graph.received after first' laid.plan laid.is_plan.is_plan laid.is_plan.complete k next 0 q at edge in
        let rest = past_chain n (suc k) on.to puts c.1 on.near in
        let is : slice_get after k ≡ Some (changed (removed_if (dead (0 + k))) (Assign put.var put.rhs next)) = pruned_get dead raw 0 k ∙ ap (option_map (changed (removed_if (dead (0 + k))))) c.0 in
        record {
          at = rest.at;
          near = rest.near;
          walks = λ ways count walk.
              subst (Walked x t body' q ways) (let e : theirs k + (chain_sum theirs (suc k) puts + count) ≡ chain_sum theirs k (put ∷ puts) + count = omega arith in e)
              (subst (λ l. Walked x t body' q l (theirs k + (chain_sum theirs (suc k) puts + count))) (ap (λ o. with_way o 0 ways) is ∙ chain_way (dead (0 + k)) put.var put.rhs next 0 ways)
              (on.walks ways (chain_sum theirs (suc k) puts + count) (rest.walks ways count walk)));
        }

    -- so the path over a path is a walk by the same ways
    walked' : (path : List ℕ) (n last q : ℕ) (is : IsPath graph.nodes (n ∷ path)) → Ends last (n ∷ path) → IsReturnAt graph.nodes last → near' (to n) q → Walked x t body' q (ways_of graph.nodes (n ∷ path) is) (sum_on theirs (over_path r.inserts (length graph.nodes) (n ∷ path)))
    walked' [] n last q is ends returns at =
        let p = past_chain n (length graph.nodes + put_below r.inserts n) q (r.inserts n) (chain_is r graph.nodes n is) at in
        let node = some_at graph.nodes n is in
        let here : is_return (Some node.0) ≡ true = sym (ap is_return node.1) ∙ subst (IsReturnAt graph.nodes) (sym ends) returns in
        let there : IsReturnAt after n = ap is_return (old_is n node.0 node.1) ∙ return_stays (dead (0 + n)) to (r.changes n) node.0 here in
        let none = return_none x t (slice_get after n) there in
        subst (Walked x t body' q []) (let e : chain_sum theirs (length graph.nodes + put_below r.inserts n) (r.inserts n) + 0 ≡ sum_on theirs (over_path r.inserts (length graph.nodes) (n ∷ [])) = omega (arith, none, over_sum theirs r.inserts (length graph.nodes) n []) in e)
        (p.walks [] 0 (at_end x t graph.received after first' laid.plan laid.is_plan.is_plan laid.is_plan.complete n p.at p.near there))
    walked' (m ∷ path) n last q is ends returns at =
        let lt = edge_within graph.nodes n m is.0 in
        let p = past_chain n (length graph.nodes + put_below r.inserts n) q (r.inserts n) (chain_is r graph.nodes n lt) at in
        let node = some_at graph.nodes n lt in
        let edge : IsEdge after n is.0.0 (to m) = ap (λ l. slice_get l is.0.0) (same_succs dead raw n) ∙ old_edge r graph.nodes n is.0.0 m is.0.1 in
        let on = onward x t graph.received after first' laid.plan laid.is_plan.is_plan laid.is_plan.complete n (to m) is.0.0 p.at p.near edge in
        let rest = walked' path m last on.to is.1 ends returns on.near in
        let ways = ways_of graph.nodes (m ∷ path) is.1 in
        let more = sum_on theirs (over_path r.inserts (length graph.nodes) (m ∷ path)) in
        let way : with_way (slice_get after n) is.0.0 ways ≡ with_way (slice_get graph.nodes n) is.0.0 ways = ap (λ o. with_way o is.0.0 ways) (old_is n node.0 node.1) ∙ way_stays (dead (0 + n)) to (r.changes n) node.0 is.0.0 ways ∙ ap (λ o. with_way o is.0.0 ways) (sym node.1) in
        subst (Walked x t body' q (with_way (slice_get graph.nodes n) is.0.0 ways)) (let e : chain_sum theirs (length graph.nodes + put_below r.inserts n) (r.inserts n) + (theirs n + more) ≡ sum_on theirs (over_path r.inserts (length graph.nodes) (n ∷ m ∷ path)) = sym (over_sum theirs r.inserts (length graph.nodes) n (m ∷ path)) in e)
        (p.walks (with_way (slice_get graph.nodes n) is.0.0 ways) (theirs n + more) (subst (λ l. Walked x t body' p.at l (theirs n + more)) way (on.walks ways more rest)))

    -- Start stays, with another successor
    start_is : slice_get after 0 ≡ Some (Start (to is_graph.can.start.0))
    start_is = old_is 0 (Start is_graph.can.start.0) is_graph.can.start.1

    -- and so is the path over it from the first node on
    first_walked' : (path : List ℕ) (n last : ℕ) → n ≡ is_graph.can.start.0 → (is : IsPath graph.nodes (n ∷ path)) → Ends last (n ∷ path) → IsReturnAt graph.nodes last
        → Walked x t body' (length graph.received) (ways_of graph.nodes (n ∷ path) is) (sum_on theirs (over_path r.inserts (length graph.nodes) (n ∷ path)))
    first_walked' path n last first_is is ends returns =
        walked' path n last (length graph.received) is ends returns (subst (λ m. near' m (length graph.received)) (ap start_succ start_is ∙ ap to (sym first_is)) (begins graph.received after first' laid.plan laid.is_plan.is_plan laid.is_plan.complete))

    -- ---- both

    module _ (is_graph' : IsGraph graph.vars graph.received (pruned_from dead 0 (rewritten_nodes r graph.nodes))) (laid0 : IsLaid graph.shared graph.vars graph.received graph.nodes names final) where
      bodies : plain_body graph.received graph.nodes laid0.plan ≡ body'
      bodies = same_bodies graph.shared graph.vars (plain_body graph.received graph.nodes laid0.plan) body' is_graph.can.names
          (seen_low graph.shared graph.vars graph.received graph.nodes is_graph least laid0.plan (plain_body graph.received graph.nodes laid0.plan) (seen_in graph.shared (plain_body graph.received graph.nodes laid0.plan)) refl refl)
          (seen_low graph.shared graph.vars graph.received after is_graph' least laid.plan body' (seen_in graph.shared body') refl refl)
          (sym laid0.names_are ∙ laid.names_are) (sym laid0.body_is ∙ laid.body_is)

      -- on a full path each assignment stands as often
      pub as_often : (path : List ℕ) → IsFullPath graph.nodes path → sum_on (λ n. one_if (is_occurrence x t (slice_get graph.nodes n))) path ≡ sum_on (ones graph r x t sinkable dead) (over_path r.inserts (length graph.nodes) path)
      as_often [] full = absurd full.begins
      as_often (n ∷ []) full = absurd (false≢true (sym (ap is_return is_graph.can.start.1) ∙ ap (λ m. is_return (slice_get graph.nodes m)) (sym full.begins ∙ full.ends) ∙ full.returns))
      as_often (n ∷ m ∷ path) full =
          let begins_0 : n ≡ 0 = full.begins in
          let starts : slice_get graph.nodes n ≡ Some (Start is_graph.can.start.0) = ap (slice_get graph.nodes) begins_0 ∙ is_graph.can.start.1 in
          let first_is : is_graph.can.start.0 ≡ m = one_item is_graph.can.start.0 m full.is_path.0.0 (sym (ap (λ (o : Option Node). slice_get (succs_of o) full.is_path.0.0) starts) ∙ full.is_path.0.1) in
          let mine_walk = walked names final laid0 path m full.last (length graph.received) full.is_path.1 full.ends full.returns
          (subst (λ k. Near graph.received graph.nodes (start_succ (slice_get graph.nodes 0)) laid0.plan laid0.is_plan.is_plan laid0.is_plan.complete k (length graph.received)) (ap start_succ is_graph.can.start.1 ∙ first_is) (begins graph.received graph.nodes (start_succ (slice_get graph.nodes 0)) laid0.plan laid0.is_plan.is_plan laid0.is_plan.complete)) in
          let their_walk = first_walked' path m full.last (sym first_is) full.is_path.1 full.ends full.returns in
          let same = one_walk moves x t body' (length graph.received) (ways_of graph.nodes (m ∷ path) full.is_path.1) (sum_on (λ k. one_if (is_occurrence x t (slice_get graph.nodes k))) (m ∷ path)) (sum_on theirs (over_path r.inserts (length graph.nodes) (m ∷ path)))
          (subst (λ b. Walked x t b (length graph.received) (ways_of graph.nodes (m ∷ path) full.is_path.1) (sum_on (λ k. one_if (is_occurrence x t (slice_get graph.nodes k))) (m ∷ path))) bodies mine_walk) their_walk in
          let my_start = ap {B = ℕ} (λ o. one_if (is_occurrence x t o)) starts in
          let their_start : theirs n ≡ 0 = ap (λ k. one_if (is_occurrence x t (slice_get after k))) begins_0 ∙ ap (λ o. one_if (is_occurrence x t o)) start_is in
          let no_chain : chain_sum theirs (length graph.nodes + put_below r.inserts n) (r.inserts n) ≡ 0 = ap (λ k. chain_sum theirs (length graph.nodes + put_below r.inserts k) (r.inserts k)) begins_0 ∙ ap (chain_sum theirs (length graph.nodes + 0)) at_start in
          omega (arith, same, my_start, their_start, no_chain, over_sum theirs r.inserts (length graph.nodes) n (m ∷ path))
