-- What the nodes become, place by place, and that one graph is made. For proofs only.
use Rattle.std.proofs.Common.{◌≡◌, ℕ, zero, suc, ◌+◌, ◌<◌, List, [], ◌∷◌, length, slice_get, Option, Some, None, option_map, refl, sym, ap, ◌∙◌, subst, arith, add-zero, zero-add}
use Rattle.flow_graph.specs.declared.nodes.Node.{Node}
use Rattle.flow_graph.specs.Graphs.{GraphShape}
use Rattle.flow_graph.specs.Retained.{IsMade}
use Rattle.flow_graph.specs.ListLaws.{cons_same}
use Rattle.flow_graph.specs.OneLaws.{made_is_one}
use Rattle.cond_flow.specs.Rules.{Rules, OrderRules}
use Rattle.cond_flow.specs.States.{NodeState}
use Rattle.cond_flow.specs.StateLaws.{below_antisym}
use Rattle.cond_flow.specs.Becoming.{becomes_at, become_from, nodes_become}
use Rattle.cond_flow.specs.Solutions.{HasLeastStates}
use Rattle.cond_flow.specs.Rewritten.{IsRewritten}
use Rattle.cond_flow.specs.KnownBefore.{IsKnownBefore, state_of_known}

module _ {K : Type 0} (rules : Rules K) where
  -- the node at a place, counted from a number on
  get_from : (k : ℕ) (states : ℕ → NodeState K) (nodes : List Node) (n : ℕ)
      → slice_get (become_from rules k states nodes) n ≡ option_map (becomes_at rules (states (k + n))) (slice_get nodes n)
  get_from k states [] n = refl
  get_from k states (node ∷ nodes) zero = ap (λ j. Some (becomes_at rules (states j) node)) (sym (add-zero k))
  get_from k states (node ∷ nodes) (suc n) =
      get_from (suc k) states nodes n ∙ ap (λ j. option_map (becomes_at rules (states j)) (slice_get nodes n))
      (let e : suc k + n ≡ k + suc n = omega arith in e)

  -- the node at a place of the list that is made
  pub become_get : (states : ℕ → NodeState K) (nodes : List Node) (n : ℕ)
      → slice_get (nodes_become rules states nodes) n ≡ option_map (becomes_at rules (states n)) (slice_get nodes n)
  become_get states nodes n =
      get_from 0 states nodes n ∙ ap (λ j. option_map (becomes_at rules (states j)) (slice_get nodes n)) (zero-add n)

  -- as many nodes
  length_from : (n : ℕ) (states : ℕ → NodeState K) (nodes : List Node)
      → length (become_from rules n states nodes) ≡ length nodes
  length_from n states [] = refl
  length_from n states (node ∷ nodes) = ap suc (length_from (suc n) states nodes)

  -- of them all
  pub length_become : (states : ℕ → NodeState K) (nodes : List Node)
      → length (nodes_become rules states nodes) ≡ length nodes
  length_become states nodes = length_from 0 states nodes

  -- states that are equal at the nodes make the same of them
  become_alike : (k : ℕ) (states others : ℕ → NodeState K) (nodes : List Node)
      → ((n : ℕ) → n < length nodes → states (k + n) ≡ others (k + n))
      → become_from rules k states nodes ≡ become_from rules k others nodes
  become_alike k states others [] same = refl
  become_alike k states others (node ∷ nodes) same =
      let here : states k ≡ others k = subst (λ j. states j ≡ others j) (add-zero k) (same 0 (omega arith)) in
      let rest = become_alike (suc k) states others nodes
      (λ n lt. subst (λ j. states j ≡ others j) (let e : k + suc n ≡ suc k + n = omega arith in e)
      (same (suc n) (omega (arith, lt)))) in
      cons_same (ap (λ s. becomes_at rules s node) here) rest

-- what is told gives one state, and one state tells one thing
told_is_one : {K : Type 0} (size : ℕ) (a b : Option (List K)) → state_of_known size a ≡ state_of_known size b → a ≡ b
told_is_one size None None e = refl
told_is_one size None (Some ks) e = cc
told_is_one size (Some ks) None e = cc
told_is_one size (Some ks) (Some ls) e = let same : ks ≡ ls = cc in ap Some same

module _ {K : Type 0} {below : K → K → Type 0} {rules : Rules K} (order : OrderRules below rules) where
  -- the least states are determined at the nodes
  states_are_one : (graph : GraphShape) (states others : ℕ → NodeState K) → HasLeastStates below rules graph states
      → HasLeastStates below rules graph others → (n : ℕ) → n < length graph.nodes → states n ≡ others n
  states_are_one graph states others p q n lt =
      below_antisym order (states n) (others n) (p.least others q.are n lt) (q.least states p.are n lt)

  -- and so is the graph that is made
  pub rewritten_is_one : (graph a b : GraphShape) → IsRewritten below rules graph a → IsRewritten below rules graph b
      → a ≡ b
  rewritten_is_one graph a b p q =
      let same : nodes_become rules p.states graph.nodes ≡ nodes_become rules q.states graph.nodes =
      become_alike rules 0 p.states q.states graph.nodes
      (λ n lt. subst (λ j. p.states j ≡ q.states j) (sym (zero-add n))
      (states_are_one graph p.states q.states p.least q.least n lt)) in
      made_is_one graph.name graph.shared graph.vars graph.received (nodes_become rules q.states graph.nodes) a b
      (subst (λ l. IsMade graph.name graph.shared graph.vars graph.received l a) same p.made) q.made

  -- so what is known before a node is determined
  pub known_is_one : (graph : GraphShape) (node : ℕ) (a b : Option (List K)) → node < length graph.nodes
      → IsKnownBefore below rules graph node a → IsKnownBefore below rules graph node b → a ≡ b
  known_is_one graph node a b lt p q =
      told_is_one (length graph.vars) a b
      (sym p.here ∙ states_are_one graph p.states q.states p.least q.least node lt ∙ q.here)
