-- Laws: the rewritten graph is a graph, and makes no calls but those of the graph. For proofs only;
-- the crates above cite them.
use Rattle.std.proofs.Common.{◌≡◌, ℕ, zero, suc, ◌+◌, ◌-◌, ◌<◌, ◌≤◌, List, [], ◌∷◌, ◌++◌, length, slice_get, Some, inl, inr, sym, ap, ◌∙◌, subst, arith, length-append}
use Rattle.std.proofs.lemmas.Bool.{cases_lt}
use Rattle.std.proofs.lemmas.Option.{slice_get_within}
pub use Rattle.mir_base.specs.BelowLaws.{all_below_more}
use Rattle.mir_base.specs.Shapes.{AllBelow, rhs_vars}
use Rattle.flow_graph.specs.declared.nodes.Node.{Node}
use Rattle.flow_graph.specs.declared.nodes.Node.TheVariants.{Start}
use Rattle.flow_graph.specs.Calls.{NodesCall, node_call}
use Rattle.flow_graph.specs.NodeLaws.{redirected_call, redirected_start, redirected_vars}
use Rattle.graph_edit.specs.ChangeLaws.{changed_call, changed_start, changed_below}
use Rattle.flow_graph.specs.Graphs.{GraphShape, IsEdge, Reached, at_start, along, CanMake, IsGraph, node_vars}
use Rattle.graph_edit.specs.Insertions.{Insertion, Rewriting, changed, put_below, entry_among, entry, rewritten_nodes, rewritten, InsertionsBelow, CanRewrite}
use Rattle.graph_edit.specs.InsertionNodes.{put_mono, place_found, rewritten_length, old_get, node_at, old_edge, new_edge, edge_cases, entry_is}

-- ---- one insertion

-- each of the insertions has its variables in range
insertion_below : (k : ℕ) (puts : List Insertion) (j : ℕ) (put : Insertion) → InsertionsBelow k puts
    → slice_get puts j ≡ Some put → (put.var < k) × AllBelow k (rhs_vars put.rhs)
insertion_below k [] j put below at_j = cc
insertion_below k (first ∷ puts) zero put below at_j = let same : first ≡ put = cc in subst (λ (p : Insertion). (p.var < k) × AllBelow k (rhs_vars p.rhs)) same below.0
insertion_below k (first ∷ puts) (suc j) put below at_j = insertion_below k puts j put below.1 at_j

module _ (r : Rewriting) (extra : List (List ℕ)) (graph : GraphShape) (fits : CanRewrite r extra graph) where
  abbrev nodes : List Node
  nodes = graph.nodes

  abbrev to : ℕ → ℕ
  to = entry r.inserts (length nodes)

  abbrev raw : List Node
  raw = rewritten_nodes r nodes

  none_at_start : length (r.inserts 0) ≡ 0
  none_at_start = ap length fits.at_start

  -- the edges to Start would still lead to it
  pub start_entry : entry r.inserts (length graph.nodes) 0 ≡ 0
  start_entry = ap (entry_among 0 (length nodes + 0)) fits.at_start

  -- ---- edges

  entry_within : (n : ℕ) → 1 ≤ n → n < length nodes → (1 ≤ to n) × (to n < length raw)
  entry_within n some lt = elim (entry_is r.inserts (length nodes) n) [
    | inl e ↦ (omega (arith, e.1, some), omega (arith, e.1, lt, rewritten_length r nodes))
    | inr e ↦ (omega (arith, e.1, lt), omega (arith, e.0, e.1, put_mono r.inserts n (length nodes) lt, rewritten_length r nodes))
  ]

  edge_within : CanMake graph.vars graph.received nodes → (m slot s : ℕ) → IsEdge raw m slot s
      → (1 ≤ s) × (s < length raw)
  edge_within can m slot s edge =
      let long = rewritten_length r nodes in
      elim (edge_cases r nodes m slot s edge) [
        | inl o ↦
            let target = can.succs m slot o.target o.edge in
            let e = entry_within o.target target.0 target.1 in
            (omega (arith, e.0, o.is), omega (arith, e.1, o.is))
        | inr w ↦ elim w.new.link [
          | inl l ↦ (omega (arith, l.1, w.is), omega (arith, l.0, l.1, w.is, long, put_mono r.inserts w.new.n (length nodes) w.new.below))
          | inr l ↦ (omega (arith, l.1, w.is, not_start w.new.n w.new.j w.new.within), omega (arith, l.1, w.is, long, w.new.below))
        ]
      ]
    where
      not_start : (n j : ℕ) → j < length (r.inserts n) → 1 ≤ n
      not_start zero j lt = absurd (omega (arith, none_at_start, lt))
      not_start (suc n) j lt = omega arith

  -- ---- a graph can be made of the nodes

  pub rewritten_can : CanMake graph.vars graph.received graph.nodes
      → CanMake (graph.vars ++ extra) graph.received (rewritten_nodes r graph.nodes)
  rewritten_can can =
      let all = length (graph.vars ++ extra) in
      let more : length graph.vars ≤ all = omega (arith, length-append graph.vars extra) in
      record {
        start = (to can.start.0, old_get r nodes 0 (Start can.start.0) can.start.1);
        only = λ n s there. elim (node_at r nodes n (Start s) there) [
          | inl o ↦
              let new = redirected_start to (changed (r.changes n) o.old) s (sym o.is) in
              let was = changed_start (r.changes n) o.old new.0 new.1 in
              can.only n was.0 (o.was ∙ ap Some was.1)
          | inr w ↦ let never = w.is in absurd (cc)
        ];
        succs = edge_within can;
        below = λ m node there. elim (node_at r nodes m node there) [
          | inl o ↦ subst (λ x. AllBelow all (node_vars x)) (sym o.is) (subst (AllBelow all) (sym (redirected_vars to (changed (r.changes m) o.old))) (changed_below (r.changes m) all (fits.change m (slice_get_within nodes m o.old o.was)) o.old (all_below_more (length graph.vars) all (node_vars o.old) more (can.below m o.old o.was))))
          | inr w ↦ subst (λ x. AllBelow all (node_vars x)) (sym w.is) (insertion_below all (r.inserts w.n) w.j w.put (fits.put w.n w.below) w.listed)
        ];
        received_below = all_below_more (length graph.vars) all graph.received more can.received_below;
        received_differ = can.received_differ;
        names = fits.names;
      }

  -- ---- and of all of them

  module _ (is_graph : IsGraph graph.vars graph.received graph.nodes) where
    chain_reached : (n j : ℕ) → n < length nodes → j < length (r.inserts n) → Reached raw (to n)
        → Reached raw (length nodes + (put_below r.inserts n + j))
    chain_reached n zero below lt at = elim (entry_is r.inserts (length nodes) n) [
      | inl e ↦ absurd (omega (arith, e.0, lt))
      | inr e ↦ let is : to n ≡ length nodes + (put_below r.inserts n + 0) = omega (arith, e.1) in subst (Reached raw) is at
    ]
    chain_reached n (suc j) below lt at =
        let earlier = chain_reached n j below (omega (arith, lt)) at in
        let w = new_edge r nodes n j below (omega (arith, lt)) in
        let next = along (length nodes + (put_below r.inserts n + j)) w.1.0 w.0 earlier w.1.1 in
        elim w.2 [
          | inl l ↦ let is : w.0 ≡ length nodes + (put_below r.inserts n + suc j) = omega (arith, l.1) in subst (Reached raw) is next
          | inr l ↦ absurd (omega (arith, l.0, lt))
        ]

    -- from its entry a node is reached
    node_reached : (n : ℕ) → n < length nodes → Reached raw (to n) → Reached raw n
    node_reached n below at = elim (entry_is r.inserts (length nodes) n) [
      | inl e ↦ subst (Reached raw) e.1 at
      | inr e ↦
          let last = length (r.inserts n) - 1 in
          let within : last < length (r.inserts n) = omega (arith, e.0) in
          let earlier = chain_reached n last below within at in
          let w = new_edge r nodes n last below within in
          elim w.2 [
            | inl l ↦ absurd (omega (arith, l.0, e.0))
            | inr l ↦ subst (Reached raw) l.1 (along (length nodes + (put_below r.inserts n + last)) w.1.0 w.0 earlier w.1.1)
          ]
    ]

    start_within : 0 < length nodes
    start_within = slice_get_within nodes 0 (Start is_graph.can.start.0) is_graph.can.start.1

    reached_within : (n : ℕ) → Reached nodes n → n < length nodes
    reached_within n at_start = start_within
    reached_within n (along m slot s reached edge) = (is_graph.can.succs m slot n edge).1

    entry_reached : (n : ℕ) → Reached nodes n → Reached raw (to n)
    entry_reached n at_start = subst (Reached raw) (sym start_entry) at_start
    entry_reached n (along m slot s reached edge) =
        along m slot (to n) (node_reached m (reached_within m reached) (entry_reached m reached)) (old_edge r nodes m slot n edge)

    pub rewritten_reached : (n : ℕ) → n < length (rewritten_nodes r graph.nodes)
        → Reached (rewritten_nodes r graph.nodes) n
    rewritten_reached n lt = elim (cases_lt n (length nodes)) [
      | inl old ↦ node_reached n old (entry_reached n (is_graph.reached n old))
      | inr ge ↦
          let place = place_found r.inserts (length nodes) (n - length nodes) (omega (arith, lt, ge, rewritten_length r nodes)) in
          let is : length nodes + (put_below r.inserts place.0 + place.1) ≡ n = omega (arith, place.3.is, ge) in
          subst (Reached raw) is (chain_reached place.0 place.1 place.2 place.3.within (entry_reached place.0 (is_graph.reached place.0 place.2)))
    ]

    pub rewritten_graph : IsGraph (rewritten r extra graph).vars (rewritten r extra graph).received (rewritten r extra graph).nodes
    rewritten_graph = record { can = rewritten_can is_graph.can; reached = rewritten_reached }

-- ---- calls

-- the new nodes call nothing, and the old ones call what they called
pub rewritten_calls : (r : Rewriting) (nodes : List Node) (called count : ℕ)
    → NodesCall (rewritten_nodes r nodes) called count → NodesCall nodes called count
rewritten_calls r nodes called count c = elim (node_at r nodes c.number c.node c.here) [
  | inl o ↦ record {
    number = c.number;
    node = o.old;
    here = o.was;
    calls = sym (ap node_call o.is ∙ redirected_call (entry r.inserts (length nodes)) (changed (r.changes c.number) o.old) ∙ changed_call (r.changes c.number) o.old) ∙ c.calls;
  }
  | inr w ↦ let none = sym (ap node_call w.is) ∙ c.calls in absurd (cc)
]
