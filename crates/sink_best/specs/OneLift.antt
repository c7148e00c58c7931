-- Over each path of a graph lies one of the graph after a sinking, by the same ways, and each path of that one lies over
-- one of these. For proofs only.
use Rattle.std.proofs.Common.{◌≡◌, ◌⊎◌, ◌+◌, ◌<◌, ℕ, zero, suc, false, List, [], ◌∷◌, ◌++◌, length, flat_map, slice_get, Option, Some, inl, inr, refl, sym, ap, ◌∙◌, subst, arith, append_assoc}
use Rattle.std.proofs.lemmas.Bool.{cases_Bool, true≢false}
use Rattle.mir_base.specs.declared.instructions.Rhs.{Rhs}
use Rattle.flow_graph.specs.declared.nodes.Node.{Node}
use Rattle.flow_graph.specs.BoundLaws.{edge_within}
use Rattle.flow_graph.specs.Graphs.{GraphShape, IsGraph}
use Rattle.flow_graph.specs.ListLaws.{some_at}
use Rattle.flow_graph.specs.Paths.{HasEdge, Trace, from_start, goes_on}
use Rattle.flow_graph.specs.Retained.{redirected}
use Rattle.graph_edit.specs.ChangeLaws.{changed_not}
use Rattle.graph_edit.specs.InsertionGraphs.{start_entry}
use Rattle.graph_edit.specs.InsertionNodes.{edge_cases, entry_is, new_edge, old_edge, old_get}
use Rattle.graph_edit.specs.Insertions.{Insertion, Rewriting, Unchanged, changed, entry, put_below, rewritten, rewritten_nodes}
use Rattle.sink_rounds.specs.Steps.{IsSinking}
use Rattle.sink_rounds.specs.StepLaws.{step_fits}
use Rattle.path_images.specs.Ends.{IsEndOf, end_length, longer_length}
use Rattle.path_images.specs.Walks.{IsPlaced, lift_end}
use Rattle.path_images.specs.Sunk.{Where, at_node, in_chain, where_it_stands}
use Rattle.sink_best.specs.GraphWalks.{IsWalk, edge_single, firm_at, graph_does, walk_within}
use Rattle.sink_best.specs.Chains.{chain_before, down, down_at}
use Rattle.sink_best.specs.OneSinking.{chain, goes_away, gone_loose, in_it, is_old, is_removed, late_of, new_loose, one_sinking, pattern_does, same_firm, what}
use Rattle.sink_best.specs.Ways.{loose_way, redirected_way, with_way, ways_on}

-- an edge on from what stands before the last node of a path: to what stands there too, or to what stands first before
-- the next node
pub data Next (Walk : List ℕ → Type 0) (over : ℕ → List ℕ) (path : List ℕ) (k : ℕ) (rest : List ℕ)
    (to : ℕ) : Type 0 where
  stays : IsEndOf (to ∷ k ∷ rest) (flat_map over path) → Next Walk over path k rest to
  moves : (s : ℕ) → Walk (s ∷ path) → k ∷ rest ≡ flat_map over path
      → IsEndOf (to ∷ flat_map over path) (flat_map over (s ∷ path)) → Next Walk over path k rest to

-- so it is of each
abbrev pub LeadsOn : (List ℕ → Type 0) → (ℕ → List ℕ) → List Node → Type 0
LeadsOn Walk over nodes = (path : List ℕ) (k : ℕ) (rest : List ℕ) → Walk path
    → IsEndOf (k ∷ rest) (flat_map over path) → IsPlaced over (k ∷ rest) path → (to : ℕ)
    → HasEdge nodes k to → Next Walk over path k rest to

module _ (graph : GraphShape) (is_graph : IsGraph graph.vars graph.received graph.nodes) (r : Rewriting) (late : ℕ → ℕ → Option Rhs) (sinks : IsSinking graph r late) where
  abbrev raw : List Node
  raw = rewritten_nodes r graph.nodes

  abbrev to : ℕ → ℕ
  to = entry r.inserts (length graph.nodes)

  abbrev first : ℕ → ℕ
  first n = length graph.nodes + put_below r.inserts n

  abbrev many : ℕ → ℕ
  many n = length (r.inserts n)

  abbrev pub sunk_over : ℕ → List ℕ
  sunk_over n = n ∷ chain_before r graph.nodes n

  abbrev lift : List ℕ → List ℕ
  lift = flat_map sunk_over

  -- a path of the new graph that takes these ways
  pub record LiftedAt (takes : List ℕ → List ℕ) (k : ℕ) (before : List ℕ) : Type 0 where
    pub trace : Trace (rewritten_nodes r graph.nodes) k before
    pub ways : (l : List ℕ) → ways_on (rewritten_nodes r graph.nodes) k before trace l ≡ takes l

  chain_firm : (n j : ℕ) → j < many n → firm_at raw (first n + j) ≡ false
  chain_firm n j lt = new_loose graph is_graph r late sinks n (first n + j) (down (first n) j) (down_at (first n) (many n) j lt)

  chain_edge : (n j : ℕ) → n < length graph.nodes → j < many n
      → (s : ℕ) × HasEdge raw (first n + j) s × (((suc j < many n) × (s ≡ first n + suc j)) ⊎ ((suc j ≡ many n) × (s ≡ n)))
  chain_edge n j below lt =
      let w = new_edge r graph.nodes n j below lt in
      let sum : length graph.nodes + (put_below r.inserts n + j) ≡ first n + j = omega arith in
      (w.0, subst (λ m. HasEdge raw m w.0) sum w.1, w.2)

  along_chain : (takes : List ℕ → List ℕ) (n : ℕ) → n < length graph.nodes → (before : List ℕ)
      → LiftedAt takes (to n) before → (j : ℕ) → j < many n
      → LiftedAt takes (first n + j) (down (first n) j ++ before)
  along_chain takes n below before at zero lt = elim (entry_is r.inserts (length graph.nodes) n) [
    | inl none ↦ (let no = none.0 in absurd (omega (arith, no, lt)))
    | inr some ↦ (let is : to n ≡ first n + 0 = some.1 ∙ (let e : first n ≡ first n + 0 = omega arith in e) in subst (λ k. LiftedAt takes k before) is at)
  ]
  along_chain takes n below before at (suc j) lt =
      let less : j < many n = omega (arith, lt) in
      let earlier = along_chain takes n below before at j less in
      let edge = chain_edge n j below less in
      let leads : edge.0 ≡ first n + suc j = elim edge.2 [
        | inl on ↦ on.1
        | inr last ↦ (let e = last.0 in absurd (omega (arith, e, lt)))
      ] in
      let edge' : HasEdge raw (first n + j) (first n + suc j) = subst (HasEdge raw (first n + j)) leads edge.1 in
      record {
        trace = goes_on (first n + j) (first n + suc j) (down (first n) j ++ before) earlier.trace edge';
        ways = λ l. ap (ways_on raw (first n + j) (down (first n) j ++ before) earlier.trace) (loose_way (slice_get raw (first n + j)) edge'.0 l (chain_firm n j less)) ∙ earlier.ways l;
      }

  -- through the chain to its node
  to_node : (takes : List ℕ → List ℕ) (n : ℕ) → n < length graph.nodes → (before : List ℕ)
      → LiftedAt takes (to n) before → LiftedAt takes n (down (first n) (many n) ++ before)
  to_node takes n below before at = by (many n) refl
    where
      by : (c : ℕ) → many n ≡ c → LiftedAt takes n (down (first n) (many n) ++ before)
      by zero e = elim (entry_is r.inserts (length graph.nodes) n) [
        | inl none ↦ subst (λ c. LiftedAt takes n (down (first n) c ++ before)) (sym e) (subst (λ k. LiftedAt takes k before) none.1 at)
        | inr some ↦ (let lt = some.0 in absurd (omega (arith, lt, e)))
      ]
      by (suc c) e =
          let less : c < many n = omega (arith, e) in
          let earlier = along_chain takes n below before at c less in
          let edge = chain_edge n c below less in
          let leads : edge.0 ≡ n = elim edge.2 [
            | inl on ↦ (let lt = on.0 in absurd (omega (arith, lt, e)))
            | inr last ↦ last.1
          ] in
          let edge' : HasEdge raw (first n + c) n = subst (HasEdge raw (first n + c)) leads edge.1 in
          subst (λ k. LiftedAt takes n (down (first n) k ++ before)) (sym e) (record {
            trace = goes_on (first n + c) n (down (first n) c ++ before) earlier.trace edge';
            ways = λ l. ap (ways_on raw (first n + c) (down (first n) c ++ before) earlier.trace) (loose_way (slice_get raw (first n + c)) edge'.0 l (chain_firm n c less)) ∙ earlier.ways l;
          })

  same_way : (m : ℕ) → m < length graph.nodes → (slot : ℕ) (l : List ℕ) → with_way (slice_get raw m) slot l ≡ with_way (slice_get graph.nodes m) slot l
  same_way m lt slot l = elim (cases_Bool (is_removed (r.changes m))) [
    | inl gone ↦
        let loose = gone_loose graph is_graph r late sinks m gone in
        loose_way (slice_get raw m) slot l (same_firm graph is_graph r late sinks m ∙ loose) ∙ sym (loose_way (slice_get graph.nodes m) slot l loose)
    | inr kept ↦ elim (sinks.only m) [
      | inl unchanged ↦
          let node = some_at graph.nodes m lt in
          ap (λ o. with_way o slot l) (old_get r graph.nodes m node.0 node.1 ∙ ap (λ c. Some (redirected to (changed c node.0))) unchanged)
          ∙ redirected_way to (changed Unchanged node.0) slot l ∙ ap (λ k. with_way (Some k) slot l) (changed_not node.0) ∙ ap (λ o. with_way o slot l) (sym node.1)
      | inr both ↦ absurd (true≢false (sym (ap is_removed both.0) ∙ kept))
    ]
  ]

  -- over each path lies one by the same ways
  pub lifted : (n : ℕ) (before : List ℕ) (trace : Trace graph.nodes n before)
      → LiftedAt (ways_on graph.nodes n before trace) n (down (length graph.nodes + put_below r.inserts n) (length (r.inserts n)) ++ flat_map sunk_over before)
  lifted n before from_start = to_node (λ l. l) 0 (walk_within graph is_graph 0 [] from_start) [] (subst (λ k. LiftedAt (λ l. l) k []) (sym (start_entry r [] graph (step_fits graph is_graph r late sinks))) (record { trace = from_start; ways = λ l. refl }))
  lifted n before (goes_on m k earlier trace edge) =
      let below = lifted m earlier trace in
      to_node (ways_on graph.nodes n (m ∷ earlier) (goes_on m n earlier trace edge)) n (walk_within graph is_graph n (m ∷ earlier) (goes_on m n earlier trace edge)) (lift (m ∷ earlier)) (record {
        trace = goes_on m (to n) (down (first m) (many m) ++ lift earlier) below.trace (edge.0, old_edge r graph.nodes m edge.0 n edge.1);
        ways = λ l. below.ways (with_way (slice_get raw m) edge.0 l) ∙ ap (ways_on graph.nodes m earlier trace) (same_way m (edge_within graph.nodes m n edge) edge.0 l);
      })

  pub lifts : (path : List ℕ) → IsWalk graph.nodes path → IsWalk (rewritten_nodes r graph.nodes) (flat_map sunk_over path)
  lifts [] walk = walk
  lifts (n ∷ before) walk = (lifted n before walk).trace

  -- ---- and back

  pub data Ground (k : ℕ) (before : List ℕ) : Type 0 where
    on_node : (gb : List ℕ) → IsWalk graph.nodes (k ∷ gb)
        → before ≡ down (length graph.nodes + put_below r.inserts k) (length (r.inserts k)) ++ flat_map sunk_over gb
        → Ground k before
    before_node : (n j : ℕ) (gb : List ℕ) → IsWalk graph.nodes (n ∷ gb) → j < length (r.inserts n)
        → k ≡ (length graph.nodes + put_below r.inserts n) + j
        → before ≡ down (length graph.nodes + put_below r.inserts n) j ++ flat_map sunk_over gb → Ground k before

  entered : (s : ℕ) (gb : List ℕ) → IsWalk graph.nodes (s ∷ gb) → Ground (to s) (lift gb)
  entered s gb walk = elim (entry_is r.inserts (length graph.nodes) s) [
    | inl none ↦ subst (λ k. Ground k (lift gb)) (sym none.1) (on_node gb walk (ap (λ c. down (first s) c ++ lift gb) (sym none.0)))
    | inr some ↦ before_node s 0 gb walk some.0 (some.1 ∙ (let e : first s ≡ first s + 0 = omega arith in e)) refl
  ]

  pub ground : (k : ℕ) (before : List ℕ) → Trace (rewritten_nodes r graph.nodes) k before → Ground k before
  ground k before from_start = subst (λ n. Ground n []) (start_entry r [] graph (step_fits graph is_graph r late sinks)) (entered 0 [] from_start)
  ground k before (goes_on m k' earlier trace edge) = by (ground m earlier trace)
    where
      by : Ground m earlier → Ground k (m ∷ earlier)
      by (on_node gb walk is) = elim (edge_cases r graph.nodes m edge.0 k edge.1) [
        | inl old ↦ subst (λ b. Ground k (m ∷ b)) (sym is) (subst (λ n. Ground n (lift (m ∷ gb))) old.is (entered old.target (m ∷ gb) (goes_on m old.target gb walk (edge.0, old.edge))))
        | inr w ↦ (let at = w.new.at in let lt = walk_within graph is_graph m gb walk in absurd (omega (arith, at, lt)))
      ]
      by (before_node n j gb walk lt at is) =
          let below = walk_within graph is_graph n gb walk in
          let edge_n = chain_edge n j below lt in
          let leads : k ≡ edge_n.0 = edge_single raw k edge_n.0 m edge (subst (λ a. HasEdge raw a edge_n.0) (sym at) edge_n.1) (ap (firm_at raw) at ∙ chain_firm n j lt) in
          let whole : m ∷ earlier ≡ down (first n) (suc j) ++ lift gb = ap (λ a. a ∷ earlier) at ∙ ap (λ b. (first n + j) ∷ b) is in
          elim edge_n.2 [
            | inl on ↦ before_node n (suc j) gb walk on.0 (leads ∙ on.1) whole
            | inr last ↦
                let same : k ≡ n = leads ∙ last.1 in
                on_node gb (subst (λ a. IsWalk graph.nodes (a ∷ gb)) (sym same) walk) (whole ∙ ap (λ c. down (first n) c ++ lift gb) last.0 ∙ ap (λ a. down (first a) (many a) ++ lift gb) (sym same))
          ]

  -- a path to an old node lies over one
  pub grounded : (n : ℕ) (before : List ℕ) → n < length graph.nodes
      → IsWalk (rewritten_nodes r graph.nodes) (n ∷ before)
      → (gb : List ℕ) × IsWalk graph.nodes (n ∷ gb) × (n ∷ before ≡ flat_map sunk_over (n ∷ gb))
  grounded n before lt walk = by (ground n before walk)
    where
      by : Ground n before → (gb : List ℕ) × IsWalk graph.nodes (n ∷ gb) × (n ∷ before ≡ lift (n ∷ gb))
      by (on_node gb w is) = (gb, w, ap (λ b. n ∷ b) is)
      by (before_node m j gb w less at is) = absurd (omega (arith, at, lt))

  -- ---- along an edge

  whole_part : (n k : ℕ) (rest before path : List ℕ) → IsPlaced sunk_over (k ∷ rest) path → IsEndOf (n ∷ before) path
      → IsEndOf (k ∷ rest) (lift (n ∷ before)) → path ≡ n ∷ before
  whole_part n k rest before path placed part at = by part.0 part.1
    where
      by : (f : List ℕ) → path ≡ f ++ (n ∷ before) → path ≡ n ∷ before
      by [] e = e
      by (h ∷ f) e =
          let longer = longer_length (k ∷ rest) (lift (f ++ (n ∷ before))) (placed h (f ++ (n ∷ before)) e) in
          let low = end_length (k ∷ rest) (lift (f ++ (n ∷ before))) (lift_end sunk_over (k ∷ rest) (n ∷ before) (f ++ (n ∷ before)) (f, refl) at) in
          absurd (omega (arith, longer, low))

  enters_at : (s k : ℕ) (path : List ℕ) → to s ≡ k → IsEndOf (k ∷ lift path) (lift (s ∷ path))
  enters_at s k path is = elim (entry_is r.inserts (length graph.nodes) s) [
    | inl none ↦ ([], ap (λ c. s ∷ (down (first s) c ++ lift path)) none.0 ∙ ap (λ a. a ∷ lift path) (sym none.1 ∙ is))
    | inr some ↦
        let at = down_at (first s) (many s) 0 some.0 in
        let k_is : first s + 0 ≡ k = (let e : first s + 0 ≡ first s = omega arith in e) ∙ sym some.1 ∙ is in
        (s ∷ at.0, ap (λ l. s ∷ (l ++ lift path)) at.1 ∙ ap (λ l. s ∷ l) (append_assoc at.0 ((first s + 0) ∷ []) (lift path)) ∙ ap (λ a. s ∷ (at.0 ++ (a ∷ lift path))) k_is)
  ]

  pub one_onward : LeadsOn (IsWalk graph.nodes) sunk_over (rewritten_nodes r graph.nodes)
  one_onward path k rest walk at placed to' edge = by (where_it_stands (Insertion) (IsWalk graph.nodes) (graph_does graph) pattern_does (is_old graph is_graph r late sinks) (goes_away graph is_graph r late sinks) (late_of graph is_graph r late sinks) (chain graph is_graph r late sinks) (what graph is_graph r late sinks) (graph_does (rewritten r [] graph)) (one_sinking graph is_graph r late sinks) k rest path at)
    where
      by : Where Insertion (IsWalk graph.nodes) (graph_does graph) pattern_does (is_old graph is_graph r late sinks) (goes_away graph is_graph r late sinks) (late_of graph is_graph r late sinks) (chain graph is_graph r late sinks) (what graph is_graph r late sinks) (graph_does (rewritten r [] graph)) (one_sinking graph is_graph r late sinks) k rest path
          → Next (IsWalk graph.nodes) sunk_over path k rest to'
      by (at_node before part is) =
          let path_is = whole_part k k rest before path placed part ([], ap (λ l. k ∷ l) (sym is)) in
          let walk_k : IsWalk graph.nodes (k ∷ before) = subst (IsWalk graph.nodes) path_is walk in
          elim (edge_cases r graph.nodes k edge.0 to' edge.1) [
            | inl old ↦ moves old.target (subst (λ p. IsWalk graph.nodes (old.target ∷ p)) (sym path_is) (goes_on k old.target before walk_k (edge.0, old.edge))) (ap (λ l. k ∷ l) is ∙ ap lift (sym path_is)) (enters_at old.target to' path old.is)
            | inr w ↦ (let there = w.new.at in let lt = walk_within graph is_graph k before walk_k in absurd (omega (arith, there, lt)))
          ]
      by (in_chain n before crest part at_c is) =
          let inside : IsEndOf (k ∷ rest) (lift (n ∷ before)) = (n ∷ at_c.0, ap (λ l. n ∷ (l ++ lift before)) at_c.1 ∙ ap (λ l. n ∷ l) (append_assoc at_c.0 (k ∷ crest) (lift before)) ∙ ap (λ l. n ∷ (at_c.0 ++ (k ∷ l))) (sym is)) in
          let path_is = whole_part n k rest before path placed part inside in
          let i = in_it graph is_graph r late sinks n k crest at_c in
          let edge_n = chain_edge n i.j i.below i.within in
          let leads : to' ≡ edge_n.0 = edge_single raw to' edge_n.0 k edge (subst (λ a. HasEdge raw a edge_n.0) (sym i.at) edge_n.1) (new_loose graph is_graph r late sinks n k crest at_c) in
          let chain_is : down (first n) (suc i.j) ≡ k ∷ crest = ap (λ a. a ∷ down (first n) i.j) (sym i.at) ∙ ap (λ l. k ∷ l) (sym i.before) in
          elim edge_n.2 [
            | inl on ↦
                let up = down_at (first n) (many n) (suc i.j) on.0 in
                let up_is : down (first n) (many n) ≡ up.0 ++ (to' ∷ k ∷ crest) = up.1 ∙ ap (λ a. up.0 ++ (a ∷ down (first n) (suc i.j))) (sym (leads ∙ on.1)) ∙ ap (λ l. up.0 ++ (to' ∷ l)) chain_is in
                let end : IsEndOf (to' ∷ k ∷ rest) (lift (n ∷ before)) = (n ∷ up.0, ap (λ l. n ∷ (l ++ lift before)) up_is ∙ ap (λ l. n ∷ l) (append_assoc up.0 (to' ∷ k ∷ crest) (lift before)) ∙ ap (λ l. n ∷ (up.0 ++ (to' ∷ k ∷ l))) (sym is)) in
                stays (subst (λ p. IsEndOf (to' ∷ k ∷ rest) (lift p)) (sym path_is) end)
            | inr last ↦
                let same : to' ≡ n = leads ∙ last.1 in
                let whole : lift (n ∷ before) ≡ to' ∷ k ∷ rest = ap (λ c. n ∷ (down (first n) c ++ lift before)) (sym last.0) ∙ ap (λ l. n ∷ (l ++ lift before)) chain_is ∙ ap (λ a. a ∷ k ∷ (crest ++ lift before)) (sym same) ∙ ap (λ l. to' ∷ k ∷ l) (sym is) in
                stays (subst (λ p. IsEndOf (to' ∷ k ∷ rest) (lift p)) (sym path_is) ([], whole))
          ]
