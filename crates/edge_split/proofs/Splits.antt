-- The nodes of the split graph: a graph can be made of them, they are split, all of them are reached, and they do the
-- same as the old nodes.
use Rattle.std.proofs.Common.{◌≡◌, ℕ, zero, suc, ◌+◌, ◌-◌, ◌<◌, ◌≤◌, Bool, true, false, cond, List, [], ◌∷◌, ◌++◌, length, map, slice_get, Option, Some, None, option_map, ◌⊎◌, inl, inr, refl, sym, ap, ◌∙◌, subst, arith, length-append, append-nil}
use Rattle.flow_graph.specs.ListLaws.{get_append, get_left_some, get_right}
use Rattle.std.specs.Prelude.{filter}
use Rattle.std.proofs.lemmas.Bool.{cases_lt, ltb-false}
use Rattle.std.proofs.lemmas.Grind.{flat_map-append}
use Rattle.std.proofs.lemmas.List.{length-map}
use Rattle.std.proofs.lemmas.List.Elements.{filter-append}
use Rattle.std.proofs.lemmas.Option.{slice_get-map, slice_get_within}
use Rattle.mir_base.specs.Shapes.{AllBelow}
use Rattle.mir_base.specs.UnitRuns.{UnitSame, UnitCheaper}
use Rattle.flow_graph.specs.declared.edges.Edge.{Edge}
use Rattle.flow_graph.specs.declared.nodes.Node.{Node}
use Rattle.flow_graph.specs.declared.nodes.Node.TheVariants.{Start, Skip}
use Rattle.flow_graph.specs.NodeLaws.{mapped_from}
use Rattle.flow_graph.specs.Calls.{NodesCall, node_call}
use Rattle.flow_graph.specs.EdgeLaws.{pred_is}
use Rattle.flow_graph.specs.Edges.{edges_from, preds_of, IsSplit}
use Rattle.flow_graph.specs.Graphs.{GraphShape, node_succs, node_vars, succs_of, IsEdge, Reached, at_start, along, CanMake, IsGraph}
use Rattle.flow_graph.specs.Machines.{graph_machine, machine_of}
use Rattle.flow_graph.specs.Paths.{HasEdge}
use Rattle.flow_graph.specs.PredLaws.{skip_once}
use Rattle.node_list.specs.Lists.{times_in}
use Rattle.edge_split.specs.Split.{IsEdgeSplit, is_join, through_skips, with_succs, rerouted, split_nodes}
use Rattle.edge_split.proofs.Targets.{edge_target, targets, edges_targets, edge_place, place_edge, preds_times}
use Rattle.edge_split.proofs.Through.{with_vars, with_call, with_start, was_start, with_through, rerouted_targets, rerouted_long, in_through, through_new, AllUnder, old_times, new_once, joins_none}
use Rattle.edge_split.proofs.Passing.{Way, Ways, Passes, passes_same, passes_cheaper}
use Rattle.node_list.specs.ListedLaws.{times_in_append}

-- ---- the new Skips by target

-- the nodes of the split graph, with the new Skips by the targets that are joins
abbrev after : List Node → List Node
after nodes = rerouted (is_join nodes) (length nodes) nodes ++ map Skip (filter (is_join nodes) (targets nodes))

-- choosing edges by their targets is choosing among the targets
skips_of : (join : ℕ → Bool) (edges : List Edge) → map (λ (edge : Edge). Skip edge.target) (filter (λ (edge : Edge). join edge.target) edges) ≡ map Skip (filter join (map edge_target edges))
skips_of join [] = refl
skips_of join (edge ∷ edges) = chosen (join edge.target) (skips_of join edges)
  where
    chosen : (b : Bool) → map (λ (edge : Edge). Skip edge.target) (filter (λ (edge : Edge). join edge.target) edges) ≡ map Skip (filter join (map edge_target edges)) → map (λ (edge : Edge). Skip edge.target) (cond b (edge ∷ filter (λ (edge : Edge). join edge.target) edges) (filter (λ (edge : Edge). join edge.target) edges)) ≡ map Skip (cond b (edge.target ∷ filter join (map edge_target edges)) (filter join (map edge_target edges)))
    chosen true e = ap (λ l. Skip edge.target ∷ l) e
    chosen false e = e

-- so the split graph is the one above
split_is : (nodes : List Node) → split_nodes nodes ≡ after nodes
split_is nodes = ap (λ l. rerouted (is_join nodes) (length nodes) nodes ++ l) (skips_of (is_join nodes) (edges_from 0 nodes) ∙ ap (λ ts. map Skip (filter (is_join nodes) ts)) (edges_targets 0 nodes))

-- the target of a new Skip is the one it was made for
skips_targets : (ts : List ℕ) → targets (map Skip ts) ≡ ts
skips_targets [] = refl
skips_targets (t ∷ ts) = ap (λ l. t ∷ l) (skips_targets ts)

-- what a filter keeps stood in the list
in_filter : (join : ℕ → Bool) (ts : List ℕ) (j s : ℕ) → slice_get (filter join ts) j ≡ Some s → (i : ℕ) × (slice_get ts i ≡ Some s)
in_filter join [] j s e = cc
in_filter join (t ∷ ts) j s e = chosen (join t) j e (λ i. in_filter join ts i s)
  where
    chosen : (b : Bool) (j : ℕ) → slice_get (cond b (t ∷ filter join ts) (filter join ts)) j ≡ Some s → ((j : ℕ) → slice_get (filter join ts) j ≡ Some s → (i : ℕ) × (slice_get ts i ≡ Some s)) → (i : ℕ) × (slice_get (t ∷ ts) i ≡ Some s)
    chosen true zero e later = (0, e)
    chosen true (suc j) e later = let r = later j e in (suc r.0, r.1)
    chosen false j e later = let r = later j e in (suc r.0, r.1)

-- ---- old nodes

-- a node of the first part was an old node
was_old : (join : ℕ → Bool) (nodes : List Node) (k n : ℕ) (node' : Node) → slice_get (rerouted join k nodes) n ≡ Some node' → (node : Node) × (us : List ℕ) × (slice_get nodes n ≡ Some node) × (node' ≡ with_succs node us)
was_old join [] k n node' e = cc
was_old join (node ∷ nodes) k zero node' e = (node, through_skips join k (node_succs node), refl, cc)
was_old join (node ∷ nodes) k (suc n) node' e = was_old join nodes _ n node' e

-- from number k on, the result has a Skip to each of these
abbrev Stand : List Node → ℕ → List ℕ → Type 0
Stand result k ts = (j s : ℕ) → slice_get ts j ≡ Some s → slice_get result (k + j) ≡ Some (Skip s)

module _ (result : List Node) (join : ℕ → Bool) where
  stand_front : (k : ℕ) (xs ys : List ℕ) → Stand result k (xs ++ ys) → Stand result k xs
  stand_front k xs ys stand j s e = stand j s (get_left_some xs ys j s e)

  stand_back : (k : ℕ) (xs ys : List ℕ) → Stand result k (xs ++ ys) → Stand result (k + length xs) ys
  stand_back k xs ys stand j s e =
      let sum : k + (length xs + j) ≡ k + length xs + j = omega arith in
      ap (slice_get result) (sym sum) ∙ stand (length xs + j) s (get_right xs ys j ∙ e)

  through_ways : (ts : List ℕ) (k : ℕ) → Stand result k (filter join ts) → Ways result (through_skips join k ts) ts
  through_ways [] k stand = tt
  through_ways (t ∷ ts) k stand = chosen (join t) stand (through_ways ts (suc k)) (through_ways ts k)
    where
      chosen : (b : Bool) → Stand result k (cond b (t ∷ filter join ts) (filter join ts)) → (Stand result (suc k) (filter join ts) → Ways result (through_skips join (suc k) ts) ts) → (Stand result k (filter join ts) → Ways result (through_skips join k ts) ts) → Ways result (cond b (k ∷ through_skips join (suc k) ts) (t ∷ through_skips join k ts)) (t ∷ ts)
      chosen true stand later here =
          let first : k ≡ k + 0 = omega arith in
          (inr (ap (slice_get result) first ∙ stand 0 t refl), later (λ j s e. let sum : suc k + j ≡ k + suc j = omega arith in ap (slice_get result) sum ∙ stand (suc j) s e))
      chosen false stand later here = (inl refl, here stand)

  -- an old node has ways to its successors
  old_ways : (nodes : List Node) (k m : ℕ) (node : Node) → Stand result k (filter join (targets nodes)) → slice_get nodes m ≡ Some node → (first : ℕ) × (slice_get (rerouted join k nodes) m ≡ Some (with_succs node (through_skips join first (node_succs node)))) × Ways result (through_skips join first (node_succs node)) (node_succs node)
  old_ways [] k m node stand here = cc
  old_ways (x ∷ nodes) k zero node stand here =
      let same : x ≡ node = cc in
      let parts = subst (Stand result k) (filter-append join (node_succs x) (targets nodes)) stand in
      subst (λ y. (first : ℕ) × (slice_get (rerouted join k (x ∷ nodes)) 0 ≡ Some (with_succs y (through_skips join first (node_succs y)))) × Ways result (through_skips join first (node_succs y)) (node_succs y)) same
      (k, refl, through_ways (node_succs x) k (stand_front k (filter join (node_succs x)) (filter join (targets nodes)) parts))
  old_ways (x ∷ nodes) k (suc m) node stand here =
      let parts = subst (Stand result k) (filter-append join (node_succs x) (targets nodes)) stand in
      old_ways nodes (k + length (filter join (node_succs x))) m node (stand_back k (filter join (node_succs x)) (filter join (targets nodes)) parts) here

-- the new successor in a slot has a way to the old one of that slot
ways_slot : (result : List Node) (us ts : List ℕ) (slot t : ℕ) → Ways result us ts → slice_get ts slot ≡ Some t → (u : ℕ) × (slice_get us slot ≡ Some u) × Way result u t
ways_slot result [] [] slot t ways e = cc
ways_slot result [] (s ∷ ts) slot t ways e = absurd ways
ways_slot result (u ∷ us) [] slot t ways e = cc
ways_slot result (u ∷ us) (s ∷ ts) zero t ways e = let same : s ≡ t = cc in (u, refl, subst (Way result u) same ways.0)
ways_slot result (u ∷ us) (s ∷ ts) (suc slot) t ways e = ways_slot result us ts slot t ways.1 e

-- what has successors is a node
some_node : (o : Option Node) (slot s : ℕ) → slice_get (succs_of o) slot ≡ Some s → (node : Node) × (o ≡ Some node) × (slice_get (node_succs node) slot ≡ Some s)
some_node None slot s e = cc
some_node (Some node) slot s e = (node, refl, e)

-- ---- the split graph

module _ (shared : ℕ) (vars : List (List ℕ)) (received : List ℕ) (nodes : List Node) (graph : IsGraph vars received nodes) where
  abbrev join : ℕ → Bool
  join = is_join nodes

  abbrev olds : List Node
  olds = rerouted (is_join nodes) (length nodes) nodes

  abbrev joins : List ℕ
  joins = filter (is_join nodes) (targets nodes)

  some : 0 < length nodes
  some = slice_get_within nodes 0 _ graph.can.start.1

  after_long : length (after nodes) ≡ length nodes + length joins
  after_long = length-append olds (map Skip joins) ∙ omega (arith, rerouted_long join (length nodes) nodes, length-map joins Skip)

  after_targets : targets (after nodes) ≡ through_skips join (length nodes) (targets nodes) ++ joins
  after_targets =
      flat_map-append node_succs olds (map Skip joins)
      ∙ ap (λ l. l ++ targets (map Skip joins)) (rerouted_targets join nodes (length nodes))
      ∙ ap (λ l. through_skips join (length nodes) (targets nodes) ++ l) (skips_targets joins)

  -- targets are nodes, but not node 0
  target_in : (i t : ℕ) → slice_get (targets nodes) i ≡ Some t → (1 ≤ t) × (t < length nodes)
  target_in i t e = let p = place_edge nodes i t e in graph.can.succs p.0 p.1.0 t p.1.1

  under : AllUnder (length nodes) (targets nodes)
  under i t e = (target_in i t e).1

  -- a node of the split graph is an old one with other successors, or a new Skip
  after_node : (n : ℕ) (node' : Node) → slice_get (after nodes) n ≡ Some node' → ((node : Node) × (us : List ℕ) × (slice_get nodes n ≡ Some node) × (node' ≡ with_succs node us)) ⊎ ((t : ℕ) × (node' ≡ Skip t))
  after_node n node' e = elim (get_append olds (map Skip joins) n node' e) [
    | inl old ↦ inl (was_old join nodes (length nodes) n node' old)
    | inr new ↦ let p = mapped_from Skip (slice_get joins new.0) node' (sym (slice_get-map Skip joins new.0) ∙ new.2) in inr (p.0, sym p.2)
  ]

  -- an edge of the split graph leads to a new Skip or to an old target
  after_edge : (m slot s : ℕ) → IsEdge (after nodes) m slot s → ((length nodes ≤ s) × (s < length (after nodes))) ⊎ ((i : ℕ) × (slice_get (targets nodes) i ≡ Some s))
  after_edge m slot s edge =
      let p = edge_place (after nodes) m slot s edge in
      elim (get_append (through_skips join (length nodes) (targets nodes)) joins p.0 s (ap (λ l. slice_get l p.0) (sym after_targets) ∙ p.1)) [
        | inl to ↦ elim (in_through join (targets nodes) (length nodes) p.0 s to) [
          | inl new ↦ inl (new.0, omega (arith, new.1, after_long))
          | inr old ↦ inr (p.0, old.1)
        ]
        | inr from ↦ inr (in_filter join (targets nodes) from.0 s from.2)
      ]

  -- the new Skips stand behind the old nodes
  stand : Stand (after nodes) (length nodes) joins
  stand j s e =
      let place : length nodes + j ≡ length olds + j = omega (arith, rerouted_long join (length nodes) nodes) in
      ap (slice_get (after nodes)) place ∙ get_right olds (map Skip joins) j ∙ slice_get-map Skip joins j ∙ ap (option_map Skip) e

  can_make : CanMake vars received (after nodes)
  can_make = record {
    start =
        let old = old_ways (after nodes) join nodes (length nodes) 0 (Start graph.can.start.0) stand graph.can.start.1 in
        let start = with_start graph.can.start.0 (through_skips join old.0 (graph.can.start.0 ∷ [])) in
        (start.0, get_left_some olds (map Skip joins) 0 _ old.1 ∙ ap Some start.1);
    only = λ n s e. elim (after_node n (Start s) e) [
      | inl old ↦ let start = was_start old.0 old.1 s (sym old.3) in graph.can.only n start.0 (old.2 ∙ ap Some start.1)
      | inr new ↦ let both : Start s ≡ Skip new.0 = new.1 in cc
    ];
    succs = λ m slot s edge. elim (after_edge m slot s edge) [
      | inl new ↦ (omega (arith, new.0, some), new.1)
      | inr old ↦ let low = target_in old.0 s old.1 in (low.0, omega (arith, low.1, after_long))
    ];
    below = λ n node e.
        elim (after_node n node e) [
          | inl old ↦ subst (AllBelow (length vars)) (sym (ap node_vars old.3 ∙ with_vars old.0 old.1)) (graph.can.below n old.0 old.2)
          | inr new ↦ subst (λ x. AllBelow (length vars) (node_vars x)) (sym new.1) tt
        ];
    received_below = graph.can.received_below;
    received_differ = graph.can.received_differ;
    names = graph.can.names;
  }

  -- ---- split

  -- an old node that is entered more than once in the split graph is a join, and a new Skip is entered once at most
  after_times : (s : ℕ) → length (preds_of (after nodes) s) ≡ times_in s (through_skips join (length nodes) (targets nodes)) + times_in s joins
  after_times s = preds_times (after nodes) s ∙ ap (times_in s) after_targets ∙ times_in_append s (through_skips join (length nodes) (targets nodes)) joins

  old_preds : (s : ℕ) → s < length nodes → length (preds_of (after nodes) s) ≡ length (preds_of nodes s)
  old_preds s lt = after_times s ∙ old_times join s (targets nodes) (length nodes) lt ∙ sym (preds_times nodes s)

  new_preds : (s : ℕ) → length nodes ≤ s → length (preds_of (after nodes) s) ≤ 1
  new_preds s le = omega (arith, after_times s, new_once join s (targets nodes) (length nodes) (length nodes) under le, joins_none join s (targets nodes) (length nodes) under le)

  -- so an old node does not lead there
  not_from_old : (m slot s : ℕ) → 1 < length (preds_of (after nodes) s) → IsEdge olds m slot s → ⊥
  not_from_old m slot s many edge =
      let p = edge_place olds m slot s edge in
      elim (in_through join (targets nodes) (length nodes) p.0 s (ap (λ l. slice_get l p.0) (sym (rerouted_targets join nodes (length nodes))) ∙ p.1)) [
        | inl new ↦ omega (arith, many, new_preds s new.0)
        | inr old ↦ omega (arith, many, old_preds s (under p.0 s old.1), ltb-false 1 (length (preds_of nodes s)) old.0)
      ]

  entered_by_skip : (s n : ℕ) → 1 < length (preds_of (after nodes) s) → HasEdge (after nodes) n s → slice_get (after nodes) n ≡ Some (Skip s)
  entered_by_skip s n many edge =
      let node = some_node (slice_get (after nodes) n) edge.0 s edge.1 in
      elim (get_append olds (map Skip joins) n node.0 node.1) [
        | inl old ↦ absurd (not_from_old n edge.0 s many (ap (λ o. slice_get (succs_of o) edge.0) old ∙ node.2))
        | inr new ↦
            let p = mapped_from Skip (slice_get joins new.0) node.0 (sym (slice_get-map Skip joins new.0) ∙ new.2) in
            node.1 ∙ ap Some (sym p.2) ∙ ap (λ t. Some (Skip t)) (only_slot p.0 edge.0 (ap (λ x. slice_get (node_succs x) edge.0) p.2 ∙ node.2))
      ]
    where
      only_slot : (t slot : ℕ) → slice_get (t ∷ []) slot ≡ Some s → t ≡ s
      only_slot t zero e = cc
      only_slot t (suc slot) e = cc

  after_split : IsSplit (after nodes)
  after_split = record {
    by_skips = λ s i n lt many e. entered_by_skip s n many (pred_is (after nodes) s i n e);
    once = λ s i j n lt many e e'.
        let is = entered_by_skip s n many (pred_is (after nodes) s i n e) in
        let number : n ≡ 0 + n = omega arith in
        skip_once 0 s (after nodes) n s i j is (e ∙ ap Some number) (e' ∙ ap Some number);
  }

  -- ---- reached

  old_reached : (n : ℕ) → Reached nodes n → Reached (after nodes) n
  old_reached n at_start = at_start
  old_reached n (along m slot s r edge) =
      let node = some_node (slice_get nodes m) slot s edge in
      let old = old_ways (after nodes) join nodes (length nodes) m node.0 stand node.1 in
      let way = ways_slot (after nodes) (through_skips join old.0 (node_succs node.0)) (node_succs node.0) slot s old.2 node.2 in
      let to : Reached (after nodes) way.0 = along m slot way.0 (old_reached m r) (ap (λ o. slice_get (succs_of o) slot) (get_left_some olds (map Skip joins) m _ old.1) ∙ ap (λ l. slice_get l slot) (with_through join old.0 node.0) ∙ way.1) in
      elim way.2 [
        | inl same ↦ subst (Reached (after nodes)) same to
        | inr skip ↦ along way.0 0 s to (ap (λ o. slice_get (succs_of o) 0) skip)
      ]

  new_reached : (j : ℕ) → j < length joins → Reached (after nodes) (length nodes + j)
  new_reached j lt =
      let t = through_new join (targets nodes) (length nodes) j lt in
      let p = place_edge olds t.0 (length nodes + j) (ap (λ l. slice_get l t.0) (rerouted_targets join nodes (length nodes)) ∙ t.1) in
      let node = some_node (slice_get olds p.0) p.1.0 (length nodes + j) p.1.1 in
      let low : p.0 < length nodes = omega (arith, slice_get_within olds p.0 node.0 node.1, rerouted_long join (length nodes) nodes) in
      along p.0 p.1.0 (length nodes + j) (old_reached p.0 (graph.reached p.0 low)) (ap (λ o. slice_get (succs_of o) p.1.0) (get_left_some olds (map Skip joins) p.0 node.0 node.1) ∙ node.2)

  all_reached : (n : ℕ) → n < length (after nodes) → Reached (after nodes) n
  all_reached n lt = elim (cases_lt n (length nodes)) [
    | inl old ↦ old_reached n (graph.reached n old)
    | inr new ↦
        let sum : length nodes + (n - length nodes) ≡ n = omega (arith, new) in
        subst (Reached (after nodes)) sum (new_reached (n - length nodes) (omega (arith, lt, new, after_long)))
  ]

  -- ---- the same

  passes : Passes nodes (after nodes)
  passes = record {
    some = some;
    within = λ m slot s edge. (graph.can.succs m slot s edge).1;
    olds = λ m node here.
        let old = old_ways (after nodes) join nodes (length nodes) m node stand here in
        (through_skips join old.0 (node_succs node), get_left_some olds (map Skip joins) m _ old.1, old.2);
  }

  after_same : UnitSame (graph_machine shared received nodes) (graph_machine shared received (after nodes))
  after_same = passes_same shared received nodes (after nodes) passes

  after_cheaper : UnitCheaper (graph_machine shared received nodes) (graph_machine shared received (after nodes))
  after_cheaper = passes_cheaper shared received nodes (after nodes) passes

  after_calls : (called count : ℕ) → NodesCall (after nodes) called count → NodesCall nodes called count
  after_calls called count c = elim (after_node c.number c.node c.here) [
    | inl old ↦ record { number = c.number; node = old.0; here = old.2; calls = sym (ap node_call old.3 ∙ with_call old.0 old.1) ∙ c.calls }
    | inr new ↦ let none : ◌≡◌ {A = Option (ℕ × ℕ)} None (Some (called, count)) = sym (ap node_call new.1) ∙ c.calls in absurd (cc)
  ]

-- ---- the theorem

module _ (graph : GraphShape) (is_graph : IsGraph graph.vars graph.received graph.nodes) where
  pub split_can_make : CanMake graph.vars graph.received (split_nodes graph.nodes)
  split_can_make = subst (CanMake graph.vars graph.received) (sym (split_is graph.nodes)) (can_make graph.shared graph.vars graph.received graph.nodes is_graph)

  pub split_reached : (n : ℕ) → n < length (split_nodes graph.nodes) → Reached (split_nodes graph.nodes) n
  split_reached = subst (λ ns. (n : ℕ) → n < length ns → Reached ns n) (sym (split_is graph.nodes)) (all_reached graph.shared graph.vars graph.received graph.nodes is_graph)

  module _ (made : GraphShape) (is : IsEdgeSplit graph made) where
    nodes_are : made.nodes ≡ after graph.nodes
    nodes_are = is.nodes_are ∙ split_is graph.nodes

    machine_is : graph_machine graph.shared graph.received (after graph.nodes) ≡ machine_of made
    machine_is = ap (graph_machine graph.shared graph.received) (sym nodes_are) ∙ ap (λ received. graph_machine graph.shared received made.nodes) (sym is.received_are) ∙ ap (λ shared. graph_machine shared made.received made.nodes) (sym is.shared_is)

    pub edge_split_splits : IsSplit made.nodes
    edge_split_splits = subst IsSplit (sym nodes_are) (after_split graph.shared graph.vars graph.received graph.nodes is_graph)

    pub edge_split_same : UnitSame (machine_of graph) (machine_of made)
    edge_split_same = subst (UnitSame (machine_of graph)) machine_is (after_same graph.shared graph.vars graph.received graph.nodes is_graph)

    pub edge_split_cheaper : UnitCheaper (machine_of graph) (machine_of made)
    edge_split_cheaper = subst (UnitCheaper (machine_of graph)) machine_is (after_cheaper graph.shared graph.vars graph.received graph.nodes is_graph)

    pub edge_split_calls : (called count : ℕ) → NodesCall made.nodes called count → NodesCall graph.nodes called count
    edge_split_calls called count calls = after_calls graph.shared graph.vars graph.received graph.nodes is_graph called count (subst (λ ns. NodesCall ns called count) nodes_are calls)

-- ---- while the nodes are made

-- once no old node is left, these are the nodes of the split graph
pub all_split : (nodes old made both : List Node) → both ≡ old ++ made → old ++ [] ≡ rerouted (is_join nodes) (length nodes) nodes → made ++ [] ≡ map Skip (filter (is_join nodes) (targets nodes)) → both ≡ split_nodes nodes
all_split nodes old made both is olds skips = is ∙ ap (λ l. l ++ made) (sym (append-nil old) ∙ olds) ∙ ap (λ l. rerouted (is_join nodes) (length nodes) nodes ++ l) (sym (append-nil made) ∙ skips) ∙ sym (split_is nodes)
