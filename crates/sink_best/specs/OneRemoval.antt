-- A removal of dead assignments is one as the laws of images ask. For proofs only.
use Rattle.std.proofs.Common.{◌≡◌, ◌+◌, ◌<◌, ◌≤◌, ℕ, Bool, true, false, nat_eq, if◌then◌else◌, List, [], ◌∷◌, ◌++◌, length, slice_get, Option, Some, None, option_map, inl, inr, refl, sym, ap, ◌∙◌, subst, arith, append-nil}
use Rattle.std.proofs.lemmas.Bool.{cases_Bool, cases_lt, eqb-true, true≢false}
use Rattle.std.proofs.lemmas.Option.{slice_get_past}
use Rattle.mir_base.specs.Shapes.{AllDiffer}
use Rattle.flow_graph.specs.declared.nodes.Node.{Node}
use Rattle.flow_graph.specs.declared.nodes.Node.TheVariants.{Assign, Skip}
use Rattle.flow_graph.specs.Graphs.{GraphShape, IsGraph}
use Rattle.flow_graph.specs.NodeLaws.{redirected_none}
use Rattle.flow_graph.specs.Paths.{HasEdge, Trace, from_start, goes_on}
use Rattle.graph_edit.specs.Accesses.{assigns_at, reads_at}
use Rattle.graph_edit.specs.ChangeLaws.{changed_not}
use Rattle.graph_edit.specs.InsertionGraphs.{rewritten_graph}
use Rattle.graph_edit.specs.Insertions.{CanRewrite, ChangeBelow, Insertion, changed, rewritten_nodes}
use Rattle.dead_code.specs.Liveness.{IsLiveAfter, IsLiveBefore}
use Rattle.dead_code.specs.Pruned.{IsDeadAt, pruned_from, removed_if}
use Rattle.dead_code.specs.PrunedLaws.{live_back, pruned_get, pruned_rewritten}
use Rattle.dead_code.specs.Removal.{removing}
use Rattle.sink_rounds.specs.Unpruned.{same_succs}
use Rattle.path_images.specs.Ends.{IsEndOf, cons_first, latest, latest_end, latest_here, latest_past, latest_so}
use Rattle.path_images.specs.Images.{Ask, Is, Reads, Sets}
use Rattle.path_images.specs.Removed.{IsOneRemoval}
use Rattle.sink_best.specs.GraphWalks.{IsWalk, firm_at, graph_does, is_firm, last_edge, loose_assigns, node_does, walk_before, walk_shorter, walk_within}
use Rattle.sink_best.specs.OneSinking.{redirected_does}
use Rattle.sink_best.specs.Ways.{loose_way, with_way, ways_on}

-- ---- what is read

module _ (graph : GraphShape) (is_graph : IsGraph graph.vars graph.received graph.nodes) (y : ℕ) where
  live_along : (before : List ℕ) (k d : ℕ) (rest : List ℕ) → IsWalk graph.nodes (k ∷ before) → IsLiveBefore graph y k
      → latest (assigns_at graph y) before ≡ d ∷ rest → IsLiveAfter graph y d
  live_along [] k d rest walk live e = absurd (omega (arith, ap length e))
  live_along (m ∷ before) k d rest walk live e = elim (cases_Bool (assigns_at graph y m)) [
    | inl sets ↦
        let same : m ≡ d = cons_first m d before rest (sym (latest_here (assigns_at graph y) m before sets) ∙ e) in
        (k, subst (λ a. HasEdge graph.nodes a k) same (last_edge graph.nodes k m before walk), live)
    | inr not ↦ live_along before m d rest (walk_before graph.nodes k m before walk) (live_back graph y m k (last_edge graph.nodes k m before walk) not live) (sym (latest_past (assigns_at graph y) m before not) ∙ e)
  ]

  -- what a node of a walk reads is live behind the node that assigned it last
  pub read_is_live : (k : ℕ) (before : List ℕ) (d : ℕ) (rest : List ℕ) → IsWalk graph.nodes (k ∷ before)
      → reads_at graph y k ≡ true → latest (assigns_at graph y) before ≡ d ∷ rest → IsLiveAfter graph y d
  read_is_live k before d rest walk reads e = live_along before k d rest walk (record { path = k ∷ []; is_path = walk_within graph is_graph k before walk; begins = refl; ends = reads }) e

-- ---- the same node of a graph with other nodes

-- a node does the same in a graph with as many globals
same_does : (graph new : GraphShape) → new.shared ≡ graph.shared → (q : Ask Insertion) (node : Node)
    → node_does new q (Some node) ≡ node_does graph q (Some node)
same_does graph new same q node = ap (λ m. node_does new q (Some m)) (sym (redirected_none (λ s. s) node (λ slot s at. refl))) ∙ redirected_does graph new same q (λ s. s) node

-- where there is no node, nothing is done
none_does : (graph : GraphShape) (q : Ask Insertion) → node_does graph q None ≡ false
none_does graph (Reads y) = refl
none_does graph (Sets y) = refl
none_does graph (Is p) = refl

-- a Skip does nothing
skip_none : (graph : GraphShape) (q : Ask Insertion) (next : ℕ) → node_does graph q (Some (Skip next)) ≡ false
skip_none graph (Reads y) next = refl
skip_none graph (Sets y) next = refl
skip_none graph (Is p) next = refl

-- a number that is firm is that of a node
pub firm_within : (nodes : List Node) (n : ℕ) → firm_at nodes n ≡ true → n < length nodes
firm_within nodes n is = elim (cases_lt n (length nodes)) [
  | inl lt ↦ lt
  | inr ge ↦ absurd (true≢false (sym is ∙ ap is_firm (slice_get_past nodes n ge)))
]

module _ (graph : GraphShape) (is_graph : IsGraph graph.vars graph.received graph.nodes) (dead : ℕ → Bool) (dead_are : (n : ℕ) → n < length graph.nodes → dead n ≡ true → IsDeadAt graph n) where
  abbrev after : List Node
  after = pruned_from dead 0 graph.nodes

  abbrev pub pruned : GraphShape
  pruned = record graph { nodes = pruned_from dead 0 graph.nodes }

  pub pruned_at : (n : ℕ) → slice_get (pruned_from dead 0 graph.nodes) n ≡ option_map (changed (removed_if (dead n))) (slice_get graph.nodes n)
  pruned_at n = pruned_get dead graph.nodes 0 n ∙ ap (λ m. option_map (changed (removed_if (dead m))) (slice_get graph.nodes n)) (let none : 0 + n ≡ n = omega arith in none)

  -- a dead node is a Skip afterwards
  gone_skip : (n : ℕ) (d : IsDeadAt graph n) → dead n ≡ true → slice_get after n ≡ Some (Skip d.next)
  gone_skip n d is = pruned_at n ∙ ap (option_map (changed (removed_if (dead n)))) d.is ∙ ap (λ b. Some (changed (removed_if b) (Assign d.var d.rhs d.next))) is

  pub stays_same : (n : ℕ) → dead n ≡ false → slice_get (pruned_from dead 0 graph.nodes) n ≡ slice_get graph.nodes n
  stays_same n not = pruned_at n ∙ ap (λ b. option_map (changed (removed_if b)) (slice_get graph.nodes n)) not ∙ by (slice_get graph.nodes n)
    where
      by : (o : Option Node) → option_map (changed (removed_if false)) o ≡ o
      by None = refl
      by (Some node) = ap (λ (m : Node). Some m) (changed_not node)

  pub dead_loose : (n : ℕ) → IsDeadAt graph n → firm_at graph.nodes n ≡ false
  dead_loose n d = ap is_firm d.is ∙ d.sinkable

  -- past the nodes none stands
  past_none : (n : ℕ) → length graph.nodes ≤ n → slice_get after n ≡ None
  past_none n ge = pruned_at n ∙ ap (option_map (changed (removed_if (dead n)))) (slice_get_past graph.nodes n ge)

  -- what a node does afterwards
  pub removed_does : (q : Ask Insertion) (n : ℕ) → (if dead n then false else graph_does graph q n) ≡ graph_does pruned q n
  removed_does q n = elim (cases_lt n (length graph.nodes)) [
    | inr ge ↦ nothing (dead n) (ap (node_does graph q) (slice_get_past graph.nodes n ge) ∙ none_does graph q) ∙ sym (ap (node_does pruned q) (past_none n ge) ∙ none_does pruned q)
    | inl lt ↦ elim (cases_Bool (dead n)) [
      | inl is ↦ (let d = dead_are n lt is in ap (λ b. (if b then false else graph_does graph q n)) is ∙ sym (ap (node_does pruned q) (gone_skip n d is) ∙ skip_none pruned q d.next))
      | inr not ↦ ap (λ b. (if b then false else graph_does graph q n)) not ∙ sym (ap (node_does pruned q) (stays_same n not) ∙ alike (slice_get graph.nodes n))
    ]
  ]
    where
      nothing : (b : Bool) {x : Bool} → x ≡ false → (if b then false else x) ≡ false
      nothing true e = refl
      nothing false e = e

      alike : (o : Option Node) → node_does pruned q o ≡ node_does graph q o
      alike None = none_does pruned q ∙ sym (none_does graph q)
      alike (Some node) = same_does graph pruned refl q node

  pub removed_firm : (n : ℕ) → firm_at (pruned_from dead 0 graph.nodes) n ≡ firm_at graph.nodes n
  removed_firm n = elim (cases_lt n (length graph.nodes)) [
    | inr ge ↦ ap is_firm (past_none n ge) ∙ sym (ap is_firm (slice_get_past graph.nodes n ge))
    | inl lt ↦ elim (cases_Bool (dead n)) [
      | inl is ↦ (let d = dead_are n lt is in ap is_firm (gone_skip n d is) ∙ sym (dead_loose n d))
      | inr not ↦ ap is_firm (stays_same n not)
    ]
  ]

  -- ---- edges and paths

  pub edge_stays : (n s : ℕ) → HasEdge graph.nodes n s → HasEdge (pruned_from dead 0 graph.nodes) n s
  edge_stays n s edge = (edge.0, ap (λ l. slice_get l edge.0) (same_succs dead graph.nodes n) ∙ edge.1)

  pub edge_stood : (n s : ℕ) → HasEdge (pruned_from dead 0 graph.nodes) n s → HasEdge graph.nodes n s
  edge_stood n s edge = (edge.0, ap (λ l. slice_get l edge.0) (sym (same_succs dead graph.nodes n)) ∙ edge.1)

  same_way : (m slot : ℕ) (l : List ℕ) → with_way (slice_get after m) slot l ≡ with_way (slice_get graph.nodes m) slot l
  same_way m slot l = elim (cases_Bool (dead m)) [
    | inr not ↦ ap (λ o. with_way o slot l) (stays_same m not)
    | inl is ↦ elim (cases_lt m (length graph.nodes)) [
      | inr ge ↦ ap (λ o. with_way o slot l) (past_none m ge ∙ sym (slice_get_past graph.nodes m ge))
      | inl lt ↦ (let loose = dead_loose m (dead_are m lt is) in loose_way (slice_get after m) slot l (removed_firm m ∙ loose) ∙ sym (loose_way (slice_get graph.nodes m) slot l loose))
    ]
  ]

  -- a path stays, and takes the same ways
  pub record Stayed (n : ℕ) (before : List ℕ) (trace : Trace graph.nodes n before) : Type 0 where
    pub stayed : Trace (pruned_from dead 0 graph.nodes) n before
    pub ways : (l : List ℕ) → ways_on (pruned_from dead 0 graph.nodes) n before stayed l ≡ ways_on graph.nodes n before trace l

  pub path_stays : (n : ℕ) (before : List ℕ) (trace : Trace graph.nodes n before) → Stayed n before trace
  unfolding edge_stays
  path_stays n before from_start = record { stayed = from_start; ways = λ l. refl }
  path_stays n before (goes_on m k earlier trace edge) =
      let s = path_stays m earlier trace in
      record {
        stayed = goes_on m n earlier s.stayed (edge_stays m n edge);
        ways = λ l. s.ways (with_way (slice_get after m) edge.0 l) ∙ ap (ways_on graph.nodes m earlier trace) (same_way m edge.0 l);
      }

  pub path_stood : (n : ℕ) (before : List ℕ) → Trace (pruned_from dead 0 graph.nodes) n before → Trace graph.nodes n before
  path_stood n before from_start = from_start
  path_stood n before (goes_on m k earlier trace edge) = goes_on m n earlier (path_stood m earlier trace) (edge_stood m n edge)

  -- ---- it is a graph

  pub pruned_graph : IsGraph graph.vars graph.received (pruned_from dead 0 graph.nodes)
  pruned_graph =
      subst (λ l. IsGraph graph.vars graph.received l) (pruned_rewritten dead graph.nodes)
      (subst (λ v. IsGraph v graph.received (rewritten_nodes (removing (λ n. removed_if (dead n))) graph.nodes)) (append-nil graph.vars) (rewritten_graph (removing (λ n. removed_if (dead n))) [] graph fits is_graph))
    where
      change : (b : Bool) → ChangeBelow (length (graph.vars ++ [])) (removed_if b)
      change true = tt
      change false = tt

      fits : CanRewrite (removing (λ n. removed_if (dead n))) [] graph
      fits = record {
        at_start = refl;
        put = λ n lt. tt;
        change = λ n lt. change (dead n);
        names = subst AllDiffer (sym (append-nil graph.vars)) is_graph.can.names;
      }

  -- ---- it is a removal

  module _ (firm : ℕ → Bool) (same : (n : ℕ) → firm_at graph.nodes n ≡ firm n) where
    pub one_removal : IsOneRemoval Insertion (IsWalk graph.nodes) (graph_does graph) firm dead
    one_removal = record {
      shorter = walk_shorter graph.nodes;
      firm_stays = λ n is. kept n is;
      unread = λ k d y path before walk reads last gone. unread k d y path before walk reads last gone;
      assigns = λ n acts not. loose_assigns graph (slice_get graph.nodes n) (same n ∙ not) acts;
    }
      where
        kept : (n : ℕ) → firm n ≡ true → dead n ≡ false
        kept n is = elim (cases_Bool (dead n)) [
          | inl gone ↦ absurd (true≢false (sym (same n ∙ is) ∙ dead_loose n (dead_are n (firm_within graph.nodes n (same n ∙ is)) gone)))
          | inr not ↦ not
        ]

        unread : (k d y : ℕ) (path before : List ℕ) → IsWalk graph.nodes (k ∷ path) → reads_at graph y k ≡ true
            → latest (assigns_at graph y) path ≡ d ∷ before → dead d ≡ true → ⊥
        unread k d y path before walk reads last gone =
            let inside = subst (λ l. IsEndOf l path) last (latest_end (assigns_at graph y) path) in
            let walk_d = walk_shorter graph.nodes (k ∷ inside.0) d before (subst (λ l. IsWalk graph.nodes (k ∷ l)) inside.1 walk) in
            let at = dead_are d (walk_within graph is_graph d before walk_d) gone in
            let sets : nat_eq y at.var ≡ true = sym (ap (node_does graph (Sets y)) at.is) ∙ latest_so (assigns_at graph y) path d before last in
            at.unread (subst (λ z. IsLiveAfter graph z d) (eqb-true y at.var sets) (read_is_live graph is_graph y k path d before walk reads last))
