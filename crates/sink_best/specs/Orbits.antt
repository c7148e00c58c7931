-- Where a round leaves the layout of a graph as it is, no assignment is dead in it: each assignment of the round came from
-- one of the graph, no two from one, and a dead one is the origin of none. For proofs only.
use Rattle.std.proofs.Common.{◌≡◌, ◌⊎◌, ◌+◌, ◌<◌, ◌≤◌, ℕ, zero, suc, Bool, true, false, nat_eq, List, [], ◌∷◌, ◌++◌, drop, length, flat_map, slice_get, Option, Some, inl, inr, refl, sym, ap, ◌∙◌, subst, arith, append_assoc}
use Rattle.std.proofs.lemmas.Bool.{cases_Bool, cases_lt, cases_order, eq-eqb, eqb-true, or_cases, or_left, or_right, true≢false}
use Rattle.std.proofs.lemmas.Option.{none-some, same_Some, slice_get_within}
use Rattle.mir_base.specs.Expressions.{divides}
use Rattle.mir_base.specs.Shapes.{AllBelow}
use Rattle.mir_base.specs.declared.instructions.Rhs.{Rhs}
use Rattle.flow_graph.specs.declared.plan.Item.{Item}
use Rattle.flow_graph.specs.declared.plan.Item.TheVariants.{Placed}
use Rattle.flow_graph.specs.declared.nodes.Node.{Node}
use Rattle.flow_graph.specs.declared.nodes.Node.TheVariants.{Start, Assign}
use Rattle.flow_graph.specs.Edges.{IsSplit}
use Rattle.flow_graph.specs.Graphs.{GraphShape, IsGraph}
use Rattle.flow_graph.specs.Layouts.{emitted_by, item_size, size}
use Rattle.flow_graph.specs.Numbering.{is_in}
use Rattle.flow_graph.specs.Paths.{HasEdge, Trace, from_start, goes_on}
use Rattle.flow_graph.specs.Plans.{start_succ}
use Rattle.flow_graph.specs.Sums.{one_if}
use Rattle.flow_graph.specs.PlanLaws.{place_at}
use Rattle.graph_edit.specs.Accesses.{assigns_at, assigns_var, blocks_at, is_occurrence, occurs_at}
use Rattle.graph_edit.specs.InsertionNodes.{IsNew, IsOld, node_at}
use Rattle.graph_edit.specs.Insertions.{Insertion, Rewriting, put_below, rewritten, rewritten_nodes}
use Rattle.graph_edit.specs.OccurrenceLaws.{is_occurrence_of, occurrence_blocks, occurrence_is}
use Rattle.dead_code.specs.Liveness.{IsLiveAfter}
use Rattle.dead_code.specs.Pruned.{IsDeadAt, pruned_from}
use Rattle.sink_code.specs.DelayLaws.{trace_of}
use Rattle.sink_code.specs.Sinking.{put_for}
use Rattle.sink_code.specs.SunkGraphs.{sinking}
use Rattle.sink_rounds.specs.RoundGraphs.{HaveOneLayout, IsRound}
use Rattle.sink_rounds.specs.Steps.{IsSinking}
use Rattle.path_images.specs.Ends.{IsEndOf, cons_rest, latest, latest_here, latest_past, rest_of}
use Rattle.path_images.specs.Walks.{IsPlaced}
use Rattle.path_images.specs.Images.{IsImage, Is, IsRead, Reads}
use Rattle.path_images.specs.Sunk.{from_new, sunk_image}
use Rattle.path_images.specs.Sunk as sunk_laws
use Rattle.sink_best.specs.GraphWalks.{IsWalk, edge_single, firm_at, graph_does, loose_assigns, occurrence_loose, walk_shorter, walk_within}
use Rattle.sink_best.specs.Bodies.{EmittedAt, PlacedAt, emitted_at, inst_stands, placed_node, placed_once}
use Rattle.sink_best.specs.Chains.{InChain, assignment_of, chain_before, down, down_at, listed_put, one_listed, pattern}
use Rattle.sink_best.specs.Counting.{AllOnce, no_more_than}
use Rattle.sink_best.specs.NoPassing.{bodies, laid_after, no_passing, old_none, round_alive, round_sinks, stood, was_put}
use Rattle.sink_best.specs.OneLift.{one_onward, sunk_over}
use Rattle.sink_best.specs.OneRemoval.{firm_within, read_is_live}
use Rattle.sink_best.specs.OneSinking.{chain, firm_kept, goes_away, in_it, is_old, kept_alike, late_of, new_loose, one_sinking, pattern_does, same_firm, what}
use Rattle.sink_best.specs.Reading.{live_read_on}

module _ (graph : GraphShape) (is_graph : IsGraph graph.vars graph.received graph.nodes) (split : IsSplit graph.nodes) (round : GraphShape) (is_round : IsRound graph round) (least : graph.shared ≤ length graph.vars) (one : HaveOneLayout graph round)
    (x : ℕ) (t : Rhs) (sinkable : divides t ≡ false) where
  abbrev inserts : ℕ → List Insertion
  inserts = is_round.is_sunk.inserts

  abbrev late : ℕ → ℕ → Option Rhs
  late = is_round.is_sunk.delayed

  abbrev raw : List Node
  raw = rewritten_nodes (sinking graph is_round.is_sunk.inserts) graph.nodes

  abbrev sunk : GraphShape
  sunk = rewritten (sinking graph is_round.is_sunk.inserts) [] graph

  abbrev after : List Node
  after = pruned_from is_round.is_pruned.dead 0 (rewritten_nodes (sinking graph is_round.is_sunk.inserts) graph.nodes)

  abbrev first : ℕ → ℕ
  first n = length graph.nodes + put_below is_round.is_sunk.inserts n

  -- from the occurrence o, on along nodes that are not firm and do not block it, and before which it is not put
  pub data Passing (o : ℕ) : ℕ → ℕ → Type 0 where
    leaves : (s : ℕ) → HasEdge graph.nodes o s → Passing o 0 s
    passes : (k m s : ℕ) → Passing o k m → firm_at graph.nodes m ≡ false → blocks_at x t graph m ≡ false
        → (put_for (is_round.is_sunk.inserts m) x ≡ Some t → ⊥) → HasEdge graph.nodes m s → Passing o (suc k) s

  module _ (o : ℕ) (loose : firm_at graph.nodes o ≡ false) where
    -- so many edges on is one node
    one_way_on : (k n n' : ℕ) → Passing o k n → Passing o k n' → n ≡ n'
    one_way_on k n n' (leaves s edge) (leaves s' edge') = edge_single graph.nodes n n' o edge edge' loose
    one_way_on k n n' (passes j m s p not free unput edge) (passes j' m' s' p' not' free' unput' edge') =
        let same = one_way_on j m m' p p' in
        edge_single graph.nodes n n' m edge (subst (λ a. HasEdge graph.nodes a n') (sym same) edge') not

    -- and before the last it is put nowhere
    on_the_way : (k k' n : ℕ) → k < k' → Passing o k' n → (m : ℕ) × Passing o k m × (put_for (inserts m) x ≡ Some t → ⊥)
    on_the_way k k' n lt (leaves s edge) = absurd (omega (arith, lt))
    on_the_way k k' n lt (passes j m s p not free unput edge) = elim (cases_lt k j) [
      | inl less ↦ on_the_way k j m less p
      | inr ge ↦ (let same : j ≡ k = omega (arith, lt, ge) in (m, subst (λ i. Passing o i m) same p, unput))
    ]

    one_place : (k k' n n' : ℕ) → Passing o k n → Passing o k' n' → put_for (inserts n) x ≡ Some t → put_for (inserts n') x ≡ Some t → n ≡ n'
    one_place k k' n n' p p' put put' = elim (cases_order k k') [
      | inl same ↦ one_way_on k' n n' (subst (λ i. Passing o i n) same p) p'
      | inr differ ↦ elim differ [
        | inl less ↦ (let w = on_the_way k k' n' less p' in absurd (w.2 (ap (λ a. put_for (inserts a) x) (sym (one_way_on k n w.0 p w.1)) ∙ put)))
        | inr more ↦ (let w = on_the_way k' k n more p in absurd (w.2 (ap (λ a. put_for (inserts a) x) (sym (one_way_on k' n' w.0 p' w.1)) ∙ put')))
      ]
    ]

  -- what is delayed at a node comes from an occurrence
  record Source (n : ℕ) : Type 0 where
    origin : ℕ
    is : occurs_at x t graph origin ≡ true
    far : ℕ
    way : Passing origin far n

  source_of : (n : ℕ) (before : List ℕ) → Trace graph.nodes n before → late n x ≡ Some t → Source n
  source_of n before from_start is = absurd (none-some t (sym ((round_sinks graph is_graph split round is_round).start x) ∙ is))
  source_of n before (goes_on m k earlier trace edge) is = elim ((round_sinks graph is_graph split round is_round).back m n x t edge is) [
    | inl o ↦ record { origin = m; is = o.1; far = 0; way = leaves n edge }
    | inr on ↦
        let s = source_of m earlier trace on.1.0 in
        let lt = walk_within graph is_graph m earlier trace in
        let loose : firm_at graph.nodes m ≡ false = elim (cases_Bool (firm_at graph.nodes m)) [
          | inl firm ↦ absurd (true≢false (sym (no_passing graph is_graph split round is_round least one m x t lt firm ((is_round.is_sunk.insertions.delayed_are m x t lt).0 on.1.0)) ∙ on.0))
          | inr not ↦ not
        ] in
        record { origin = s.origin; is = s.is; far = suc s.far; way = passes s.far m n s.way loose on.0 (λ put. none-some t (sym on.1.1 ∙ put)) edge }
  ]

  -- the assignment of the round at the place of z came from o
  record Comes (z o : ℕ) : Type 0 where
    mark : PlacedAt graph.shared graph.vars graph.received graph.nodes is_graph one.unit.vars one.unit.body one.of_first.laid z
    z_is : occurs_at x t graph z ≡ true
    n : ℕ
    i : ℕ
    below : n < length graph.nodes
    listed : slice_get (is_round.is_sunk.inserts n) i ≡ Some (pattern x t)
    kept : is_round.is_pruned.dead ((length graph.nodes + put_below is_round.is_sunk.inserts n) + i) ≡ false
    index : ℕ
    older : List Item
    here : drop index (laid_after graph is_graph split round is_round least one).plan ≡ Placed ((length graph.nodes + put_below is_round.is_sunk.inserts n) + i) ∷ older
    same : size graph.nodes (length graph.received) mark.older ≡ size (pruned_from is_round.is_pruned.dead 0 (rewritten_nodes (sinking graph is_round.is_sunk.inserts) graph.nodes)) (length graph.received) older
    o_is : occurs_at x t graph o ≡ true
    far : ℕ
    way : Passing o far n

  put_there : (n i : ℕ) → slice_get (inserts n) i ≡ Some (pattern x t) → put_for (inserts n) x ≡ Some t
  put_there n i listed = listed_put (inserts n) i (pattern x t) ((round_sinks graph is_graph split round is_round).apart n) listed

  -- each has one from which it came
  comes : (z : ℕ) → occurs_at x t graph z ≡ true → (o : ℕ) × Comes z o
  comes z is = found (node_at (sinking graph is_round.is_sunk.inserts) graph.nodes e.n (Assign x t w.0) w.1)
    where
      z_at : (next : ℕ) × (slice_get graph.nodes z ≡ Some (Assign x t next)) × (divides t ≡ false)
      z_at = occurrence_is x t (slice_get graph.nodes z) is

      not_start : z ≡ 0 → ⊥
      not_start e = (let clash : Some (Start is_graph.can.start.0) ≡ Some (Assign x t z_at.0) = sym is_graph.can.start.1 ∙ ap (slice_get graph.nodes) (sym e) ∙ z_at.1 in absurd (cc))

      tr : (before : List ℕ) × Trace graph.nodes z before
      tr = trace_of graph is_graph z (slice_get_within graph.nodes z (Assign x t z_at.0) z_at.1)

      mark : PlacedAt graph.shared graph.vars graph.received graph.nodes is_graph one.unit.vars one.unit.body one.of_first.laid z
      mark = placed_node graph.shared graph.vars graph.received graph.nodes is_graph one.unit.vars one.unit.body one.of_first.laid z tr.0 tr.1 not_start

      q : ℕ
      q = size graph.nodes (length graph.received) mark.older

      e : EmittedAt x t graph.received after (laid_after graph is_graph split round is_round least one).plan q
      e = emitted_at x t graph.received after 0 (laid_after graph is_graph split round is_round least one).plan q
          (ap (λ b. slice_get b q) (sym (bodies graph is_graph split round is_round least one)) ∙ inst_stands graph.shared graph.vars graph.received graph.nodes is_graph one.unit.vars one.unit.body one.of_first.laid z x z_at.0 t mark z_at.1)

      occurs_e : is_occurrence x t (slice_get after e.n) ≡ true
      occurs_e = ap (is_occurrence x t) e.is ∙ is_occurrence_of x t e.next sinkable

      before : (is_occurrence x t (slice_get raw e.n) ≡ true) × (is_round.is_pruned.dead e.n ≡ false)
      before = stood graph is_graph split round is_round x t e.n occurs_e

      w : (next : ℕ) × (slice_get raw e.n ≡ Some (Assign x t next)) × (divides t ≡ false)
      w = occurrence_is x t (slice_get raw e.n) before.0

      found : IsOld (sinking graph is_round.is_sunk.inserts) graph.nodes e.n (Assign x t w.0) ⊎ IsNew (sinking graph is_round.is_sunk.inserts) graph.nodes e.n (Assign x t w.0)
          → (o : ℕ) × Comes z o
      found (inl old) = (let none = old_none graph is_graph split round is_round x t e.n (slice_get_within graph.nodes e.n old.old old.was) in let some = ap {B = ℕ} one_if occurs_e in absurd (omega (arith, none, some)))
      found (inr new) = (
        s.origin,
        record {
          mark = mark;
          z_is = is;
          n = new.n;
          i = new.j;
          below = new.below;
          listed = listed;
          kept = ap is_round.is_pruned.dead (sym at) ∙ before.1;
          index = e.z;
          older = e.older;
          here = e.here ∙ ap (λ c. Placed c ∷ e.older) at;
          same = e.at;
          o_is = s.is;
          far = s.far;
          way = s.way;
        },
      )
        where
          at : e.n ≡ first new.n + new.j
          at = (let there = new.at in omega (arith, there))

          listed : slice_get (inserts new.n) new.j ≡ Some (pattern x t)
          listed = was_put graph is_graph split round is_round x t new.n new.j new.within (ap (λ c. is_occurrence x t (slice_get raw c)) (sym at) ∙ before.0)

          tr' : (b : List ℕ) × Trace graph.nodes new.n b
          tr' = trace_of graph is_graph new.n new.below

          s : Source new.n
          s = source_of new.n tr'.0 tr'.1 ((round_sinks graph is_graph split round is_round).put new.n x t (put_there new.n new.j listed))

  -- no two came from one
  comes_once : (z z' o : ℕ) → Comes z o → Comes z' o → z ≡ z'
  comes_once z z' o a b = placed_once x t graph.received graph.nodes one.of_first.laid.plan a.mark.z b.mark.z z z' a.mark.older b.mark.older a.mark.here b.mark.here (some z a.z_is) (some z' b.z_is) (a.same ∙ places ∙ sym b.same)
    where
      loose : firm_at graph.nodes o ≡ false
      loose = occurrence_loose (pattern x t) (slice_get graph.nodes o) a.o_is

      node : a.n ≡ b.n
      node = one_place o loose a.far b.far a.n b.n a.way b.way (put_there a.n a.i a.listed) (put_there b.n b.i b.listed)

      index : a.i ≡ b.i
      index = one_listed (inserts a.n) a.i b.i (pattern x t) (pattern x t) ((round_sinks graph is_graph split round is_round).apart a.n) a.listed (ap (λ k. slice_get (inserts k) b.i) node ∙ b.listed) refl

      number : first a.n + a.i ≡ first b.n + b.i
      number = ap (λ k. first k + a.i) node ∙ ap (λ j. first b.n + j) index

      some : (c : ℕ) → occurs_at x t graph c ≡ true → 0 < item_size graph.nodes (Placed c)
      some c is = (let w = occurrence_is x t (slice_get graph.nodes c) is in let long = ap (λ o'. length (emitted_by (λ m. m) o')) w.1 in omega (arith, long))

      places : size after (length graph.received) a.older ≡ size after (length graph.received) b.older
      places =
          let laid = laid_after graph is_graph split round is_round least one in
          sym (place_at after (start_succ (slice_get after 0)) (length graph.received) a.index (first a.n + a.i) laid.plan a.older laid.is_plan.is_plan a.here)
          ∙ place_at after (start_succ (slice_get after 0)) (length graph.received) b.index (first a.n + a.i) laid.plan b.older laid.is_plan.is_plan (b.here ∙ ap (λ c. Placed c ∷ b.older) (sym number))

  -- ---- a dead one

  module _ (dead : ℕ) (dead_is : occurs_at x t graph dead ≡ true) (unread : IsLiveAfter graph x dead → ⊥) where
    dead_within : dead < length graph.nodes
    dead_within = (let w = occurrence_is x t (slice_get graph.nodes dead) dead_is in slice_get_within graph.nodes dead (Assign x t w.0) w.1)

    path_to : (before : List ℕ) × Trace graph.nodes dead before
    path_to = trace_of graph is_graph dead dead_within

    abbrev b0 : List ℕ
    b0 = path_to.0

    -- the way on from it
    record Onward (n : ℕ) : Type 0 where
      front : List ℕ
      walk : IsWalk graph.nodes (n ∷ (front ++ (dead ∷ path_to.0)))
      last : latest (λ m. occurs_at x t graph m) (front ++ (dead ∷ path_to.0)) ≡ dead ∷ path_to.0

    way_of : (k n : ℕ) → Passing dead k n → Onward n
    way_of k n (leaves s edge) = record { front = []; walk = goes_on dead n b0 path_to.1 edge; last = latest_here (λ m. occurs_at x t graph m) dead b0 dead_is }
    way_of k n (passes j m s p not free unput edge) =
        let w = way_of j m p in
        let not_is : occurs_at x t graph m ≡ false = elim (cases_Bool (occurs_at x t graph m)) [
          | inl is ↦ absurd (true≢false (sym (occurrence_blocks graph x t t (slice_get graph.nodes m) is) ∙ free))
          | inr none ↦ none
        ] in
        record { front = m ∷ w.front; walk = goes_on m n (w.front ++ (dead ∷ b0)) w.walk edge; last = latest_past (λ a. occurs_at x t graph a) m (w.front ++ (dead ∷ b0)) not_is ∙ w.last }

    abbrev way : Rewriting
    way = sinking graph is_round.is_sunk.inserts

    sinks : IsSinking graph (sinking graph is_round.is_sunk.inserts) is_round.is_sunk.delayed
    sinks = round_sinks graph is_graph split round is_round

    abbrev over1 : ℕ → List ℕ
    over1 = sunk_over graph is_graph way late sinks

    abbrev from1 : List ℕ → List ℕ
    from1 = sunk_laws.from Insertion (IsWalk graph.nodes) (graph_does graph) pattern_does (is_old graph is_graph way late sinks) (goes_away graph is_graph way late sinks) (late_of graph is_graph way late sinks) (chain graph is_graph way late sinks) (what graph is_graph way late sinks) (graph_does sunk)

    image1 : IsImage Insertion (IsWalk graph.nodes) (graph_does graph) (firm_at graph.nodes) over1 (graph_does sunk) from1
    image1 = sunk_image Insertion (IsWalk graph.nodes) (graph_does graph) pattern_does (is_old graph is_graph way late sinks) (goes_away graph is_graph way late sinks) (late_of graph is_graph way late sinks) (chain graph is_graph way late sinks) (what graph is_graph way late sinks) (graph_does sunk) (one_sinking graph is_graph way late sinks) (firm_at graph.nodes)
        (λ n c rest at. sym (same_firm graph is_graph way late sinks c) ∙ new_loose graph is_graph way late sinks n c rest at)
        (λ n p is. occurrence_loose p (slice_get graph.nodes n) is)
        (λ k acts not. loose_assigns sunk (slice_get sunk.nodes k) (same_firm graph is_graph way late sinks k ∙ not) acts)
        (λ n is q. kept_alike graph is_graph way late sinks n (firm_within graph.nodes n is) (firm_kept graph is_graph way late sinks n is) q)

    -- it is the origin of none
    not_origin : (z : ℕ) → Comes z dead → ⊥
    not_origin z c = round_alive graph is_graph split round is_round number (slice_get_within raw number (Assign x t in_c.next) there) c.kept (record { var = x; rhs = t; next = in_c.next; is = there; sinkable = sinkable; unread = dead_there })
      where
        number : ℕ
        number = first c.n + c.i

        some : c.i < length (inserts c.n)
        some = slice_get_within (inserts c.n) c.i (pattern x t) c.listed

        at_c : IsEndOf (number ∷ down (first c.n) c.i) (chain_before way graph.nodes c.n)
        at_c = down_at (first c.n) (length (inserts c.n)) c.i some

        in_c : InChain way graph.nodes c.n number (down (first c.n) c.i)
        in_c = in_it graph is_graph way late sinks c.n number (down (first c.n) c.i) at_c

        put_is : in_c.put ≡ pattern x t
        put_is = (let there = in_c.at in let same : in_c.j ≡ c.i = omega (arith, there) in same_Some in_c.put (pattern x t) (sym in_c.listed ∙ ap (slice_get (inserts c.n)) same ∙ c.listed))

        there : slice_get raw number ≡ Some (Assign x t in_c.next)
        there = in_c.is ∙ ap (λ (p : Insertion). Some (Assign p.var p.rhs in_c.next)) put_is

        what_is : what graph is_graph way late sinks number ≡ pattern x t
        what_is = ap assignment_of there

        on : Onward c.n
        on = way_of c.far c.n c.way

        tail : List ℕ
        tail = on.front ++ (dead ∷ path_to.0)

        rest : List ℕ
        rest = down (first c.n) c.i ++ flat_map over1 tail

        at : IsEndOf (number ∷ rest) (flat_map over1 (c.n ∷ tail))
        at = (c.n ∷ at_c.0, ap (λ l. c.n ∷ (l ++ flat_map over1 tail)) at_c.1 ∙ ap (λ l. c.n ∷ l) (append_assoc at_c.0 (number ∷ down (first c.n) c.i) (flat_map over1 tail)))

        placed : IsPlaced over1 (number ∷ rest) (c.n ∷ tail)
        placed m q e = record { node = number; front = down (first c.n) c.i; is = ap (λ l. number ∷ (down (first c.n) c.i ++ flat_map over1 l)) (cons_rest c.n m tail q e) }

        from_is : from1 (number ∷ rest) ≡ dead ∷ path_to.0
        from_is =
            from_new Insertion (IsWalk graph.nodes) (graph_does graph) pattern_does (is_old graph is_graph way late sinks) (goes_away graph is_graph way late sinks) (late_of graph is_graph way late sinks) (chain graph is_graph way late sinks) (what graph is_graph way late sinks) (graph_does sunk) (one_sinking graph is_graph way late sinks) c.n number (down (first c.n) c.i) tail on.walk at_c
            ∙ ap (λ w. latest (λ m. graph_does graph (Is w) m) tail) what_is ∙ on.last

        dead_there : IsLiveAfter sunk x number → ⊥
        dead_there live = by (live_read_on (IsWalk graph.nodes) (graph_does graph) (firm_at graph.nodes) over1 sunk (one_onward graph is_graph way late sinks) (c.n ∷ tail) number rest x on.walk at placed (ap (graph_does_sets x) there ∙ eq-eqb x x refl) live)
          where
            graph_does_sets : ℕ → Option Node → Bool
            graph_does_sets y o = assigns_var sunk y o

            by : IsRead Insertion (IsWalk graph.nodes) (graph_does graph) (firm_at graph.nodes) over1 (graph_does sunk) (c.n ∷ tail) number rest x → ⊥
            by r =
                let o = image1.origin (r.on ++ (c.n ∷ tail)) r.node r.before r.walk r.at (x, inl r.reads_it) in
                let last : latest (λ m. assigns_at graph x m) o.before ≡ dead ∷ path_to.0 =
                sym (ap (λ l. latest (λ m. assigns_at graph x m) (rest_of l)) o.is) ∙ sym (image1.read (r.on ++ (c.n ∷ tail)) r.node r.before x r.walk r.at r.reads_it) ∙ ap from1 r.last ∙ from_is in
                let inside = subst (λ l. IsEndOf l (r.on ++ (c.n ∷ tail))) o.is o.at in
                unread (read_is_live graph is_graph x o.node o.before dead path_to.0 (walk_shorter graph.nodes inside.0 o.node o.before (subst (IsWalk graph.nodes) inside.1 r.walk)) (sym (o.alike (Reads x)) ∙ r.reads_it) last)

    -- ---- the origins of origins

    data IsOrbit : ℕ → List ℕ → Type 0 where
      begins_it : IsOrbit dead []
      more_of_it : (z o : ℕ) (l : List ℕ) → IsOrbit z l → Comes z o → IsOrbit o (z ∷ l)

    came_from : (w z : ℕ) (l : List ℕ) → IsOrbit z l → is_in w (z ∷ l) ≡ true → (w ≡ dead) ⊎ ((p : ℕ) × (is_in p l ≡ true) × Comes p w)
    came_from w z l begins_it is = elim (or_cases (nat_eq dead w) false is) [
      | inl same ↦ inl (sym (eqb-true dead w same))
      | inr none ↦ absurd (true≢false (sym none))
    ]
    came_from w z l (more_of_it z' o l' orbit c) is = elim (or_cases (nat_eq z w) (is_in w (z' ∷ l')) is) [
      | inl same ↦ inr (z', or_left (nat_eq z' z') (is_in z' l') (eq-eqb z' z' refl), subst (Comes z') (eqb-true z w same) c)
      | inr later ↦ elim (came_from w z' l' orbit later) [
        | inl first_one ↦ inl first_one
        | inr p ↦ inr (p.0, or_right (nat_eq z' p.0) (is_in p.0 l') p.1, p.2)
      ]
    ]

    all_once : (z : ℕ) (l : List ℕ) → IsOrbit z l → AllOnce (z ∷ l)
    all_once z l begins_it = (refl, tt)
    all_once z l (more_of_it z' o l' orbit c) = (fresh (all_once z' l' orbit), all_once z' l' orbit)
      where
        fresh : AllOnce (z' ∷ l') → is_in z (z' ∷ l') ≡ false
        fresh once = elim (cases_Bool (is_in z (z' ∷ l'))) [
          | inr not ↦ not
          | inl is ↦ elim (came_from z z' l' orbit is) [
            | inl first_one ↦ absurd (not_origin z' (subst (Comes z') first_one c))
            | inr p ↦ absurd (true≢false (sym p.1 ∙ ap (λ a. is_in a l') (comes_once p.0 z' z p.2 c) ∙ once.0))
          ]
        ]

    occurs_low : (z : ℕ) → occurs_at x t graph z ≡ true → z < length graph.nodes
    occurs_low z is = (let w = occurrence_is x t (slice_get graph.nodes z) is in slice_get_within graph.nodes z (Assign x t w.0) w.1)

    all_low : (z : ℕ) (l : List ℕ) → IsOrbit z l → AllBelow (length graph.nodes) (z ∷ l)
    all_low z l begins_it = (dead_within, tt)
    all_low z l (more_of_it z' o l' orbit c) = (occurs_low z c.o_is, all_low z' l' orbit)

    record LongOrbit (many : ℕ) : Type 0 where
      z : ℕ
      l : List ℕ
      orbit : IsOrbit z l
      long : length l ≡ many
      is : occurs_at x t graph z ≡ true

    long_orbit : (many : ℕ) → LongOrbit many
    long_orbit zero = record { z = dead; l = []; orbit = begins_it; long = refl; is = dead_is }
    long_orbit (suc many) =
        let o = long_orbit many in
        let next = comes o.z o.is in
        record { z = next.0; l = o.z ∷ o.l; orbit = more_of_it o.z next.0 o.l o.orbit next.1; long = ap suc o.long; is = next.1.o_is }

    none_such : ⊥
    none_such =
        let o = long_orbit (length graph.nodes) in
        let few = no_more_than (length graph.nodes) (o.z ∷ o.l) (all_once o.z o.l o.orbit) (all_low o.z o.l o.orbit) in
        let long = o.long in
        omega (arith, few, long)

-- so nothing is dead in it
pub nothing_dead : (graph : GraphShape) (is_graph : IsGraph graph.vars graph.received graph.nodes) (split : IsSplit graph.nodes) (round : GraphShape) (is_round : IsRound graph round) (least : graph.shared ≤ length graph.vars) (one : HaveOneLayout graph round) (n : ℕ)
    → IsDeadAt graph n → ⊥
nothing_dead graph is_graph split round is_round least one n d = none_such graph is_graph split round is_round least one d.var d.rhs d.sinkable n (ap (is_occurrence d.var d.rhs) d.is ∙ is_occurrence_of d.var d.rhs d.next d.sinkable) d.unread
