-- Where a round leaves the layout of a graph as it is, no assignment passes a firm node in it. For proofs only.
use Rattle.std.proofs.Common.{◌≡◌, ◌⊎◌, ◌+◌, ◌<◌, ◌≤◌, ℕ, zero, suc, Bool, true, false, List, [], ◌∷◌, ◌++◌, length, flat_map, slice_get, Option, Some, None, option_map, inl, inr, refl, sym, ap, ◌∙◌, subst, arith, append-nil}
use Rattle.std.proofs.lemmas.Bool.{cases_Bool, false≢true, true≢false}
use Rattle.std.proofs.lemmas.Option.{none-some, same_Some, slice_get_within}
use Rattle.mir_base.specs.declared.instructions.Rhs.{Rhs}
use Rattle.flow_graph.specs.declared.nodes.Node.{Node}
use Rattle.flow_graph.specs.declared.nodes.Node.TheVariants.{Assign}
use Rattle.flow_graph.specs.Edges.{IsSplit}
use Rattle.flow_graph.specs.Graphs.{GraphShape, IsGraph}
use Rattle.flow_graph.specs.Layouts.{IsLaid, IsLayout, plain_body}
use Rattle.flow_graph.specs.Paths.{Trace}
use Rattle.flow_graph.specs.Sums.{one_if, sum_append, sum_on}
use Rattle.graph_edit.specs.Accesses.{blocks_at, is_occurrence, is_sinkable, same_rhs}
use Rattle.graph_edit.specs.Insertions.{Insertion, Removed, Rewriting, changed, put_below, rewritten, rewritten_nodes}
use Rattle.graph_edit.specs.OccurrenceLaws.{occurrence_is, occurrence_sinkable}
use Rattle.graph_edit.specs.SameRhs.{same_rhs_is, same_rhs_itself}
use Rattle.dead_code.specs.Pruned.{IsDeadAt, pruned_from, removed_if}
use Rattle.sink_code.specs.DelayLaws.{none_at_start, passed_at_skip, trace_of}
use Rattle.sink_code.specs.Delaying.{IsDelayedTo}
use Rattle.sink_code.specs.Sinking.{put_for}
use Rattle.sink_code.specs.SunkGraphs.{emptied, sinking}
use Rattle.sink_rounds.specs.RoundGraphs.{HaveOneLayout, IsRound}
use Rattle.sink_rounds.specs.Steps.{IsDelayedPast, IsSinking, MovesAway}
use Rattle.sink_rounds.specs.StepLaws.{round_is_step, round_sinking}
use Rattle.path_images.specs.Images.{Is}
use Rattle.sink_best.specs.GraphWalks.{IsWalk, firm_at, is_firm, last_edge, walk_alone, walk_before, walk_within}
use Rattle.sink_best.specs.Chains.{chain_before, down, down_at, listed_put, one_listed, pattern}
use Rattle.sink_best.specs.OneSinking.{in_it, is_removed, kept_alike, new_graph, one_sinking, same_firm}
use Rattle.sink_best.specs.OneLift.{lifted, sunk_over}
use Rattle.sink_best.specs.OneRemoval.{path_stays, pruned_at, pruned_graph, removed_firm}
use Rattle.sink_rounds.specs.BodyWalks.{one_walk}
use Rattle.sink_best.specs.Bodies.{Walked, moves, one_body, stop_of, walk_to}
use Rattle.sink_best.specs.Ways.{ways_on}

-- ---- a round and its parts

module _ (graph : GraphShape) (is_graph : IsGraph graph.vars graph.received graph.nodes) (split : IsSplit graph.nodes) (round : GraphShape) (is_round : IsRound graph round) where
  abbrev pub round_way : Rewriting
  round_way = sinking graph is_round.is_sunk.inserts

  abbrev pub round_late : ℕ → ℕ → Option Rhs
  round_late = is_round.is_sunk.delayed

  abbrev pub round_dead : ℕ → Bool
  round_dead = is_round.is_pruned.dead

  abbrev pub round_sunk : GraphShape
  round_sunk = rewritten (sinking graph is_round.is_sunk.inserts) [] graph

  abbrev pub round_after : List Node
  round_after = pruned_from is_round.is_pruned.dead 0 (rewritten_nodes (sinking graph is_round.is_sunk.inserts) graph.nodes)

  pub round_sinks : IsSinking graph (sinking graph is_round.is_sunk.inserts) is_round.is_sunk.delayed
  round_sinks = round_sinking graph is_graph split is_round.is_sunk.delayed is_round.is_sunk.inserts is_round.is_sunk.insertions

  -- what is marked in it is dead, and what is dead is marked
  pub round_marks : (n : ℕ) → n < length (rewritten_nodes (sinking graph is_round.is_sunk.inserts) graph.nodes)
      → is_round.is_pruned.dead n ≡ true → IsDeadAt (rewritten (sinking graph is_round.is_sunk.inserts) [] graph) n
  round_marks n lt gone = subst (λ g. IsDeadAt g n) is_round.is_sunk.is ((is_round.is_pruned.dead_are n (subst (λ (g : GraphShape). n < length g.nodes) (sym is_round.is_sunk.is) lt)).0 gone)

  pub round_alive : (n : ℕ) → n < length (rewritten_nodes (sinking graph is_round.is_sunk.inserts) graph.nodes)
      → is_round.is_pruned.dead n ≡ false → IsDeadAt (rewritten (sinking graph is_round.is_sunk.inserts) [] graph) n
      → ⊥
  round_alive n lt kept is = false≢true (sym kept ∙ (is_round.is_pruned.dead_are n (subst (λ (g : GraphShape). n < length g.nodes) (sym is_round.is_sunk.is) lt)).1 (subst (λ g. IsDeadAt g n) (sym is_round.is_sunk.is) is))

  abbrev way : Rewriting
  way = sinking graph is_round.is_sunk.inserts

  abbrev inserts : ℕ → List Insertion
  inserts = is_round.is_sunk.inserts

  abbrev late : ℕ → ℕ → Option Rhs
  late = is_round.is_sunk.delayed

  abbrev sunk : GraphShape
  sunk = rewritten (sinking graph is_round.is_sunk.inserts) [] graph

  abbrev raw : List Node
  raw = rewritten_nodes (sinking graph is_round.is_sunk.inserts) graph.nodes

  abbrev after : List Node
  after = pruned_from is_round.is_pruned.dead 0 (rewritten_nodes (sinking graph is_round.is_sunk.inserts) graph.nodes)

  sunk_graph : IsGraph sunk.vars sunk.received sunk.nodes
  sunk_graph = new_graph graph is_graph way late round_sinks

  pub after_graph : IsGraph graph.vars graph.received (pruned_from is_round.is_pruned.dead 0 (rewritten_nodes (sinking graph is_round.is_sunk.inserts) graph.nodes))
  after_graph = subst (λ v. IsGraph v graph.received after) (append-nil graph.vars) (pruned_graph sunk sunk_graph is_round.is_pruned.dead round_marks)

  after_firm : (n : ℕ) → firm_at after n ≡ firm_at graph.nodes n
  after_firm n = removed_firm sunk sunk_graph is_round.is_pruned.dead round_marks n ∙ same_firm graph is_graph way late round_sinks n

  -- ---- an assignment that stands in it

  module _ (x : ℕ) (t : Rhs) where
    abbrev mine : ℕ → ℕ
    mine n = one_if (is_occurrence x t (slice_get graph.nodes n))

    abbrev theirs : ℕ → ℕ
    theirs n = one_if (is_occurrence x t (slice_get after n))

    -- stood there before the removal
    pub stood : (n : ℕ)
        → is_occurrence x t (slice_get (pruned_from is_round.is_pruned.dead 0 (rewritten_nodes (sinking graph is_round.is_sunk.inserts) graph.nodes)) n) ≡ true
        → (is_occurrence x t (slice_get (rewritten_nodes (sinking graph is_round.is_sunk.inserts) graph.nodes) n) ≡ true) × (is_round.is_pruned.dead n ≡ false)
    stood n is = by (slice_get raw n) refl (is_round.is_pruned.dead n) refl (sym (ap (is_occurrence x t) (pruned_at sunk sunk_graph is_round.is_pruned.dead round_marks n)) ∙ is)
      where
        skipped : (node : Node) → is_occurrence x t (Some (changed Removed node)) ≡ true → is_occurrence x t (Some node) ≡ true
        skipped (Assign y rhs next) e = absurd (false≢true e)
        skipped node e = e

        by : (o : Option Node) → slice_get raw n ≡ o → (b : Bool) → is_round.is_pruned.dead n ≡ b
            → is_occurrence x t (option_map (changed (removed_if (is_round.is_pruned.dead n))) (slice_get raw n)) ≡ true
            → (is_occurrence x t (slice_get raw n) ≡ true) × (is_round.is_pruned.dead n ≡ false)
        by None e b d is' = absurd (false≢true (sym (ap (λ o. is_occurrence x t (option_map (changed (removed_if (is_round.is_pruned.dead n))) o)) e) ∙ is'))
        by (Some node) e false d is' = (ap (is_occurrence x t) e ∙ kept node (sym (ap (λ c. is_occurrence x t (option_map (changed (removed_if c)) (slice_get raw n))) d ∙ ap (λ o. is_occurrence x t (option_map (changed (removed_if false)) o)) e) ∙ is'), d)
          where
            kept : (node : Node) → is_occurrence x t (Some (changed (removed_if false) node)) ≡ true → is_occurrence x t (Some node) ≡ true
            kept (Assign y rhs next) e = e
            kept node e = e
        by (Some node) e true d is' =
            let dead_at = round_marks n (slice_get_within raw n node e) d in
            let gone : is_occurrence x t (Some (changed Removed (Assign dead_at.var dead_at.rhs dead_at.next))) ≡ true = sym (ap (λ c. is_occurrence x t (option_map (changed (removed_if c)) (slice_get raw n))) d ∙ ap (λ o. is_occurrence x t (option_map (changed Removed) o)) dead_at.is) ∙ is' in
            absurd (false≢true gone)

    -- none at an old node
    pub old_none : (n : ℕ) → n < length graph.nodes
        → one_if (is_occurrence x t (slice_get (pruned_from is_round.is_pruned.dead 0 (rewritten_nodes (sinking graph is_round.is_sunk.inserts) graph.nodes)) n)) ≡ 0
    old_none n lt = elim (cases_Bool (is_occurrence x t (slice_get after n))) [
      | inr not ↦ ap one_if not
      | inl is ↦
          let there = (stood n is).0 in
          elim (cases_Bool (is_sinkable (slice_get graph.nodes n))) [
            | inl goes ↦
                let sink = one_sinking graph is_graph way late round_sinks in
                let tr = trace_of graph is_graph n lt in
                absurd (true≢false (sym there ∙ sink.does_gone n tr.0 tr.1 (ap (λ b. is_removed (emptied b)) goes) (Is (pattern x t))))
            | inr stays ↦
                let same = kept_alike graph is_graph way late round_sinks n lt (ap (λ b. is_removed (emptied b)) stays) (Is (pattern x t)) in
                absurd (true≢false (sym (occurrence_sinkable x t (slice_get graph.nodes n) (sym same ∙ there)) ∙ stays))
          ]
    ]

    -- what stands in a chain was put there
    pub was_put : (n i : ℕ) → i < length (is_round.is_sunk.inserts n)
        → is_occurrence x t (slice_get (rewritten_nodes (sinking graph is_round.is_sunk.inserts) graph.nodes) ((length graph.nodes + put_below is_round.is_sunk.inserts n) + i)) ≡ true
        → slice_get (is_round.is_sunk.inserts n) i ≡ Some (pattern x t)
    was_put n i lt is =
        let first = length graph.nodes + put_below inserts n in
        let c = in_it graph is_graph way late round_sinks n (first + i) (down first i) (down_at first (length (inserts n)) i lt) in
        let there = c.at in
        let index : c.j ≡ i = omega (arith, there) in
        let w = occurrence_is x t (slice_get raw (first + i)) is in
        let same : Assign c.put.var c.put.rhs c.next ≡ Assign x t w.0 = same_Some (Assign c.put.var c.put.rhs c.next) (Assign x t w.0) (sym c.is ∙ w.1) in
        let var : c.put.var ≡ x = cc in
        let value : c.put.rhs ≡ t = cc in
        ap (slice_get (inserts n)) (sym index) ∙ c.listed ∙ ap (λ y. Some (pattern y c.put.rhs)) var ∙ ap (λ u. Some (pattern x u)) value

    chain_none : (n j : ℕ) → j ≤ length (inserts n)
        → ((i : ℕ) → i < j → slice_get (inserts n) i ≡ Some (pattern x t) → ⊥)
        → sum_on theirs (down (length graph.nodes + put_below inserts n) j) ≡ 0
    chain_none n zero le none = refl
    chain_none n (suc j) le none =
        let first = length graph.nodes + put_below inserts n in
        let deeper = chain_none n j (omega (arith, le)) (λ i lt at. none i (omega (arith, lt)) at) in
        elim (cases_Bool (is_occurrence x t (slice_get after (first + j)))) [
          | inr not ↦ (let here = ap {B = ℕ} one_if not in omega (arith, deeper, here))
          | inl is ↦ absurd (none j (omega arith) (was_put n j (omega (arith, le)) (stood (first + j) is).0))
        ]

    chain_one : (n j : ℕ) → j ≤ length (inserts n) → sum_on theirs (down (length graph.nodes + put_below inserts n) j) ≤ 1
    chain_one n zero le = omega arith
    chain_one n (suc j) le =
        let first = length graph.nodes + put_below inserts n in
        elim (cases_Bool (is_occurrence x t (slice_get after (first + j)))) [
          | inr not ↦ (let here = ap {B = ℕ} one_if not in let deeper = chain_one n j (omega (arith, le)) in omega (arith, deeper, here))
          | inl is ↦
              let put = was_put n j (omega (arith, le)) (stood (first + j) is).0 in
              let rest = chain_none n j (omega (arith, le)) (λ i lt at. (let same = one_listed (inserts n) i j (pattern x t) (pattern x t) (round_sinks.apart n) at put refl in omega (arith, lt, same))) in
              let here = ap {B = ℕ} one_if is in
              omega (arith, rest, here)
        ]

    -- so where the pattern is not put before a node, the chain before the node has none of it
    unput_none : (n : ℕ) → (put_for (inserts n) x ≡ Some t → ⊥) → sum_on theirs (chain_before way graph.nodes n) ≡ 0
    unput_none n not = chain_none n (length (inserts n)) (omega arith) (λ i lt at. not (listed_put (inserts n) i (pattern x t) (round_sinks.apart n) at))

    -- whether this is the right side
    is_this : (o : Option Rhs) → (o ≡ Some t) ⊎ (o ≡ Some t → ⊥)
    is_this None = inr (λ e. none-some t e)
    is_this (Some u) = elim (cases_Bool (same_rhs t u)) [
      | inl same ↦ inl (ap (λ (q : Rhs). Some q) (sym (same_rhs_is t u same)))
      | inr differ ↦ inr (λ e. true≢false (sym (ap (same_rhs t) (same_Some u t e) ∙ same_rhs_itself t) ∙ differ))
    ]

    abbrev lift : List ℕ → List ℕ
    lift = flat_map (sunk_over graph is_graph way late round_sinks)

    abbrev Paid : ℕ → List ℕ → Type 0
    Paid n before = (sum_on theirs (lift before) ≤ sum_on mine before) × (late n x ≡ Some t → sum_on theirs (lift before) + 1 ≤ sum_on mine before)

    paid : (n m : ℕ) (before : List ℕ) → IsWalk graph.nodes (n ∷ m ∷ before) → Paid m before → Paid n (m ∷ before)
    paid n m before walk deeper = (let le = low in omega (arith, le), λ is. by (round_sinks.back m n x t (last_edge graph.nodes n m before walk) is))
      where
        walk_m : IsWalk graph.nodes (m ∷ before)
        walk_m = walk_before graph.nodes n m before walk

        old : theirs m ≡ 0
        old = old_none m (walk_within graph is_graph m before walk_m)

        parts : sum_on theirs (lift (m ∷ before)) ≡ sum_on theirs (chain_before way graph.nodes m) + sum_on theirs (lift before)
        parts = (let e = sum_append theirs (chain_before way graph.nodes m) (lift before) in let none = old in omega (arith, e, none))

        low : sum_on theirs (lift (m ∷ before)) ≤ sum_on mine before
        low = elim (is_this (put_for (inserts m) x)) [
          | inl put ↦
              let one = chain_one m (length (inserts m)) (omega arith) in
              let more = deeper.1 (round_sinks.put m x t put) in
              let e = parts in
              omega (arith, one, more, e)
          | inr not ↦ (let none = unput_none m not in let le = deeper.0 in let e = parts in omega (arith, none, le, e))
        ]

        by : MovesAway graph way m x t ⊎ IsDelayedPast graph way late m x t → sum_on theirs (lift (m ∷ before)) + 1 ≤ sum_on mine (m ∷ before)
        by (inl o) = (let one = ap {B = ℕ} one_if o.1 in let le = low in omega (arith, one, le))
        by (inr on) =
            let none = unput_none m (λ put. none-some t (sym on.1.1 ∙ put)) in
            let more = deeper.1 on.1.0 in
            let e = parts in
            omega (arith, none, more, e)

    -- before a node no more stands in it than before, and one less where the assignment is delayed there
    pays : (n : ℕ) (before : List ℕ) → IsWalk graph.nodes (n ∷ before)
        → (sum_on theirs (lift before) ≤ sum_on mine before) × (late n x ≡ Some t → sum_on theirs (lift before) + 1 ≤ sum_on mine before)
    pays n [] walk = (omega arith, λ is. absurd (none-some t (sym (ap (λ m. late m x) (walk_alone graph.nodes n walk) ∙ round_sinks.start x) ∙ is)))
    pays n (m ∷ before) walk = paid n m before walk (pays m before (walk_before graph.nodes n m before walk))

  -- ---- one layout

  module _ (least : graph.shared ≤ length graph.vars) (one : HaveOneLayout graph round) where
    pub is_after : round ≡ record (rewritten (sinking graph is_round.is_sunk.inserts) [] graph) { nodes = pruned_from is_round.is_pruned.dead 0 (rewritten_nodes (sinking graph is_round.is_sunk.inserts) graph.nodes) }
    is_after = (round_is_step graph is_graph split round is_round).is

    pub laid_after : IsLaid graph.shared graph.vars graph.received (pruned_from is_round.is_pruned.dead 0 (rewritten_nodes (sinking graph is_round.is_sunk.inserts) graph.nodes)) one.unit.vars one.unit.body
    laid_after =
        let whole : IsLayout (record sunk { nodes = after }) one.unit = subst (λ g. IsLayout g one.unit) is_after one.of_second in
        subst (λ v. IsLaid graph.shared v graph.received after one.unit.vars one.unit.body) (append-nil graph.vars) whole.laid

    pub bodies : plain_body graph.received graph.nodes one.of_first.laid.plan ≡ plain_body graph.received (pruned_from is_round.is_pruned.dead 0 (rewritten_nodes (sinking graph is_round.is_sunk.inserts) graph.nodes)) laid_after.plan
    bodies = one_body graph.shared graph.vars graph.received graph.nodes after is_graph after_graph least one.unit.vars one.unit.body one.of_first.laid laid_after

    module _ (x : ℕ) (t : Rhs) where
      -- before a node that stops a walk it stands as often
      as_often : (f : ℕ) (before : List ℕ) → Trace graph.nodes f before → (f ≡ 0 → ⊥) → firm_at graph.nodes f ≡ true
          → sum_on (mine x t) before ≡ sum_on (theirs x t) (chain_before way graph.nodes f ++ lift x t before)
      as_often f before trace differ is =
          let up = lifted graph is_graph way late round_sinks f before trace in
          let stayed = path_stays sunk sunk_graph is_round.is_pruned.dead round_marks f (chain_before way graph.nodes f ++ lift x t before) up.trace in
          let walk = walk_to graph.shared graph.vars graph.received graph.nodes is_graph one.unit.vars one.unit.body one.of_first.laid x t f before trace differ
          (stop_of (slice_get graph.nodes f) is (λ s e. differ (is_graph.can.only f s e))) in
          let walk' = walk_to graph.shared graph.vars graph.received after after_graph one.unit.vars one.unit.body laid_after x t f (chain_before way graph.nodes f ++ lift x t before) stayed.stayed differ
          (stop_of (slice_get after f) (after_firm f ∙ is) (λ s e. differ (after_graph.can.only f s e))) in
          let ways : ways_on after f (chain_before way graph.nodes f ++ lift x t before) stayed.stayed [] ≡ ways_on graph.nodes f before trace [] = stayed.ways [] ∙ up.ways [] in
          one_walk moves x t (plain_body graph.received after laid_after.plan) (length graph.received) (ways_on graph.nodes f before trace []) (sum_on (mine x t) before) (sum_on (theirs x t) (chain_before way graph.nodes f ++ lift x t before))
          (subst (λ b. Walked x t b (length graph.received) (ways_on graph.nodes f before trace []) (sum_on (mine x t) before)) bodies walk)
          (subst (λ l. Walked x t (plain_body graph.received after laid_after.plan) (length graph.received) l (sum_on (theirs x t) (chain_before way graph.nodes f ++ lift x t before))) ways walk')

    -- so what is delayed at a firm node is blocked by it
    pub no_passing : (f x : ℕ) (t : Rhs) → f < length graph.nodes → firm_at graph.nodes f ≡ true → IsDelayedTo graph x t f → blocks_at x t graph f ≡ true
    no_passing f x t lt is delayed = elim (cases_Bool (blocks_at x t graph f)) [
      | inl blocked ↦ blocked
      | inr free ↦
          let differ : f ≡ 0 → ⊥ = λ e. none_at_start graph is_graph x t (subst (IsDelayedTo graph x t) e delayed) in
          let tr = trace_of graph is_graph f lt in
          let are = is_round.is_sunk.insertions in
          let is_late : late f x ≡ Some t = (are.delayed_are f x t lt).1 delayed in
          let unput : put_for (inserts f) x ≡ Some t → ⊥ = λ put. (
          let skip = passed_at_skip graph is_graph split f x t (((are.inserts_are f lt).exact x t).0 put) free in
          true≢false (sym is ∙ ap is_firm skip.1)) in
          let same = as_often x t f tr.0 tr.1 differ is in
          let none = unput_none x t f unput in
          let more = (pays x t f tr.0 tr.1).1 is_late in
          let parts = sum_append (theirs x t) (chain_before way graph.nodes f) (lift x t tr.0) in
          absurd (omega (arith, same, none, more, parts))
    ]
