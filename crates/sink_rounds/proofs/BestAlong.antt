-- Along a path: what stands in the round has stood in the step. Where the round is behind, since it delays an assignment
-- that the step has put, and kept, the step is ahead by one.
use Rattle.std.proofs.Common.{◌≡◌, ◌⊎◌, ◌+◌, ◌<◌, ◌≤◌, ℕ, Bool, true, false, List, [], ◌∷◌, length, slice_get, Option, Some, None, option_map, inl, inr, refl, sym, ap, ◌∙◌, arith}
use Rattle.std.proofs.lemmas.Bool.{cases_Bool, true≢false}
use Rattle.std.proofs.lemmas.Option.{none-some, same_Some, slice_get_within}
use Rattle.mir_base.specs.Expressions.{divides}
use Rattle.mir_base.specs.ItemLaws.{one_item}
use Rattle.mir_base.specs.declared.instructions.Rhs.{Rhs}
use Rattle.flow_graph.specs.declared.nodes.Node.{Node}
use Rattle.flow_graph.specs.declared.nodes.Node.TheVariants.{Start, Assign}
use Rattle.flow_graph.specs.Edges.{IsSplit}
use Rattle.flow_graph.specs.Graphs.{AllWithin, GraphShape, IsGraph, succs_of}
use Rattle.flow_graph.specs.Paths.{HasEdge, IsPath}
use Rattle.flow_graph.specs.Sums.{one_if, sum_on}
use Rattle.graph_edit.specs.ChangeLaws.{changed_not}
use Rattle.graph_edit.specs.InsertionPaths.{chain_is}
use Rattle.graph_edit.specs.Insertions.{Insertion, Removed, Rewriting, changed, entry, put_below, rewritten, rewritten_nodes}
use Rattle.graph_edit.specs.Over.{over_path}
use Rattle.sink_code.specs.Sinking.{put_for}
use Rattle.graph_edit.specs.Accesses.{assigns_var, blocks_at, blocks_pattern, is_occurrence, is_sinkable, occurs_at, same_rhs}
use Rattle.dead_code.specs.Liveness.{IsLiveBefore}
use Rattle.dead_code.specs.Pruned.{IsDeadAt}
use Rattle.sink_code.specs.SunkGraphs.{AreInsertions, emptied, sinking}
use Rattle.sink_code.specs.DelayLaws.{back_to, inserts_apart, none_at_start, put_delayed, source_within}
use Rattle.graph_edit.specs.OccurrenceLaws.{lets_pass, occurrence_is, occurrence_sinkable, sinkable_is}
use Rattle.graph_edit.specs.SameRhs.{same_rhs_is, same_rhs_itself}
use Rattle.sink_rounds.proofs.Bridge.{contains_live}
use Rattle.sink_rounds.proofs.Chains.{chain_at_least, chain_at_most, chain_sum, old_at_least, old_none, ones, over_sum}
use Rattle.sink_rounds.proofs.LiveOver.{ContainsLive, LiveOver, node_after}
use Rattle.sink_rounds.specs.Maximal.{late_on, late_too, put_too}
use Rattle.sink_rounds.specs.Steps.{IsSinking}
use Rattle.sink_rounds.proofs.Transfer.{stays_is, wanted_too}

-- whether this is the right side
is_this : (t : Rhs) (o : Option Rhs) → (o ≡ Some t) ⊎ (o ≡ Some t → ⊥)
is_this t None = inr (λ e. none-some t e)
is_this t (Some u) = elim (cases_Bool (same_rhs t u)) [
  | inl same ↦ inl (ap (λ (q : Rhs). Some q) (sym (same_rhs_is t u same)))
  | inr differ ↦ inr (λ e. true≢false (sym (ap (same_rhs t) (same_Some u t e) ∙ same_rhs_itself t) ∙ differ))
]

-- in the round no occurrence stays where it was
emptied_out : (x : ℕ) (t : Rhs) (o : Option Node) → is_occurrence x t (option_map (changed (emptied (is_sinkable o))) o) ≡ false
emptied_out x t None = refl
emptied_out x t (Some node) = elim (cases_Bool (is_sinkable (Some node))) [
  | inl sinkable ↦
      let w = sinkable_is (Some node) sinkable in
      ap (λ b. is_occurrence x t (option_map (changed (emptied b)) (Some node))) sinkable ∙ ap (λ o. is_occurrence x t (option_map (changed Removed) o)) w.3
  | inr kept ↦
      ap (λ b. is_occurrence x t (option_map (changed (emptied b)) (Some node))) kept
      ∙ ap (λ (m : Node). is_occurrence x t (Some m)) (changed_not node)
      ∙ out kept
]
  where
    out : is_sinkable (Some node) ≡ false → is_occurrence x t (Some node) ≡ false
    out kept = elim (cases_Bool (is_occurrence x t (Some node))) [
      | inl is ↦ absurd (true≢false (sym (occurrence_sinkable x t (Some node) is) ∙ kept))
      | inr none ↦ none
    ]

module _ (graph : GraphShape) (is_graph : IsGraph graph.vars graph.received graph.nodes) (split : IsSplit graph.nodes) (late' : ℕ → ℕ → Option Rhs) (inserts : ℕ → List Insertion) (are : AreInsertions graph late' inserts)
    (gone : ℕ → Bool) (alive : (k : ℕ) → k < length (rewritten_nodes (sinking graph inserts) graph.nodes) → gone k ≡ false → IsDeadAt (rewritten (sinking graph inserts) [] graph) k → ⊥)
    (r : Rewriting) (late : ℕ → ℕ → Option Rhs) (sinks : IsSinking graph r late) (dead : ℕ → Bool) (dead_are : (k : ℕ) → k < length (rewritten_nodes r graph.nodes) → dead k ≡ true → IsDeadAt (rewritten r [] graph) k)
    (x : ℕ) (t : Rhs) (sinkable : divides t ≡ false) where
  abbrev round : Rewriting
  round = sinking graph inserts

  abbrev new : GraphShape
  new = rewritten r [] graph

  abbrev count : ℕ
  count = length graph.nodes

  abbrev to : ℕ → ℕ
  to = entry r.inserts (length graph.nodes)

  -- edges lead to nodes
  within : AllWithin graph.nodes
  within = λ m slot s edge. (is_graph.can.succs m slot s edge).1

  abbrev mine : ℕ → ℕ
  mine = ones graph round x t sinkable gone

  abbrev theirs : ℕ → ℕ
  theirs = ones graph r x t sinkable dead

  abbrev my_chain : ℕ → ℕ
  my_chain n = chain_sum mine (count + put_below inserts n) (inserts n)

  abbrev their_chain : ℕ → ℕ
  their_chain n = chain_sum theirs (count + put_below r.inserts n) (r.inserts n)

  -- what is live in the step contains what is live on the old nodes
  closed : ContainsLive graph r x (IsLiveBefore new x) (λ s. IsLiveBefore new x (to s))
  closed = contains_live graph r x within

  -- the step is ahead by one before node n; or where the round alone delays x <- t there, x is not live in the step
  abbrev pub Owes : ℕ → Bool → Type 0
  Owes n owed = (owed ≡ true) ⊎ (late' n x ≡ Some t → (late n x ≡ Some t → ⊥) → IsLiveBefore new x (to n) → ⊥)

  -- where the round alone delays it, the step puts no assignment of x
  unput : (n : ℕ) → n < count → late' n x ≡ Some t → (late n x ≡ Some t → ⊥) → put_for (r.inserts n) x ≡ None
  unput n lt is not = by (put_for (r.inserts n) x) refl
    where
      by : (o : Option Rhs) → put_for (r.inserts n) x ≡ o → o ≡ None
      by None e = refl
      by (Some u) e =
          let late_u = sinks.put n x u e in
          absurd (not (late_u ∙ sym (late_too graph r late sinks late' inserts are n x u lt late_u) ∙ is))

  -- at an old node the round has none
  mine_none : (n : ℕ) → n < count → mine n ≡ 0
  mine_none n lt = old_none graph round x t sinkable gone n lt (emptied_out x t (slice_get graph.nodes n))

  -- what the round has before a node, the step has there, or is ahead by
  covered : (n : ℕ) (owed : Bool) → n < count → Owes n owed → my_chain n ≤ one_if owed + their_chain n
  covered n owed lt owes = elim (chain_at_most graph round x t sinkable gone within alive n (count + put_below inserts n) (inserts n) lt (chain_is round graph.nodes n lt) (inserts_apart graph is_graph split late' inserts are n)) [
    | inl none ↦ omega (arith, none)
    | inr one ↦ elim (is_this t (late n x)) [
      | inl is ↦ elim (chain_at_least graph r x t sinkable dead dead_are n (count + put_below r.inserts n) (r.inserts n) (chain_is r graph.nodes n lt) (sinks.apart n) (put_too graph r late sinks late' inserts are n x t lt one.1.0 is)) [
        | inl some ↦ omega (arith, some, one.0)
        | inr dead ↦ absurd (one.1.1 (λ live. dead (wanted one.1.0 live)))
      ]
      | inr not ↦ elim owes [
        | inl ahead ↦ (let more = ap {B = ℕ} one_if ahead in omega (arith, more, one.0))
        | inr dead ↦
            let is = put_delayed graph is_graph split late' inserts are n x t lt one.1.0 in
            absurd (one.1.1 (λ live. dead is not (closed.enter n lt (unput n lt is not) (wanted one.1.0 live))))
      ]
    ]
  ]
    where
      wanted : put_for (inserts n) x ≡ Some t → LiveOver graph round x n → IsLiveBefore new x n
      wanted put live = wanted_too graph is_graph split late' inserts are x r late sinks (IsLiveBefore new x) (λ s. IsLiveBefore new x (to s)) closed n t lt put live

  -- a node that lets x <- t pass does not assign x, whatever becomes of it
  unassigned : (n : ℕ) → blocks_at x t graph n ≡ false → assigns_var graph x (node_after graph r n) ≡ false
  unassigned n free = elim (sinks.only n) [
    | inl unchanged ↦ ap (λ c. assigns_var graph x (option_map (changed c) (slice_get graph.nodes n))) unchanged ∙ ap (assigns_var graph x) (stays_is (slice_get graph.nodes n)) ∙ by (slice_get graph.nodes n) free
    | inr removed ↦
        let w = sinkable_is (slice_get graph.nodes n) removed.1 in
        ap (λ c. assigns_var graph x (option_map (changed c) (slice_get graph.nodes n))) removed.0 ∙ ap (λ o. assigns_var graph x (option_map (changed Removed) o)) w.3
  ]
    where
      by : (o : Option Node) → blocks_pattern graph x t o ≡ false → assigns_var graph x o ≡ false
      by None f = refl
      by (Some node) f = let lets = lets_pass graph x t node f in lets.sets

  -- past a node
  record Past (n m : ℕ) (owed : Bool) : Type 0 where
    next : Bool
    owes : Owes m next
    enough : my_chain n + one_if next ≤ one_if owed + (their_chain n + theirs n)

  -- where the round is not behind after it
  level : (n m : ℕ) (owed : Bool) → n < count → Owes n owed → (late' m x ≡ Some t → (late m x ≡ Some t → ⊥) → ⊥) → Past n m owed
  level n m owed lt owes none = record { next = false; owes = inr (λ is not live. none is not); enough = (let all = covered n owed lt owes in omega (arith, all)) }

  -- in each case: at the target the round delays x <- t or not, and the step does too or not
  past : (n m : ℕ) (owed : Bool) → HasEdge graph.nodes n m → Owes n owed → Past n m owed
  past n m owed edge owes = elim (is_this t (late' m x)) [
    | inr not ↦ level n m owed lt owes (λ is not_late. not is)
    | inl is ↦ elim (is_this t (late m x)) [
      | inl late_m ↦ level n m owed lt owes (λ is' not_late. not_late late_m)
      | inr not ↦ elim (back_to graph is_graph split late' inserts are n m x t edge is) [
        | inl o ↦ at_occurrence o not
        | inr passed ↦ passing passed.free passed.late_there passed.not_put not
      ]
    ]
  ]
    where
      lt : n < count
      lt = source_within graph is_graph n m edge

      -- the step leaves the occurrence where it is
      at_occurrence : occurs_at x t graph n ≡ true → (late m x ≡ Some t → ⊥) → Past n m owed
      at_occurrence o not = elim (sinks.only n) [
        | inr removed ↦ absurd (not (gone_on removed.0))
        | inl unchanged ↦ elim (old_at_least graph r x t sinkable dead dead_are n w.0 w.1 unchanged) [
          | inl some ↦ record { next = true; owes = inl refl; enough = (let all = covered n owed lt owes in omega (arith, all, some)) }
          | inr none ↦ record { next = false; owes = inr (λ is not' live. none m edge live); enough = (let all = covered n owed lt owes in omega (arith, all)) }
        ]
      ]
        where
          w : (next : ℕ) × (slice_get graph.nodes n ≡ Some (Assign x t next)) × (divides t ≡ false)
          w = occurrence_is x t (slice_get graph.nodes n) o

          gone_on : r.changes n ≡ Removed → late m x ≡ Some t
          gone_on removed =
              let leads : w.0 ≡ m = one_item w.0 m edge.0 (sym (ap (λ (o : Option Node). slice_get (succs_of o) edge.0) w.1) ∙ edge.1) in
              sinks.removed n m x t (w.1 ∙ ap (λ k. Some (Assign x t k)) leads) removed

      -- it passes the node in the round; before the node or earlier the step has put it
      passing : blocks_at x t graph n ≡ false → late' n x ≡ Some t → put_for (inserts n) x ≡ None → (late m x ≡ Some t → ⊥) → Past n m owed
      passing free there not_put not = elim (is_this t (late n x)) [
        | inl late_n ↦ elim (chain_at_least graph r x t sinkable dead dead_are n (count + put_below r.inserts n) (r.inserts n) (chain_is r graph.nodes n lt) (sinks.apart n) (stopped late_n)) [
          | inl some ↦ record { next = true; owes = inl refl; enough = omega (arith, nothing, some) }
          | inr none ↦ record { next = false; owes = inr (λ is not' live. none (closed.back n m edge (unassigned n free) live)); enough = omega (arith, nothing) }
        ]
        | inr not_late ↦ record { next = owed; owes = still not_late; enough = omega (arith, nothing) }
      ]
        where
          nothing : my_chain n ≡ 0
          nothing = elim (chain_at_most graph round x t sinkable gone within alive n (count + put_below inserts n) (inserts n) lt (chain_is round graph.nodes n lt) (inserts_apart graph is_graph split late' inserts are n)) [
            | inl none ↦ none
            | inr one ↦ absurd (none-some t (sym not_put ∙ one.1.0))
          ]

          stopped : late n x ≡ Some t → put_for (r.inserts n) x ≡ Some t
          stopped late_n = by (put_for (r.inserts n) x) refl
            where
              by : (o : Option Rhs) → put_for (r.inserts n) x ≡ o → o ≡ Some t
              by None e = absurd (not (late_on graph r late sinks n m x t edge late_n free e))
              by (Some u) e = sym (sinks.put n x u e) ∙ late_n

          still : (late n x ≡ Some t → ⊥) → Owes m owed
          still not_late = elim owes [
            | inl ahead ↦ inl ahead
            | inr dead' ↦ inr (λ is not' live. dead' there not_late (closed.enter n lt (unput n lt there not_late) (closed.back n m edge (unassigned n free) live)))
          ]

  -- from any node on
  pub along : (path : List ℕ) (n : ℕ) (owed : Bool) → IsPath graph.nodes (n ∷ path) → Owes n owed → sum_on mine (over_path inserts count (n ∷ path)) ≤ one_if owed + sum_on theirs (over_path r.inserts count (n ∷ path))
  along [] n owed is_path owes =
      let all = covered n owed is_path owes in
      omega (arith, all, mine_none n is_path, over_sum mine inserts count n [], over_sum theirs r.inserts count n [])
  along (m ∷ path) n owed is_path owes =
      let p = past n m owed is_path.0 owes in
      let rest = along path m p.next is_path.1 p.owes in
      let enough = p.enough in
      let none = mine_none n (source_within graph is_graph n m is_path.0) in
      omega (arith, enough, rest, none, over_sum mine inserts count n (m ∷ path), over_sum theirs r.inserts count n (m ∷ path))

  -- from Start on
  pub whole : (path : List ℕ) → IsPath graph.nodes (0 ∷ path) → sum_on mine (over_path inserts count (0 ∷ path)) ≤ sum_on theirs (over_path r.inserts count (0 ∷ path))
  whole path is_path =
      let all = along path 0 false is_path (inr (λ is not live. none_at_start graph is_graph x t ((are.delayed_are 0 x t (slice_get_within graph.nodes 0 (Start is_graph.can.start.0) is_graph.can.start.1)).0 is))) in
      omega (arith, all)
