-- From where a delayed pattern comes: from an occurrence in its block, or from the block's first node; and to the first
-- node of a block from an occurrence that leaves another.
use Rattle.std.proofs.Common.{◌≡◌, ◌⊎◌, ℕ, zero, suc, ◌+◌, ◌-◌, ◌<◌, ◌≤◌, true, false, List, length, slice_get, Some, sym, ap, inl, inr, ◌∙◌, subst, arith}
use Rattle.std.proofs.lemmas.Bool.{cases_eq}
use Rattle.std.proofs.lemmas.Option.{slice_get_within}
use Rattle.mir_base.specs.declared.instructions.Rhs.{Rhs}
use Rattle.flow_graph.specs.BlockLaws.{chain_inner, chain_on, glued_edge, only_from, only_to}
use Rattle.flow_graph.specs.Blocks.{IsBlocks, IsChain, IsGlued}
use Rattle.flow_graph.specs.Edges.{IsSplit}
use Rattle.flow_graph.specs.Graphs.{GraphShape, IsGraph}
use Rattle.flow_graph.specs.ListLaws.{some_at}
use Rattle.flow_graph.specs.PathLaws.{end_stands, first_begins}
use Rattle.flow_graph.specs.Paths.{Ends, HasEdge, Trace, from_start, goes_on}
use Rattle.path_laws.specs.Paths.{Since}
use Rattle.graph_edit.specs.Accesses.{blocks_at, occurs_at}
use Rattle.sink_code.specs.Delaying.{IsDelayedTo}
use Rattle.sink_code.proofs.Carried.{glued_on}
use Rattle.sink_code.specs.DelayLaws.{came_from, occurs_on, source_within}

module _ (graph : GraphShape) (is_graph : IsGraph graph.vars graph.received graph.nodes) (x : ℕ) (t : Rhs) where
  -- no node of the list at these indices blocks the pattern
  abbrev pub NoneBlocks : List ℕ → ℕ → ℕ → Type 0
  NoneBlocks list low high = (k n : ℕ) → low ≤ k → k < high → slice_get list k ≡ Some n → blocks_at x t graph n ≡ false

  -- an occurrence at an index of the list, after which no node blocks the pattern before a later index
  pub record OccursBefore (list : List ℕ) (to : ℕ) : Type 0 where
    pub at : ℕ
    pub node : ℕ
    pub before : at < to
    pub listed : slice_get list at ≡ Some node
    pub occurs : occurs_at x t graph node ≡ true
    pub free : NoneBlocks list (suc at) to

  -- one node more does not block it
  pub none_more : (list : List ℕ) (low high n : ℕ) → slice_get list high ≡ Some n → blocks_at x t graph n ≡ false → NoneBlocks list low high → NoneBlocks list low (suc high)
  none_more list low high n at free none k m le lt e = elim (cases_eq k high) [
    | inl same ↦ (let both : Some n ≡ Some m = sym at ∙ ap (slice_get list) (sym same) ∙ e in let is : n ≡ m = cc in ap (blocks_at x t graph) (sym is) ∙ free)
    | inr differ ↦ none k m le (omega (arith, lt, differ)) e
  ]

  -- so an occurrence reaches one index more
  pub occurs_more : (list : List ℕ) (to n : ℕ) → slice_get list to ≡ Some n → blocks_at x t graph n ≡ false → OccursBefore list to → OccursBefore list (suc to)
  occurs_more list to n at free o = record { at = o.at; node = o.node; before = (let lt = o.before in omega (arith, lt)); listed = o.listed; occurs = o.occurs; free = none_more list (suc o.at) to n at free o.free }

  -- ---- in a block

  module _ (split : IsSplit graph.nodes) (list : List ℕ) (chain : IsChain graph.nodes list) where
    -- what is delayed at one node of a block is delayed at a later one, where none between blocks it
    pub delayed_on : (more i m n : ℕ) → slice_get list i ≡ Some m → slice_get list (i + more) ≡ Some n → NoneBlocks list i (i + more) → IsDelayedTo graph x t m → IsDelayedTo graph x t n
    delayed_on zero i m n at to none d =
        let same : i + 0 ≡ i = omega arith in
        let both : Some m ≡ Some n = sym at ∙ ap (slice_get list) (sym same) ∙ to in
        let is : m ≡ n = cc in
        subst (IsDelayedTo graph x t) is d
    delayed_on (suc more) i m n at to none d =
        let some = some_at list (suc i) (let within = slice_get_within list (i + suc more) n to in omega (arith, within)) in
        let before = chain_inner graph.nodes list i some.0 chain some.1 in
        let both : Some before.0 ≡ Some m = sym before.1 ∙ at in
        let is : before.0 ≡ m = cc in
        let glued : IsGlued graph.nodes m some.0 = subst (λ k. IsGlued graph.nodes k some.0) is before.2 in
        let next = glued_on graph is_graph x t m some.0 glued (none i m (omega arith) (omega arith) at) d in
        let same : i + suc more ≡ suc i + more = omega arith in
        delayed_on more (suc i) some.0 n some.1 (ap (slice_get list) (sym same) ∙ to) (λ k l low high e. none k l (omega (arith, low)) (omega (arith, high, same)) e) next

    -- so the pattern is delayed at each node of the list behind an occurrence with no node between that blocks it
    pub occurs_delayed : (to n : ℕ) → slice_get list to ≡ Some n → OccursBefore list to → IsDelayedTo graph x t n
    occurs_delayed to n at o =
        let some = some_at list (suc o.at) (let within = slice_get_within list to n at in let lt = o.before in omega (arith, within, lt)) in
        let before = chain_inner graph.nodes list o.at some.0 chain some.1 in
        let both : Some before.0 ≡ Some o.node = sym before.1 ∙ o.listed in
        let is : before.0 ≡ o.node = cc in
        let edge : HasEdge graph.nodes o.node some.0 = subst (λ k. HasEdge graph.nodes k some.0) is (glued_edge graph.nodes before.0 some.0 before.2) in
        let first = occurs_on graph is_graph split o.node some.0 x t edge o.occurs in
        let reach : suc o.at + (to - suc o.at) ≡ to = (let lt = o.before in omega (arith, lt)) in
        delayed_on (to - suc o.at) (suc o.at) some.0 n some.1 (ap (slice_get list) reach ∙ at) (λ k l low high e. o.free k l low (omega (arith, high, reach)) e) first

    -- and what is delayed at a node came from an occurrence in its block, or to the first node of that
    pub delayed_from : (i n : ℕ) → slice_get list i ≡ Some n → IsDelayedTo graph x t n → OccursBefore list i ⊎ ((head : ℕ) × (slice_get list 0 ≡ Some head) × IsDelayedTo graph x t head × NoneBlocks list 0 i)
    delayed_from zero n at d = inr (n, at, d, λ k m le lt e. absurd (omega (arith, lt)))
    delayed_from (suc i) n at d =
        let before = chain_inner graph.nodes list i n chain at in
        let m = before.0 in
        elim (came_from graph is_graph m n x t (glued_edge graph.nodes m n before.2) d) [
          | inl o ↦ inl (record { at = i; node = m; before = omega arith; listed = before.1; occurs = o; free = λ k l low high e. absurd (omega (arith, low, high)) })
          | inr passes ↦ elim (delayed_from i m before.1 passes.1) [
            | inl o ↦ inl (occurs_more list i m before.1 passes.0 o)
            | inr first ↦ inr (first.0, first.1, first.2, none_more list 0 i m before.1 passes.0 first.3)
          ]
        ]

  -- ---- over blocks

  module _ (lists : List (List ℕ)) (are : IsBlocks graph.nodes lists) where
    -- a block that an occurrence in it leaves, for another
    pub record LeavesSome : Type 0 where
      pub block : ℕ
      pub list : List ℕ
      pub last : ℕ
      pub next : ℕ
      pub is_block : slice_get lists block ≡ Some list
      pub ends : Ends last list
      pub step : HasEdge graph.nodes last next
      pub from : OccursBefore list (length list)

    -- what holds on a path to a node of a block came from an occurrence in it, or from one that left another
    pub since_from : (n : ℕ) (before : List ℕ) → Trace graph.nodes n before → Since (occurs_at x t graph) (blocks_at x t graph) before
        → (b i : ℕ) (list : List ℕ) → slice_get lists b ≡ Some list → slice_get list i ≡ Some n → OccursBefore list i ⊎ LeavesSome
    since_from n before from_start since b i list is_block at = absurd since
    since_from n before (goes_on m k earlier trace edge) since b zero list is_block at =
        let stands = are.every m (source_within graph is_graph m k edge) in
        let from_list = stands.1.list in
        let from = are.blocks stands.0 from_list stands.1.listed in
        let block = are.blocks b list is_block in
        let ends : Ends m from_list = elim (chain_on graph.nodes from_list stands.1.place m from.chain stands.1.is) as (λ _. Ends m from_list) [
          | inl ends ↦ ends
          | inr next ↦ (let same : k ≡ next.0 = only_to graph.nodes m next.0 k next.2.leaves edge in absurd (block.first k (first_begins list k at) m (subst (IsGlued graph.nodes m) (sym same) next.2)))
        ] in
        let place = length from_list - 1 in
        let last : slice_get from_list place ≡ Some m = end_stands from_list m ends in
        let within = slice_get_within from_list place m last in
        let whole : suc place ≡ length from_list = omega (arith, within) in
        let leave : OccursBefore from_list (suc place) → LeavesSome
        = λ o. record { block = stands.0; list = from_list; last = m; next = k; is_block = stands.1.listed; ends = ends; step = edge; from = subst (OccursBefore from_list) whole o } in
        inr (elim since [
          | inl o ↦ leave (record { at = place; node = m; before = omega arith; listed = last; occurs = o; free = λ j l low high e. absurd (omega (arith, low, high)) })
          | inr passes ↦ elim (since_from m earlier trace passes.1 stands.0 place from_list stands.1.listed last) [
            | inl o ↦ leave (occurs_more from_list place m last passes.0 o)
            | inr some ↦ some
          ]
        ])
    since_from n before (goes_on m k earlier trace edge) since b (suc i) list is_block at =
        let inner = chain_inner graph.nodes list i k (are.blocks b list is_block).chain at in
        let same : m ≡ inner.0 = only_from graph.nodes inner.0 k m inner.2.enters edge in
        let m_at : slice_get list i ≡ Some m = inner.1 ∙ ap Some (sym same) in
        elim since [
          | inl o ↦ inl (record { at = i; node = m; before = omega arith; listed = m_at; occurs = o; free = λ j l low high e. absurd (omega (arith, low, high)) })
          | inr passes ↦ elim (since_from m earlier trace passes.1 b i list is_block m_at) [
            | inl o ↦ inl (occurs_more list i m m_at passes.0 o)
            | inr some ↦ inr some
          ]
        ]
