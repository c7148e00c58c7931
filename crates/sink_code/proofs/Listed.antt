-- Which patterns are in the table: those that leave a block in which they occur, and so those that come into a block.
use Rattle.std.proofs.Common.{◌≡◌, ◌↔◌, ℕ, suc, ◌+◌, ◌-◌, ◌<◌, ◌≤◌, Bool, true, false, List, length, slice_get, take, Some, sym, ap, inl, inr, ◌∙◌, subst, arith, true≢false}
use Rattle.std.proofs.lemmas.Bool.{and_from, and_parts, cases_lt}
use Rattle.std.proofs.lemmas.List.{take_all}
use Rattle.std.proofs.lemmas.Option.{same_Some, slice_get_within}
use Rattle.mir_base.specs.declared.instructions.Rhs.{Rhs}
use Rattle.mir_base.specs.ItemLaws.{one_place}
use Rattle.mir_base.specs.Shapes.{AllDiffer}
use Rattle.flow_graph.specs.Blocks.{IsBlocks}
use Rattle.flow_graph.specs.Graphs.{GraphShape, IsGraph}
use Rattle.flow_graph.specs.ListLaws.{some_at}
use Rattle.path_laws.specs.Blockwise.{passed_all}
use Rattle.path_laws.specs.Paths.{has_bit}
use Rattle.path_laws.specs.Says.{same_says}
use Rattle.sink_code.specs.declared.inside.Inside.{Inside}
use Rattle.sink_code.specs.declared.patterns.Pattern.{Pattern}
use Rattle.graph_edit.specs.Accesses.{blocks_at, occurs_at}
use Rattle.sink_code.specs.BlockRows.{leaves_own}
use Rattle.sink_code.specs.Delaying.{IsDelayedTo}
use Rattle.sink_code.specs.Inside.{AreInside, LeavesBlock, comes_past, goes_on, stop_from}
use Rattle.sink_code.specs.DelayLaws.{trace_of}
use Rattle.sink_code.proofs.FoundAll.{occurs_there, reaches_stop}
use Rattle.sink_code.proofs.GoesOn.{goes_on_last}
use Rattle.sink_code.proofs.Passing.{came_in, comes_on, seed_comes}
use Rattle.sink_code.proofs.Sources.{OccursBefore, since_from}
use Rattle.sink_code.proofs.Stops.{stop_is, stops_blocks}

module _ (graph : GraphShape) (is_graph : IsGraph graph.vars graph.received graph.nodes) where
  -- ---- what leaves a block

  module _ (x : ℕ) (t : Rhs) (list : List ℕ) where
    abbrev whole : Bool → List ℕ → Bool
    whole came path = passed_all (occurs_at x t graph) (blocks_at x t graph) came path

    all_is : take (length list) list ≡ list
    all_is = take_all (length list) list (omega arith)

    -- what comes past a block in which it came to no node before came from an occurrence
    pub past_occurs : comes_past graph x t false list ≡ true → OccursBefore graph is_graph x t list (length list)
    past_occurs comes = elim (came_in (occurs_at x t graph) (blocks_at x t graph) list false (length list) (omega arith) (ap (whole false) all_is ∙ comes)) [
      | inl from ↦ record { at = from.at; node = from.node; before = from.before; listed = from.listed; occurs = from.seeded; free = λ k n low high e. from.free k n (omega (arith, low)) high e }
      | inr none ↦ absurd (true≢false (sym none.0))
    ]

    -- and an occurrence that no later node blocks comes past it
    pub occurs_past : OccursBefore graph is_graph x t list (length list) → comes_past graph x t false list ≡ true
    occurs_past o =
        let within = slice_get_within list o.at o.node o.listed in
        let reach : suc o.at + (length list - suc o.at) ≡ length list = omega (arith, within) in
        let first = seed_comes (occurs_at x t graph) (blocks_at x t graph) list false o.at o.node o.listed o.occurs in
        let all = comes_on (occurs_at x t graph) (blocks_at x t graph) list false (length list - suc o.at) (suc o.at) (omega (arith, reach)) (λ k n low high e. o.free k n low (omega (arith, high, reach)) e) first in
        sym (ap (whole false) all_is) ∙ ap (λ k. whole false (take k list)) (sym reach) ∙ all

    -- nothing stops it on the way
    pub free_end : (o : OccursBefore graph is_graph x t list (length list)) → length list ≤ stop_from graph list (suc o.at) (record { var = x; rhs = t })
    free_end o =
        let p : Pattern = record { var = x; rhs = t } in
        let within = slice_get_within list o.at o.node o.listed in
        let stop = stop_is graph list (suc o.at) p (omega (arith, within)) in
        elim (cases_lt (stop_from graph list (suc o.at) p) (length list)) [
          | inl lt ↦ (let there = some_at list (stop_from graph list (suc o.at) p) lt in absurd (true≢false (sym (stops_blocks graph x t there.0 (stop.stops there.0 there.1)) ∙ o.free (stop_from graph list (suc o.at) p) there.0 stop.late lt there.1)))
          | inr ge ↦ ge
        ]

  -- ---- what is listed

  module _ (lists : List (List ℕ)) (are : IsBlocks graph.nodes lists) (found : Inside) (inside : AreInside graph lists found) where
    -- a pattern that leaves a block in which it occurs is listed
    pub own_listed : (x b : ℕ) (list : List ℕ) (t : Rhs) → slice_get lists b ≡ Some list → goes_on graph list ≡ true → OccursBefore graph is_graph x t list (length list)
        → (i : ℕ) × (number : ℕ) × (slice_get found.leaving.items i ≡ Some (record { block = b; number = number })) × (slice_get found.table number ≡ Some (record { var = x; rhs = t }))
    own_listed x b list t is_block on o = (inside.all b o.at list (record { var = x; rhs = t }) is_block (occurs_there graph is_graph list (length list) x t o)).left (free_end x t list o) on

    -- and one that comes into a block left another
    pub head_listed : (x b head : ℕ) (list : List ℕ) (t : Rhs) → slice_get lists b ≡ Some list → slice_get list 0 ≡ Some head → head < length graph.nodes → IsDelayedTo graph x t head
        → (number : ℕ) × (slice_get found.table number ≡ Some (record { var = x; rhs = t }))
    head_listed x b head list t is_block at lt d =
        let tr = trace_of graph is_graph head lt in
        elim (since_from graph is_graph x t lists are head tr.0 tr.1 (d tr.0 tr.1) b 0 list is_block at) [
          | inl o ↦ (let before = o.before in absurd (omega (arith, before)))
          | inr from ↦
              let listed = own_listed x from.block from.list t from.is_block (goes_on_last graph from.list from.last from.next from.ends from.step) from.from in
              (listed.1, listed.3)
        ]

    -- what is listed leaves its block
    pub listed_leaves : (i b number : ℕ) (list : List ℕ) (p : Pattern) → slice_get found.leaving.items i ≡ Some (record { block = b; number = number }) → slice_get lists b ≡ Some list → slice_get found.table number ≡ Some p → leaves_own graph p list ≡ true
    listed_leaves i b number list p at is_block numbered =
        let left = inside.sunk.leaving i (record { block = b; number = number }) at in
        let list_is : left.list ≡ list = same_Some left.list list (sym left.is_block ∙ is_block) in
        let p_is : left.p ≡ p = same_Some left.p p (sym left.numbered ∙ numbered) in
        let here = own_leaves left in
        subst (λ q. leaves_own graph q list ≡ true) p_is (subst (λ l. leaves_own graph left.p l ≡ true) list_is here)
      where
        own_leaves : (left : LeavesBlock graph lists found.table (record { block = b; number = number })) → leaves_own graph left.p left.list ≡ true
        own_leaves left =
            let chain = (are.blocks b left.list left.is_block).chain in
            let reaches = reaches_stop graph is_graph left.list left.index left.p chain left.occurs in
            let few = (stop_is graph left.list (suc left.index) left.p (let within = slice_get_within left.list left.index left.occurs.at left.occurs.listed in omega (arith, within))).few in
            let end : stop_from graph left.list (suc left.index) left.p ≡ length left.list = (let free = left.free in omega (arith, free, few)) in
            let comes = occurs_past left.p.var left.p.rhs left.list (subst (OccursBefore graph is_graph left.p.var left.p.rhs left.list) end reaches) in
            and_from (goes_on graph left.list) (comes_past graph left.p.var left.p.rhs false left.list) left.on comes

    -- so rows with the bits that are listed say which patterns leave blocks in which they occur
    pub listed_rows : AllDiffer found.table → (rows : List (List Bool)) → ((b k : ℕ) → (has_bit rows k b ≡ true) ↔ ((i : ℕ) × (slice_get found.leaving.items i ≡ Some (record { block = b; number = k }))))
        → (b k : ℕ) (list : List ℕ) (p : Pattern) → slice_get lists b ≡ Some list → slice_get found.table k ≡ Some p → has_bit rows k b ≡ leaves_own graph p list
    listed_rows differ rows tell b k list p is_block numbered = same_says (has_bit rows k b) (leaves_own graph p list) (
      (λ on. (let at = (tell b k).0 on in listed_leaves at.0 b k list p at.1 is_block numbered)),
      (λ leaves.
          let parts = and_parts (goes_on graph list) (comes_past graph p.var p.rhs false list) leaves in
          let listed = own_listed p.var b list p.rhs is_block parts.0 (past_occurs p.var p.rhs list parts.1) in
          let one : listed.1 ≡ k = one_place found.table differ listed.1 k p listed.3 numbered in
          (tell b k).1 (listed.0, subst (λ j. slice_get found.leaving.items listed.0 ≡ Some (record { block = b; number = j })) one listed.2)),
    )
