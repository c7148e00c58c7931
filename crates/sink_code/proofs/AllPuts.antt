-- What is put inside blocks, from their heads and at their ends is all that is inserted.
use Rattle.std.proofs.Common.{◌≡◌, ◌⊎◌, ◌↔◌, ℕ, zero, suc, ◌+◌, ◌-◌, ◌<◌, ◌≤◌, Bool, true, false, Contains, List, [], length, replicate, slice_get, Option, Some, None, refl, sym, ap, inl, inr, ◌∙◌, subst, arith, true≢false}
use Rattle.std.proofs.lemmas.Bool.{and_from, and_parts, cases_Bool, cases_eq, cases_lt}
use Rattle.std.proofs.lemmas.List.{get_or-replicate, length-replicate}
use Rattle.std.proofs.lemmas.Option.{slice_get_within}
use Rattle.mir_base.specs.declared.instructions.Rhs.{Rhs}
use Rattle.mir_base.specs.ItemLaws.{contained_at}
use Rattle.key_table.specs.KeyLaws.{place_of}
use Rattle.flow_graph.specs.declared.nodes.Node.{Node}
use Rattle.flow_graph.specs.declared.nodes.Node.TheVariants.{Assign, Skip}
use Rattle.flow_graph.specs.BlockLaws.{begin_of, chain_on, chain_within, edge_within, glued_edge, one_place}
use Rattle.flow_graph.specs.Blocks.{IsBlocks, IsChain}
use Rattle.flow_graph.specs.Edges.{IsSplit}
use Rattle.flow_graph.specs.Graphs.{GraphShape, IsGraph, succs_of}
use Rattle.flow_graph.specs.PathLaws.{end_stands, first_begins}
use Rattle.flow_graph.specs.Paths.{Ends, HasEdge}
use Rattle.graph_edit.specs.JoinLaws.{skip_leads}
use Rattle.path_laws.specs.Paths.{AreRows, has_bit}
use Rattle.sink_code.specs.declared.inserting.PutBefore.{PutBefore}
use Rattle.sink_code.specs.declared.inside.Inside.{Inside}
use Rattle.sink_code.specs.declared.patterns.Pattern.{Pattern}
use Rattle.graph_edit.specs.Accesses.{blocks_at}
use Rattle.sink_code.specs.BlockRows.{AreBlockRows, AreInto, leaves_own}
use Rattle.sink_code.specs.Delaying.{IsDelayedTo, IsInsertedAt}
use Rattle.sink_code.specs.FoundPuts.{AreFoundPuts, AreFromHeads, ArePutAtEnds, ComesInto, LeavesAtEnd, IsFromHead}
use Rattle.sink_code.specs.Inside.{AreInside, comes_past, goes_on, stop_from}
use Rattle.sink_code.specs.BlockPlaces.{stops_at}
use Rattle.sink_code.proofs.Carried.{entered_first, glued_on}
use Rattle.sink_code.specs.DelayLaws.{none_at_start, not_inserted, one_delayed, passed_at_skip, target_within}
use Rattle.sink_code.proofs.FoundAll.{inner_apart, inserted_found, stop_at, sunk_inserted}
use Rattle.sink_code.proofs.GoesOn.{goes_on_last}
use Rattle.sink_code.proofs.Listed.{head_listed, occurs_past, own_listed, past_occurs}
use Rattle.graph_edit.specs.OccurrenceLaws.{occurrence_is}
use Rattle.sink_code.proofs.RhsAlong.{along_is, rhs_along}
use Rattle.sink_code.proofs.RhsInto.{into_from, into_some, rhs_into}
use Rattle.sink_code.proofs.Sources.{NoneBlocks, OccursBefore, delayed_from, delayed_on, occurs_delayed, occurs_more}
use Rattle.sink_code.proofs.Stops.{all_passes, free_passes, passes_each, stop_is, stops_blocks}

-- the put is an insertion of the graph
abbrev pub IsPut : GraphShape → PutBefore → Type 0
IsPut graph put = (put.node < length graph.nodes) × IsInsertedAt graph put.var put.rhs put.node

module _ (graph : GraphShape) (is_graph : IsGraph graph.vars graph.received graph.nodes) (split : IsSplit graph.nodes) (lists : List (List ℕ)) (are : IsBlocks graph.nodes lists) (found : Inside) (inside : AreInside graph lists found)
    (table : List Pattern) (same_table : found.table ≡ table) (puts : List PutBefore) (same_puts : found.puts.items ≡ puts)
    (into leaves rows : List (List Bool)) (now all : List PutBefore) (into_are : AreInto graph lists table into) (leaves_are : AreBlockRows lists table (leaves_own graph) leaves)
    (heads : AreFromHeads graph lists table into leaves puts (λ b k. Unit {0}) rows now) (ends : ArePutAtEnds graph lists table into rows (length lists) now all) where
  -- ---- what comes into a block

  -- a pattern comes into a block where it is delayed at its first node
  comes : (b k head : ℕ) (list : List ℕ) (p : Pattern) → slice_get lists b ≡ Some list → slice_get list 0 ≡ Some head → slice_get table k ≡ Some p → (has_bit into k b ≡ true) ↔ IsDelayedTo graph p.var p.rhs head
  comes b k head list p is_block at numbered = into_are.are b k head list p is_block (first_begins list head at) numbered

  -- so no node of the block is Start
  head_apart : (x head : ℕ) (t : Rhs) (list : List ℕ) → IsChain graph.nodes list → slice_get list 0 ≡ Some head → IsDelayedTo graph x t head → (k n : ℕ) → slice_get list k ≡ Some n → n ≡ 0 → ⊥
  head_apart x head t list chain at d zero n e same =
      let both : Some head ≡ Some n = sym at ∙ e in
      let is : head ≡ n = cc in
      none_at_start graph is_graph x t (subst (IsDelayedTo graph x t) (is ∙ same) d)
  head_apart x head t list chain at d (suc k) n e same = inner_apart graph is_graph list chain (suc k) n (omega arith) e same

  -- and it is delayed as far as no node stops it
  from_head : (b k to n : ℕ) (list : List ℕ) (p : Pattern) → slice_get lists b ≡ Some list → slice_get table k ≡ Some p → has_bit into k b ≡ true → ((j m : ℕ) → j < to → slice_get list j ≡ Some m → stops_at graph p.var p.rhs m ≡ false) → slice_get list to ≡ Some n
      → IsDelayedTo graph p.var p.rhs n
  from_head b k to n list p is_block numbered bit free at =
      let chain = (are.blocks b list is_block).chain in
      let head = begin_of graph.nodes list chain in
      let d = (comes b k head.0 list p is_block head.2 numbered).0 bit in
      let same : 0 + to ≡ to = omega arith in
      delayed_on graph is_graph p.var p.rhs split list chain to 0 head.0 n head.2 (ap (slice_get list) same ∙ at)
      (λ j m low high e. free_passes graph is_graph p.var p.rhs m (head_apart p.var head.0 p.rhs list chain head.2 d j m e) (free j m (omega (arith, high, same)) e)) d

  -- so what is put from heads is inserted there
  heads_inserted : (put : PutBefore) → IsFromHead graph lists table into put → IsPut graph put
  heads_inserted put from =
      let p = from.p in
      let at = stop_from graph from.list 0 from.p in
      let chain = (are.blocks from.block from.list from.into_block.is_block).chain in
      let stop = stop_is graph from.list 0 from.p (omega arith) in
      let delayed : IsDelayedTo graph from.p.var from.p.rhs put.node
      = from_head from.block from.number at put.node from.list p from.into_block.is_block from.into_block.numbered from.into_block.comes (λ j m lt e. stop.free j m (omega arith) lt e) from.stops in
      let blocks : blocks_at from.p.var from.p.rhs graph put.node ≡ true = stops_blocks graph p.var p.rhs put.node (stop.stops put.node from.stops) in
      let within : put.node < length graph.nodes = chain_within graph.nodes from.list at put.node (λ m k edge. edge_within graph.nodes m k edge) chain from.stops in
      let whole : (put.node < length graph.nodes) × IsInsertedAt graph from.p.var from.p.rhs put.node = (within, (delayed, inl blocks)) in
      subst (λ (q : PutBefore). (put.node < length graph.nodes) × IsInsertedAt graph q.var q.rhs put.node) (sym from.is) whole

  -- ---- what leaves a block

  -- an occurrence that leaves a block whose last node is a Skip is not the last
  not_last : (x last next : ℕ) (t : Rhs) (list : List ℕ) → slice_get list (length list - 1) ≡ Some last → slice_get graph.nodes last ≡ Some (Skip next) → OccursBefore graph is_graph x t list (length list) → OccursBefore graph is_graph x t list (length list - 1)
  not_last x last next t list at skips o = elim (cases_eq o.at (length list - 1)) [
    | inl same ↦
        let both : Some o.node ≡ Some last = sym o.listed ∙ ap (slice_get list) same ∙ at in
        let is : o.node ≡ last = cc in
        let assign = occurrence_is x t (slice_get graph.nodes o.node) o.occurs in
        let clash : Some (Assign x t assign.0) ≡ Some (Skip next) = sym assign.1 ∙ ap (slice_get graph.nodes) is ∙ skips in
        absurd (cc)
    | inr differ ↦ record {
      at = o.at;
      node = o.node;
      before = (let lt = o.before in omega (arith, lt, differ));
      listed = o.listed;
      occurs = o.occurs;
      free = λ k n low high e. o.free k n low (omega (arith, high)) e;
    }
  ]

  -- a pattern that leaves a block is delayed at its last node, where that is a Skip
  leaving_delayed : (b k last next : ℕ) (list : List ℕ) (p : Pattern) → slice_get lists b ≡ Some list → Ends last list → slice_get graph.nodes last ≡ Some (Skip next) → slice_get table k ≡ Some p → has_bit rows k b ≡ true → IsDelayedTo graph p.var p.rhs last
  leaving_delayed b k last next list p is_block ends_it skips numbered bit =
      let place = length list - 1 in
      let at : slice_get list (length list - 1) ≡ Some last = end_stands list last ends_it in
      let chain = (are.blocks b list is_block).chain in
      elim (heads.sound b k list p is_block numbered bit) [
        | inl own ↦
            let leaves_it : leaves_own graph p list ≡ true = sym (leaves_are.are b k list p (slice_get_within lists b list is_block) is_block numbered) ∙ own in
            let comes_out = (and_parts (goes_on graph list) (comes_past graph p.var p.rhs false list) leaves_it).1 in
            occurs_delayed graph is_graph p.var p.rhs split list chain place last at (not_last p.var last next p.rhs list at skips (past_occurs graph is_graph p.var p.rhs list comes_out))
        | inr came ↦ from_head b k place last list p is_block numbered came.0 (λ j m lt e. passes_each graph list p came.1 j m e) at
      ]

  -- so what is put at ends is inserted there
  ends_inserted : (b n : ℕ) (p : Pattern) → LeavesAtEnd graph lists table into rows b n p → (n < length graph.nodes) × IsInsertedAt graph p.var p.rhs n
  ends_inserted b n p e =
      let block = are.blocks b e.list e.is_block in
      let after = are.blocks e.after e.enters.list e.enters.listed in
      let edge : HasEdge graph.nodes n e.next = (0, ap (λ (o : Option Node). slice_get (succs_of o) 0) e.skips) in
      let first = entered_first graph.nodes e.enters.list e.list n e.next e.enters.place after block e.ends edge e.enters.is in
      let at : slice_get e.enters.list 0 ≡ Some e.next = subst (λ k. slice_get e.enters.list k ≡ Some e.next) first e.enters.is in
      let tells = comes e.after e.number e.next e.enters.list p e.enters.listed at e.numbered in
      let delayed = leaving_delayed b e.number n e.next e.list p e.is_block e.ends e.skips e.numbered e.leaves_it in
      (edge_within graph.nodes n e.next edge, (delayed, inr (e.next, edge, λ there. true≢false (sym (tells.1 there) ∙ e.lost))))

  -- ---- all that is put is inserted

  own_sound : (put : PutBefore) → Contains puts put → IsPut graph put
  own_sound put there =
      let at = place_of puts put there in
      sunk_inserted graph is_graph split lists are put (inside.sunk.puts at.0 put (ap (λ l. slice_get l at.0) same_puts ∙ at.1))

  heads_sound : (put : PutBefore) → Contains now put → IsPut graph put
  heads_sound put there =
      let at = place_of now put there in
      elim (heads.only at.0 put at.1) [
        | inl own ↦ own_sound put own
        | inr from ↦ heads_inserted put from
      ]

  all_sound : (i : ℕ) (put : PutBefore) → slice_get all i ≡ Some put → IsPut graph put
  all_sound i put at = elim (ends.only i put at) [
    | inl before ↦ heads_sound put before
    | inr e ↦ (
        let whole : (put.node < length graph.nodes) × IsInsertedAt graph e.1.var e.1.rhs put.node = ends_inserted e.0 put.node e.1 e.2 in
        subst (λ (q : PutBefore). (put.node < length graph.nodes) × IsInsertedAt graph q.var q.rhs put.node) (sym e.3) whole)
  ]

  -- ---- all that is inserted is put

  module _ (x : ℕ) (t : Rhs) where
    -- the pattern of them
    abbrev it : Pattern
    it = record { var = x; rhs = t }

    -- a pattern that is delayed at the first node of a block comes into it
    into_head : (b head : ℕ) (list : List ℕ) → slice_get lists b ≡ Some list → slice_get list 0 ≡ Some head → IsDelayedTo graph x t head → (k : ℕ) × ComesInto lists table into b k list (record { var = x; rhs = t })
    into_head b head list is_block at d =
        let chain = (are.blocks b list is_block).chain in
        let within = chain_within graph.nodes list 0 head (λ m k edge. edge_within graph.nodes m k edge) chain at in
        let listed = head_listed graph is_graph lists are found inside x b head list t is_block at within d in
        let numbered : slice_get table listed.0 ≡ Some (record { var = x; rhs = t }) = ap (λ l. slice_get l listed.0) (sym same_table) ∙ listed.1 in
        (listed.0, record { is_block = is_block; numbered = numbered; comes = (comes b listed.0 head list it is_block at numbered).1 d })

    -- what is inserted before a node that blocks it
    blocked_put : (b at n : ℕ) (list : List ℕ) → slice_get lists b ≡ Some list → slice_get list at ≡ Some n → blocks_at x t graph n ≡ true → IsDelayedTo graph x t n → Contains now (record { node = n; var = x; rhs = t })
    blocked_put b at n list is_block e blocks d =
        let chain = (are.blocks b list is_block).chain in
        elim (delayed_from graph is_graph x t split list chain at n e d) [
          | inl o ↦ heads.grows (record { node = n; var = x; rhs = t }) (subst (λ l. Contains l (record { node = n; var = x; rhs = t })) same_puts (inserted_found graph is_graph lists are found inside b at n x list t is_block e blocks o))
          | inr first ↦
              let into_block = into_head b first.0 list is_block first.1 first.2 in
              let stop : stop_from graph list 0 (record { var = x; rhs = t }) ≡ at = stop_at graph is_graph list 0 at n it (λ same. none_at_start graph is_graph x t (subst (IsDelayedTo graph x t) same d)) (omega arith) e blocks first.3 in
              heads.all b into_block.0 n list it tt into_block.1 (ap (slice_get list) stop ∙ e)
        ]

    -- where a pattern that is delayed at the last node of a block passes that, its bit is set in the row of the block
    leaves_bit : (b i n s : ℕ) (list : List ℕ) → slice_get lists b ≡ Some list → slice_get list i ≡ Some n → Ends n list → HasEdge graph.nodes n s → blocks_at x t graph n ≡ false → IsDelayedTo graph x t n
        → (k : ℕ) × (slice_get table k ≡ Some (record { var = x; rhs = t })) × (has_bit rows k b ≡ true)
    leaves_bit b i n s list is_block e ends_it edge free d =
        let block = are.blocks b list is_block in
        let within = slice_get_within list i n e in
        let last : i ≡ length list - 1 = one_place graph.nodes list i (length list - 1) n block e (end_stands list n ends_it) in
        let whole : suc i ≡ length list = omega (arith, within, last) in
        elim (delayed_from graph is_graph x t split list block.chain i n e d) [
          | inl o ↦
              let reach : OccursBefore graph is_graph x t list (length list) = subst (OccursBefore graph is_graph x t list) whole (occurs_more graph is_graph x t list i n e free o) in
              let on = goes_on_last graph list n s ends_it edge in
              let listed = own_listed graph is_graph lists are found inside x b list t is_block on reach in
              let k = listed.1 in
              let numbered : slice_get table listed.1 ≡ Some (record { var = x; rhs = t }) = ap (λ l. slice_get l k) (sym same_table) ∙ listed.3 in
              let leaves_it = and_from (goes_on graph list) (comes_past graph x t false list) on (occurs_past graph is_graph x t list reach) in
              (k, numbered, heads.kept b k (leaves_are.are b k list it (slice_get_within lists b list is_block) is_block numbered ∙ leaves_it))
          | inr first ↦
              let into_block = into_head b first.0 list is_block first.1 first.2 in
              let none : (j m : ℕ) → slice_get list j ≡ Some m → blocks_at x t graph m ≡ false = λ j m at. none_on first.3 whole j m at in
              (into_block.0, into_block.1.numbered, heads.passed b into_block.0 list it tt into_block.1 (all_passes graph list it none))
        ]
      where
        none_on : NoneBlocks graph is_graph x t list 0 i → suc i ≡ length list → (j m : ℕ) → slice_get list j ≡ Some m → blocks_at x t graph m ≡ false
        none_on before whole j m at = elim (cases_eq j i) [
          | inl same ↦ (let both : Some n ≡ Some m = sym e ∙ ap (slice_get list) (sym same) ∙ at in let is : n ≡ m = cc in ap (blocks_at x t graph) (sym is) ∙ free)
          | inr differ ↦ (let lt = slice_get_within list j m at in before j m (omega arith) (omega (arith, lt, whole, differ)) at)
        ]

    -- what is inserted before a node that it passes
    passed_put : (b i n : ℕ) (list : List ℕ) → slice_get lists b ≡ Some list → slice_get list i ≡ Some n → blocks_at x t graph n ≡ false → IsInsertedAt graph x t n → Contains all (record { node = n; var = x; rhs = t })
    passed_put b i n list is_block e free is = elim is.1 [
      | inl blocked ↦ absurd (true≢false (sym blocked ∙ free))
      | inr lost ↦ at_end lost.0 lost.1 lost.2
    ]
      where
        ends_it : Ends n list
        ends_it = elim (chain_on graph.nodes list i n (are.blocks b list is_block).chain e) as (λ _. Ends n list) [
          | inl ends_there ↦ ends_there
          | inr next ↦ absurd (not_inserted graph is_graph split n next.0 x t (glued_edge graph.nodes n next.0 next.2) free is.0 (glued_on graph is_graph x t n next.0 next.2 free is.0) is)
        ]

        at_end : (s : ℕ) → HasEdge graph.nodes n s → (IsDelayedTo graph x t s → ⊥) → Contains all (record { node = n; var = x; rhs = t })
        at_end s edge stays =
            let skip = passed_at_skip graph is_graph split n x t is free in
            let same : skip.0 ≡ s = skip_leads graph.nodes n skip.0 s skip.1 edge in
            let after = are.every s (target_within graph is_graph n s edge) in
            let first = entered_first graph.nodes after.1.list list n s after.1.place (are.blocks after.0 after.1.list after.1.listed) (are.blocks b list is_block) ends_it edge after.1.is in
            let at : slice_get after.1.list 0 ≡ Some s = subst (λ k. slice_get after.1.list k ≡ Some s) first after.1.is in
            let bit = leaves_bit b i n s list is_block e ends_it edge free is.0 in
            let lost : has_bit into bit.0 after.0 ≡ false = elim (cases_Bool (has_bit into bit.0 after.0)) as (λ _. has_bit into bit.0 after.0 ≡ false) [
              | inl on ↦ absurd (stays ((comes after.0 bit.0 s after.1.list it after.1.listed at bit.1).0 on))
              | inr off ↦ off
            ] in
            ends.all b n it (slice_get_within lists b list is_block) (record {
              list = list;
              number = bit.0;
              next = s;
              after = after.0;
              is_block = is_block;
              ends = ends_it;
              skips = skip.1 ∙ ap (λ k. Some (Skip k)) same;
              enters = after.1;
              numbered = bit.1;
              leaves_it = bit.2;
              lost = lost;
            })

  all_complete : (n x : ℕ) (t : Rhs) → n < length graph.nodes → IsInsertedAt graph x t n → Contains all (record { node = n; var = x; rhs = t })
  all_complete n x t lt is =
      let stands = are.every n lt in
      elim (cases_Bool (blocks_at x t graph n)) [
        | inl blocks ↦ ends.grows (record { node = n; var = x; rhs = t }) (blocked_put x t stands.0 stands.1.place n stands.1.list stands.1.listed stands.1.is blocks is.0)
        | inr free ↦ passed_put x t stands.0 stands.1.place n stands.1.list stands.1.listed stands.1.is free is
      ]

  -- ---- the right side that is delayed at a node

  -- at the first node of a block
  abbrev rhs_head : ℕ → ℕ → Option Rhs
  rhs_head b x = rhs_into x (λ k. has_bit into k b) table

  head_is : (b head x : ℕ) (list : List ℕ) (t : Rhs) → slice_get lists b ≡ Some list → slice_get list 0 ≡ Some head → (rhs_head b x ≡ Some t) ↔ IsDelayedTo graph x t head
  head_is b head x list t is_block at = (there, back)
    where
      there : rhs_head b x ≡ Some t → IsDelayedTo graph x t head
      there e =
          let from = into_from x (λ k. has_bit into k b) table t e in
          (comes b from.0 head list (record { var = x; rhs = t }) is_block at from.1).0 from.2

      back : IsDelayedTo graph x t head → rhs_head b x ≡ Some t
      back d =
          let into_block = into_head x t b head list is_block at d in
          let some = into_some x (λ k. has_bit into k b) table into_block.0 t into_block.1.numbered into_block.1.comes in
          let from = into_from x (λ k. has_bit into k b) table some.0 some.1 in
          let other = (comes b from.0 head list (record { var = x; rhs = some.0 }) is_block at from.1).0 from.2 in
          let within = chain_within graph.nodes list 0 head (λ m k edge. edge_within graph.nodes m k edge) (are.blocks b list is_block).chain at in
          some.1 ∙ ap Some (one_delayed graph is_graph head x some.0 t within other d)

  -- at a node
  abbrev rhs_by : (n : ℕ) → (n < length graph.nodes) ⊎ (length graph.nodes ≤ n) → ℕ → Option Rhs
  rhs_by n (inl lt) x = rhs_along graph x (rhs_head (are.every n lt).0 x) (are.every n lt).1.list (are.every n lt).1.place
  rhs_by n (inr past) x = None

  by_is : (n x : ℕ) (t : Rhs) (w : (n < length graph.nodes) ⊎ (length graph.nodes ≤ n)) → n < length graph.nodes → (rhs_by n w x ≡ Some t) ↔ IsDelayedTo graph x t n
  by_is n x t (inl lt) here =
      let stands = are.every n lt in
      along_is graph is_graph split x stands.1.list (are.blocks stands.0 stands.1.list stands.1.listed).chain (rhs_head stands.0 x) (λ head u at. head_is stands.0 head x stands.1.list u stands.1.listed at) stands.1.place n t stands.1.is
  by_is n x t (inr past) here = absurd (omega (arith, here, past))

  -- so they are the insertions of the graph
  pub all_puts_found : AreFoundPuts graph all
  all_puts_found = record {
    delayed = λ n x. rhs_by n (cases_lt n (length graph.nodes)) x;
    delayed_are = λ n x t lt. by_is n x t (cases_lt n (length graph.nodes)) lt;
    sound = all_sound;
    complete = all_complete;
  }

-- rows of no bits
abbrev no_rows : List (List ℕ) → List (List Bool)
no_rows lists = replicate (length lists) []

-- where no pattern leaves a block, what is put inside blocks is all
pub inside_found : (graph : GraphShape) (is_graph : IsGraph graph.vars graph.received graph.nodes) (split : IsSplit graph.nodes) (lists : List (List ℕ)) (are : IsBlocks graph.nodes lists) (found : Inside) (inside : AreInside graph lists found)
    → length found.table ≡ 0 → AreFoundPuts graph found.puts.items
inside_found graph is_graph split lists are found inside empty = all_puts_found graph is_graph split lists are found inside found.table refl found.puts.items refl (no_rows lists) (no_rows lists) (no_rows lists) found.puts.items found.puts.items
    (record { shape = shape; are = λ b k head list p is_block begins numbered. absurd (no k p numbered) })
    (record { shape = shape; are = λ b k list p lt is_block numbered. absurd (no k p numbered) })
    (record {
      shape = shape;
      grows = λ put c. c;
      only = λ i put e. inl (contained_at found.puts.items put i e);
      all = λ b k n list p done into_block e. absurd (no k p into_block.numbered);
      sound = λ b k list p is_block numbered bit. absurd (no k p numbered);
      kept = λ b k on. on;
      passed = λ b k list p done into_block on. absurd (no k p into_block.numbered);
    })
    (record { grows = λ put c. c; only = λ i put e. inl (contained_at found.puts.items put i e); all = λ b n p lt e. absurd (no e.number p e.numbered) })
  where
    no : (k : ℕ) (p : Pattern) → slice_get found.table k ≡ Some p → ⊥
    no k p numbered = (let within = slice_get_within found.table k p numbered in omega (arith, within, empty))

    shape : AreRows (length lists) (length found.table) (no_rows lists)
    shape = record {
      len = length-replicate (length lists) [];
      each = λ n lt. ap (λ (l : List Bool). length l) (get_or-replicate (length lists) n [] [] lt) ∙ sym empty;
    }
