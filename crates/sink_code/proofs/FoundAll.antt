-- What is found block by block is what is inserted.
use Rattle.std.proofs.Common.{◌≡◌, ℕ, zero, suc, ◌<◌, ◌≤◌, true, Contains, List, length, slice_get, Some, sym, ap, inl, inr, ◌∙◌, subst, arith, true≢false}
use Rattle.std.proofs.lemmas.Bool.{cases_lt}
use Rattle.std.proofs.lemmas.Option.{slice_get_within}
use Rattle.mir_base.specs.declared.instructions.Rhs.{Rhs}
use Rattle.flow_graph.specs.declared.nodes.Node.TheVariants.{Assign}
use Rattle.flow_graph.specs.BlockLaws.{chain_inner, chain_within, edge_within, glued_edge}
use Rattle.flow_graph.specs.Blocks.{IsBlocks, IsChain}
use Rattle.flow_graph.specs.Edges.{IsSplit}
use Rattle.flow_graph.specs.Graphs.{GraphShape, IsGraph}
use Rattle.flow_graph.specs.ListLaws.{some_at}
use Rattle.flow_graph.specs.Paths.{HasEdge}
use Rattle.sink_code.specs.declared.inserting.PutBefore.{PutBefore}
use Rattle.sink_code.specs.declared.inside.Inside.{Inside}
use Rattle.sink_code.specs.declared.patterns.Pattern.{Pattern}
use Rattle.graph_edit.specs.Accesses.{blocks_at, is_occurrence, occurs_at}
use Rattle.sink_code.specs.Delaying.{IsDelayedTo, IsInsertedAt}
use Rattle.sink_code.specs.Inside.{AreInside, IsSunkInside, OccursAt, stop_from}
use Rattle.sink_code.specs.DelayLaws.{start_unentered}
use Rattle.graph_edit.specs.OccurrenceLaws.{occurrence_is}
use Rattle.sink_code.proofs.PatternBits.{occurs_at_node}
use Rattle.sink_code.proofs.Sources.{NoneBlocks, OccursBefore, occurs_delayed}
use Rattle.sink_code.proofs.Stops.{free_passes, stop_is, stops_blocks}

module _ (graph : GraphShape) (is_graph : IsGraph graph.vars graph.received graph.nodes) where
  -- a node of a block after its first is not Start
  pub inner_apart : (list : List ℕ) → IsChain graph.nodes list → (k n : ℕ) → 0 < k → slice_get list k ≡ Some n → n ≡ 0 → ⊥
  inner_apart list chain zero n lt e same = absurd (omega (arith, lt))
  inner_apart list chain (suc k) n lt e same =
      let before = chain_inner graph.nodes list k n chain e in
      start_unentered graph is_graph before.0 (subst (HasEdge graph.nodes before.0) same (glued_edge graph.nodes before.0 n before.2))

  -- the pattern that occurs at an index of a block, as a test
  pub occurs_is : (list : List ℕ) (index : ℕ) (p : Pattern) (o : OccursAt graph list index p) → occurs_at p.var p.rhs graph o.at ≡ true
  occurs_is list index p o = ap (is_occurrence p.var p.rhs) o.is ∙ (occurs_at_node p (Some o.node)).1 o.occurs

  -- an occurrence reaches the node that stops it
  pub reaches_stop : (list : List ℕ) (index : ℕ) (p : Pattern) → IsChain graph.nodes list → OccursAt graph list index p → OccursBefore graph is_graph p.var p.rhs list (stop_from graph list (suc index) p)
  reaches_stop list index p chain o =
      let within = slice_get_within list index o.at o.listed in
      let stop = stop_is graph list (suc index) p (omega (arith, within)) in
      record {
        at = index;
        node = o.at;
        before = (let late = stop.late in omega (arith, late));
        listed = o.listed;
        occurs = occurs_is list index p o;
        free = λ k n low high e. free_passes graph is_graph p.var p.rhs n (inner_apart list chain k n (omega (arith, low)) e) (stop.free k n low high e);
      }

  -- so what is put inside a block is inserted there
  pub sunk_inserted : IsSplit graph.nodes → (lists : List (List ℕ)) → IsBlocks graph.nodes lists → (put : PutBefore) → IsSunkInside graph lists put → (put.node < length graph.nodes) × IsInsertedAt graph put.var put.rhs put.node
  sunk_inserted split lists are put s =
      let chain = (are.blocks s.block s.list s.is_block).chain in
      let at = stop_from graph s.list (suc s.index) s.p in
      let occurs_in = slice_get_within s.list s.index s.occurs.at s.occurs.listed in
      let stop = stop_is graph s.list (suc s.index) s.p (omega (arith, occurs_in)) in
      let delayed : IsDelayedTo graph s.p.var s.p.rhs put.node = occurs_delayed graph is_graph s.p.var s.p.rhs split s.list chain at put.node s.stops (reaches_stop s.list s.index s.p chain s.occurs) in
      let blocks : blocks_at s.p.var s.p.rhs graph put.node ≡ true = stops_blocks graph s.p.var s.p.rhs put.node (stop.stops put.node s.stops) in
      let within : put.node < length graph.nodes = chain_within graph.nodes s.list at put.node (λ m k edge. edge_within graph.nodes m k edge) chain s.stops in
      let all : (put.node < length graph.nodes) × IsInsertedAt graph s.p.var s.p.rhs put.node = (within, (delayed, inl blocks)) in
      subst (λ (q : PutBefore). (put.node < length graph.nodes) × IsInsertedAt graph q.var q.rhs put.node) (sym s.is) all

  -- a node that blocks a pattern and is not Start, with none before it that blocks it, stops it
  pub stop_at : (list : List ℕ) (low at n : ℕ) (p : Pattern) → (n ≡ 0 → ⊥) → low ≤ at → slice_get list at ≡ Some n → blocks_at p.var p.rhs graph n ≡ true → NoneBlocks graph is_graph p.var p.rhs list low at → stop_from graph list low p ≡ at
  stop_at list low at n p apart le e blocks none =
      let within = slice_get_within list at n e in
      let stop = stop_is graph list low p (omega (arith, le, within)) in
      let j = stop_from graph list low p in
      elim (cases_lt j at) [
        | inl lt ↦
            let there = some_at list j (omega (arith, lt, within)) in
            absurd (true≢false (sym (stops_blocks graph p.var p.rhs there.0 (stop.stops there.0 there.1)) ∙ none j there.0 stop.late lt there.1))
        | inr ge ↦ elim (cases_lt at j) [
          | inl gt ↦ absurd (true≢false (sym blocks ∙ free_passes graph is_graph p.var p.rhs n apart (stop.free at n le gt e)))
          | inr last ↦ omega (arith, ge, last)
        ]
      ]

  -- the pattern of an occurrence
  pub occurs_there : (list : List ℕ) (to x : ℕ) (t : Rhs) (o : OccursBefore graph is_graph x t list to) → OccursAt graph list o.at (record { var = x; rhs = t })
  occurs_there list to x t o =
      let is = occurrence_is x t (slice_get graph.nodes o.node) o.occurs in
      record {
        at = o.node;
        node = Assign x t is.0;
        listed = o.listed;
        is = is.1;
        occurs = (occurs_at_node (record { var = x; rhs = t }) (Some (Assign x t is.0))).0 (ap (is_occurrence x t) (sym is.1) ∙ o.occurs);
      }

  -- so what is inserted at a node that blocks it, and came from an occurrence in its block, is found inside
  pub inserted_found : (lists : List (List ℕ)) → IsBlocks graph.nodes lists → (found : Inside) → AreInside graph lists found → (b at n x : ℕ) (list : List ℕ) (t : Rhs) → slice_get lists b ≡ Some list → slice_get list at ≡ Some n
      → blocks_at x t graph n ≡ true → OccursBefore graph is_graph x t list at → Contains found.puts.items (record { node = n; var = x; rhs = t })
  inserted_found lists are found inside b at n x list t is_block e blocks o =
      let p : Pattern = record { var = x; rhs = t } in
      let chain = (are.blocks b list is_block).chain in
      let apart : n ≡ 0 → ⊥ = inner_apart list chain at n (let lt = o.before in omega (arith, lt)) e in
      let stop : stop_from graph list (suc o.at) p ≡ at = stop_at list (suc o.at) at n p apart (let lt = o.before in omega (arith, lt)) e blocks o.free in
      (inside.all b o.at list p is_block (occurs_there list at x t o)).put n (ap (slice_get list) stop ∙ e)
