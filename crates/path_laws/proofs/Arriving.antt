-- What comes to blocks over the edges between them is what the statements say at their first nodes, or after their last.
use Rattle.std.proofs.Common.{◌≡◌, ◌≢◌, ℕ, zero, suc, ◌-◌, ◌+◌, ◌<◌, ◌≤◌, ◌↔◌, ◌||◌, ◌&&◌, not, nat_eq, eqb, inl, inr, Bool, true, false, List, [], ◌∷◌, ◌++◌, length, get_or, replicate, reverse, slice_get, take, Some, refl, sym, ap, subst, arith, ◌∙◌}
use Rattle.std.proofs.Math.Bool.{or-false}
use Rattle.std.proofs.lemmas.Bool.{cases_eq, eq-eqb, ne_eqb}
use Rattle.std.proofs.lemmas.List.{get_or-reverse, length-reverse, take_more}
use Rattle.std.proofs.lemmas.Option.{get_or_from_slice_get, slice_get_within, slice_get-get_or}
use Rattle.bit_rows.specs.Bits.{EachBitFlipped, row_of}
use Rattle.flow_graph.specs.declared.edges.Edge.{Edge}
use Rattle.flow_graph.specs.BlockLaws.{begin_of, chain_first, glued_edge}
use Rattle.flow_graph.specs.Blocks.{IsBlocks, IsFirst}
use Rattle.flow_graph.specs.FlowEdges.{StepAlong, edge_at}
use Rattle.flow_graph.specs.Graphs.{AllWithin, GraphShape, IsGraph}
use Rattle.flow_graph.specs.PathLaws.{begins_first, end_stands}
use Rattle.flow_graph.specs.Paths.{Begins, Ends, HasEdge}
use Rattle.node_list.specs.Lists.{list_at}
use Rattle.path_laws.specs.AtBlocks.{AreBornAtEnds, AreBornAtHeads, AreBrought, ArePassedAlong, ArePassedBack, ComeOver, comes_over}
use Rattle.path_laws.specs.Blockwise.{passed_all}
use Rattle.path_laws.specs.BlockwiseLaws.{passed_complement}
use Rattle.path_laws.specs.FalseRows.{false_rows}
use Rattle.path_laws.specs.Leads.{Leads, steps_of}
use Rattle.path_laws.specs.Paths.{AreRows, BornBefore, has_bit}
use Rattle.path_laws.specs.RowLaws.{Joined}
use Rattle.path_laws.proofs.Growing.{joined_shape}
use Rattle.path_laws.proofs.Coming.{over_complete, over_sound}
use Rattle.path_laws.proofs.Complements.{none_from_on, on_from_none}
use Rattle.path_laws.proofs.Ways.{ahead_from_leads, before_from_none, leads_from_ahead, none_from_before, not_at_start}

-- ---- over edges

-- what one more edge at the end of a list brings
pub comes_more : (edges : List Edge) (e : Edge) (out : ℕ → Bool) (c : ℕ) → comes_over (edges ++ e ∷ []) out c ≡ (comes_over edges out c || (nat_eq e.target c && out e.source))
comes_more [] e out c = or-false (nat_eq e.target c && out e.source)
comes_more (d ∷ edges) e out c = ap (λ r. (nat_eq d.target c && out d.source) || r) (comes_more edges e out c) ∙ joined (nat_eq d.target c && out d.source) (comes_over edges out c) (nat_eq e.target c && out e.source)
  where
    joined : (a b r : Bool) → (a || (b || r)) ≡ ((a || b) || r)
    joined true b r = refl
    joined false b r = refl

-- no edge brings nothing
pub brought_none : (count bits : ℕ) (out rows : List (List Bool)) → rows ≡ replicate count (replicate bits false) → AreBrought count bits [] out rows
brought_none count bits out rows is = let none = false_rows count bits rows is in record { shape = none.0; are = λ c b h l. none.1 c b h }

-- one more edge
pub brought_more : (count bits : ℕ) (edges : List Edge) (out : List (List Bool)) (index : ℕ) (rows after : List (List Bool)) → index < length edges → AreBrought count bits (take index edges) out rows
    → Joined bits rows after (edge_at edges index).target (λ b. has_bit out b (edge_at edges index).source) → AreBrought count bits (take (index + 1) edges) out after
brought_more count bits edges out index rows after within brought made = record {
  shape = joined_shape count bits rows after (edge_at edges index).target (λ b. has_bit out b (edge_at edges index).source) brought.shape made;
  are = λ c b h l. elim (cases_eq c (edge_at edges index).target) as (λ _. has_bit after b c ≡ comes_over (take (index + 1) edges) (has_bit out b) c) [
    | inl same ↦
        ap (has_bit after b) same ∙ made.here b l ∙ ap (λ x. x || has_bit out b (edge_at edges index).source) (ap (has_bit rows b) (sym same) ∙ brought.are c b h l)
        ∙ ap (λ x. comes_over (take index edges) (has_bit out b) c || (x && has_bit out b (edge_at edges index).source)) (sym (eq-eqb (edge_at edges index).target c (sym same))) ∙ sym (more b c)
    | inr d ↦
        ap (λ (r : List Bool). get_or r b false) (made.others c d) ∙ brought.are c b h l ∙ sym (or-false (comes_over (take index edges) (has_bit out b) c))
        ∙ ap (λ x. comes_over (take index edges) (has_bit out b) c || (x && has_bit out b (edge_at edges index).source)) (sym (ne_eqb (edge_at edges index).target c (λ s. d (sym s)))) ∙ sym (more b c)
  ];
}
  where
    more : (b c : ℕ) → comes_over (take (index + 1) edges) (has_bit out b) c ≡ (comes_over (take index edges) (has_bit out b) c || (nat_eq (edge_at edges index).target c && has_bit out b (edge_at edges index).source))
    more b c = ap (λ l. comes_over l (has_bit out b) c) (take_more edges index (record { source = 0; target = 0 }) within) ∙ comes_more (take index edges) (edge_at edges index) (has_bit out b) c

module _ (graph : GraphShape) (is : IsGraph graph.vars graph.received graph.nodes) (lists : List (List ℕ)) (are : IsBlocks graph.nodes lists) (bits : ℕ) where
  within : AllWithin graph.nodes
  within m slot s edge = (is.can.succs m slot s edge).1

  -- ---- the first block

  no_edge_to_start : (m : ℕ) → HasEdge graph.nodes m 0 → ⊥
  no_edge_to_start m edge = let late : 1 ≤ 0 = (is.can.succs m edge.0 0 edge.1).0 in absurd (omega arith)

  start_is_first : IsFirst graph.nodes 0
  start_is_first m glued = no_edge_to_start m (glued_edge graph.nodes m 0 glued)

  -- it begins with Start
  head_of_first : (head : ℕ) (list : List ℕ) → slice_get lists 0 ≡ Some list → Begins head list → head ≡ 0
  head_of_first head list listed begins =
      let stands = are.every 0 (slice_get_within graph.nodes 0 _ is.can.start.1) in
      let at = stands.1 in
      let chain = (are.blocks stands.0 at.list at.listed).chain in
      elim (cases_eq stands.0 0) as (λ _. head ≡ 0) [
        | inl same ↦
            let both : Some at.list ≡ Some list = sym at.listed ∙ ap (slice_get lists) same ∙ listed in
            let one : at.list ≡ list = cc in
            sym (chain_first graph.nodes at.list at.place head 0 chain (subst (Begins head) (sym one) begins) at.is start_is_first)
        | inr late ↦
            let first = begin_of graph.nodes at.list chain in
            let zero_is = chain_first graph.nodes at.list at.place first.0 0 chain first.1 at.is start_is_first in
            let low : head < first.0 = are.ascend 0 stands.0 head first.0 list at.list (omega (arith, late)) listed at.listed begins first.1 in
            absurd (omega (arith, low, zero_is))
      ]

  -- and no other does
  head_of_later : (c head : ℕ) (list : List ℕ) → c ≢ 0 → slice_get lists c ≡ Some list → Begins head list → head ≢ 0
  head_of_later c head list late listed begins zero_is =
      let h = slice_get_within lists c list listed in
      let listed_0 = slice_get-get_or lists 0 [] (omega (arith, h)) in
      let first = begin_of graph.nodes (list_at lists 0) (are.blocks 0 (list_at lists 0) listed_0).chain in
      let low : first.0 < head = are.ascend 0 c first.0 head (list_at lists 0) list (omega (arith, late)) listed_0 listed first.1 begins in
      absurd (omega (arith, low, zero_is))

  -- ---- at first nodes

  -- what is lost over a block, as the complement of what comes out of it
  lost_is : (l x h : Bool) → not (not l && (not x || h)) ≡ (l || (x && not h))
  lost_is true x h = refl
  lost_is false true true = refl
  lost_is false true false = refl
  lost_is false false h = refl

  pub born_at_heads : (born stop : ℕ → ℕ → Bool) (lost held come rows : List (List Bool)) → AreRows (length lists) bits lost → ComeOver false graph.nodes lists bits lost held come → ArePassedAlong graph.nodes lists bits born stop lost held
      → ((n : ℕ) → n < 1 → row_of rows n ≡ row_of come n) → EachBitFlipped 1 come rows → AreBornAtHeads graph.nodes lists bits born stop rows
  born_at_heads born stop lost held come rows shape over along kept flipped c b head list l listed begins =
      elim (cases_eq c 0) as (λ _. (has_bit rows b c ≡ true) ↔ BornBefore graph.nodes (born b) (stop b) head) [
        | inl zero_is ↦
            let same : has_bit rows b c ≡ has_bit come b c = ap (λ (xs : List Bool). get_or xs b false) (kept c (omega (arith, zero_is))) in
            let start = head_of_first head list (ap (slice_get lists) (sym zero_is) ∙ listed) begins in (
              λ on. let pred = sound (sym same ∙ on) in absurd (no_edge_to_start pred.0 (subst (HasEdge graph.nodes pred.0) start pred.1)),
              λ all. absurd (not_at_start graph.nodes (born b) (stop b) seed seed_is (subst (BornBefore graph.nodes (born b) (stop b)) start all)),
            )
        | inr late ↦
            let apart = head_of_later c head list late listed begins in
            let opposite = flipped c b (omega (arith, late)) (rw (over.joined.brought.shape.len, shape.len) h) (rw (over.joined.brought.shape.each c (rw shape.len h)) l) in (
              λ on. before_from_none graph.nodes (born b) (stop b) seed seed_is head apart (λ m step leads. none_from_on _ _ (Pred head) opposite complete on (m, step, leads)),
              λ all. on_from_none _ _ (Pred head) opposite sound (λ pred. none_from_before graph.nodes (born b) (stop b) seed seed_is is.reached head all pred.0 pred.1 pred.2),
            )
      ]
    where
      h : c < length lists
      h = slice_get_within lists c list listed

      seed : ℕ → Bool
      seed n = stop b n && not (born b n)

      ends_at : (n : ℕ) → stop b n ≡ (stop b n || eqb n 0)
      ends_at zero = along.start b l ∙ sym (ap (λ k. k || eqb 0 0) (along.start b l))
      ends_at (suc n) = sym (or-false (stop b (suc n))) ∙ ap (λ k. stop b (suc n) || k) (sym (ne_eqb (suc n) 0 (λ s. absurd (omega (arith, s)))))

      seed_is : (n : ℕ) → n < length graph.nodes → seed n ≡ ((stop b n || eqb n 0) && not (born b n))
      seed_is n n_in = ap (λ k. k && not (born b n)) (ends_at n)

      Pred : ℕ → Type 0
      Pred n = (m : ℕ) × HasEdge graph.nodes m n × Leads (steps_of false graph.nodes) seed (born b) m

      does : (j d : ℕ) (x : Bool) → StepAlong over.edges j d → passed_all seed (born b) x (list_at lists d) ≡ (has_bit lost b d || (x && not (has_bit held b d)))
      does j d x (e, e_in, source, target) =
          let from = over.between.sound e (edge_at over.edges e) (slice_get-get_or over.edges e _ e_in) in
          let leaves = from.leaves in
          let at : slice_get lists d ≡ Some leaves.list = ap (slice_get lists) (sym source) ∙ leaves.listed in
          let one : list_at lists d ≡ leaves.list = get_or_from_slice_get lists d leaves.list [] at in
          passed_complement (born b) (stop b) (list_at lists d) x
          ∙ ap (λ k. not (passed_all (born b) (stop b) (not x) k)) one
          ∙ ap not (along.does d b from.from from.to leaves.list (not x) l at leaves.ahead from.step)
          ∙ lost_is (has_bit lost b d) x (has_bit held b d)

      first : slice_get (list_at lists c) 0 ≡ Some head
      first = ap (λ k. slice_get k 0) (get_or_from_slice_get lists c list [] listed) ∙ begins_first list head begins

      come_is : has_bit come b c ≡ comes_over over.edges (has_bit over.joined.out b) c
      come_is = over.joined.brought.are c b (rw shape.len h) l

      leads : (d a : ℕ) → d < length lists → a < bits → (has_bit over.joined.out a d ≡ true) ↔ Leads (StepAlong over.edges) (has_bit lost a) (has_bit held a) d
      leads d a d_in a_in = over.joined.leads d a (rw shape.len d_in) a_in

      sound : has_bit come b c ≡ true → Pred head
      sound on = over_sound false graph.nodes lists over.edges over.firsts are over.between within bits (λ a. seed) born over.joined.out (has_bit lost) (has_bit held) leads b l does c head h first (sym come_is ∙ on)

      complete : Pred head → has_bit come b c ≡ true
      complete pred = come_is ∙ over_complete false graph.nodes lists over.edges over.firsts are over.between within bits (λ a. seed) born over.joined.out (has_bit lost) (has_bit held) leads b l does c head pred.0 h first pred.1 pred.2

  -- ---- after last nodes

  -- the last node of a block is its first against the edges
  last_is_first : (list : List ℕ) (last : ℕ) → Ends last list → slice_get (reverse list) 0 ≡ Some last
  last_is_first list last ends =
      let at = end_stands list last ends in
      let some = slice_get_within list (length list - 1) last at in
      let long : length (reverse list) ≡ length list = length-reverse list in
      let place : length list - 1 - 0 ≡ length list - 1 = omega arith in
      slice_get-get_or (reverse list) 0 0 (omega (arith, long, some)) ∙ ap Some (get_or-reverse list 0 0 (omega (arith, some)) ∙ ap (λ k. get_or list k 0) place ∙ get_or_from_slice_get list (length list - 1) last 0 at)

  pub born_at_ends : (bears stops : ℕ → ℕ → Bool) (born stop rows : List (List Bool)) → AreRows (length lists) bits born → ComeOver true graph.nodes lists bits born stop rows → ArePassedBack lists bits bears stops born stop → AreBornAtEnds graph.nodes lists bits bears stops rows
  born_at_ends bears stops born stop rows shape over back c b last list l listed ends = (
    λ on.
        let pred = over_sound true graph.nodes lists over.edges over.firsts are over.between within bits bears stops over.joined.out (has_bit born) (has_bit stop) leads b l does c last h first (sym come_is ∙ on) in
        (pred.0, pred.1, ahead_from_leads graph.nodes (bears b) (stops b) (λ m k edge. within m edge.0 k edge.1) pred.0 (within last pred.1.0 pred.0 pred.1.1) pred.2),
    λ some.
        let s = some.2 in
        come_is ∙ over_complete true graph.nodes lists over.edges over.firsts are over.between within bits bears stops over.joined.out (has_bit born) (has_bit stop) leads b l does c last some.0 h first some.1
        (leads_from_ahead graph.nodes (bears b) (stops b) s.path some.0 s.is_path s.begins s.ends),
  )
    where
      h : c < length lists
      h = slice_get_within lists c list listed

      does : (j d : ℕ) (x : Bool) → StepAlong over.edges j d → passed_all (bears b) (stops b) x (reverse (list_at lists d)) ≡ (has_bit born b d || (x && not (has_bit stop b d)))
      does j d x (e, e_in, source, target) =
          let d_in : d < length lists = subst (λ k. k < length lists) source (over.between.source e (edge_at over.edges e) (slice_get-get_or over.edges e _ e_in)) in
          back d b (list_at lists d) x l (slice_get-get_or lists d [] d_in)

      first : slice_get (reverse (list_at lists c)) 0 ≡ Some last
      first = ap (λ k. slice_get (reverse k) 0) (get_or_from_slice_get lists c list [] listed) ∙ last_is_first list last ends

      come_is : has_bit rows b c ≡ comes_over over.edges (has_bit over.joined.out b) c
      come_is = over.joined.brought.are c b (rw shape.len h) l

      leads : (d a : ℕ) → d < length lists → a < bits → (has_bit over.joined.out a d ≡ true) ↔ Leads (StepAlong over.edges) (has_bit born a) (has_bit stop a) d
      leads d a d_in a_in = over.joined.leads d a (rw shape.len d_in) a_in
