-- A graph can be made of the cleaned nodes, and it does the same; its jumps are clean.
use Rattle.std.proofs.Common.{◌≡◌, ◌≢◌, ℕ, zero, suc, ◌<◌, ◌≤◌, Bool, true, false, List, [], ◌∷◌, map, length, slice_get, slice_index_or, Option, Some, option_map, inl, inr, refl, sym, ap, ◌∙◌, subst, arith}
use Rattle.flow_graph.specs.NodeLaws.{mapped_from, redirected_start, redirected_succs_of, redirected_vars}
use Rattle.std.proofs.lemmas.Option.{slice_get-map, slice_get_within}
use Rattle.mir_base.specs.declared.instructions.Test as tests
use Rattle.mir_base.specs.Shapes.{AllBelow}
use Rattle.mir_base.specs.UnitRuns.{UnitSame, UnitCheaper}
use Rattle.mir_base.specs.UnitLaws.{same_trans, cheaper_trans}
use Rattle.flow_graph.specs.declared.nodes.Node.{Node}
use Rattle.flow_graph.specs.declared.nodes.Node.TheVariants.{Start, Skip, Assign, Print, Guard, Call, Test, Return}
use Rattle.flow_graph.specs.Graphs.{IsEdge, AllWithin, Reached, at_start, along, succs_of, succs_at, node_vars, CanMake, IsGraph}
use Rattle.flow_graph.specs.Machines.{graph_machine}
use Rattle.flow_graph.specs.Retained.{redirected, marked_below, marked, AreRetained}
use Rattle.jump_clean.specs.Chains.{Skips, SkipsTo, IsEnd}
use Rattle.jump_clean.specs.Cleaned.{AreCleaned, HasCleanJumps}
use Rattle.jump_clean.specs.ChainLaws.{to_itself, to_next, end_is_one, end_from, ends_at_other}
use Rattle.jump_clean.specs.ReductionLaws.{skips_within, leads_within, reductions_within, all_long, all_become, BecomesAt, Becomes}
use Rattle.jump_clean.proofs.ReductionSame.{reductions_same, reductions_cheaper}
use Rattle.jump_clean.proofs.EndSame.{ends_same, ends_cheaper}

-- ---- nodes of which Tests have become Skips

-- an edge of these nodes was one before
old_edge : (before after : List Node) → Becomes before after → (m slot s : ℕ) → IsEdge after m slot s → (slot' : ℕ) × IsEdge before m slot' s
old_edge before after p m slot s edge = by_case (slice_get before m) (slice_get after m) refl refl (p.at_node m)
  where
    by_case : (x y : Option Node) → slice_get before m ≡ x → slice_get after m ≡ y → BecomesAt x y → (slot' : ℕ) × IsEdge before m slot' s
    by_case x y e e' (inl same) = (slot, ap (λ o. slice_get (succs_of o) slot) (e ∙ same ∙ sym e') ∙ edge)
    by_case x y e e' (inr r) =
        let at_skip : slice_get (r.1 ∷ []) slot ≡ Some s = sym (ap (λ o. slice_get (succs_of o) slot) (e' ∙ r.4)) ∙ edge in
        (0, ap (λ o. slice_get (succs_of o) 0) (e ∙ r.3) ∙ first slot at_skip)
      where
        first : (k : ℕ) → slice_get (r.1 ∷ []) k ≡ Some s → Some r.1 ≡ Some s
        first zero q = q
        first (suc k) q = cc

-- a Start of the reduced nodes was a Start before
old_start : (before after : List Node) → Becomes before after → (n s : ℕ) → slice_get after n ≡ Some (Start s) → slice_get before n ≡ Some (Start s)
old_start before after p n s e = by_case (p.at_node n)
  where
    by_case : BecomesAt (slice_get before n) (slice_get after n) → slice_get before n ≡ Some (Start s)
    by_case (inl same) = same ∙ e
    by_case (inr r) = let both : Some (Skip r.1) ≡ Some (Start s) = sym r.4 ∙ e in cc

-- and each Start stays one
new_start : (before after : List Node) → Becomes before after → (n s : ℕ) → slice_get before n ≡ Some (Start s) → slice_get after n ≡ Some (Start s)
new_start before after p n s e = by_case (p.at_node n)
  where
    by_case : BecomesAt (slice_get before n) (slice_get after n) → slice_get after n ≡ Some (Start s)
    by_case (inl same) = sym same ∙ e
    by_case (inr r) = let both : Some (Test r.0 r.1 r.2) ≡ Some (Start s) = sym r.3 ∙ e in cc

-- a Skip has no variables, so a bound on the variables stays
vars_below : (k : ℕ) (before after : List Node) → Becomes before after → ((n : ℕ) (node : Node) → slice_get before n ≡ Some node → AllBelow k (node_vars node)) → (n : ℕ) (node : Node) → slice_get after n ≡ Some node → AllBelow k (node_vars node)
vars_below k before after p below n node e = by_case (p.at_node n)
  where
    by_case : BecomesAt (slice_get before n) (slice_get after n) → AllBelow k (node_vars node)
    by_case (inl same) = below n node (same ∙ e)
    by_case (inr r) =
        let both : Some (Skip r.1) ≡ Some node = sym r.4 ∙ e in
        let same : Skip r.1 ≡ node = cc in
        subst (λ x. AllBelow k (node_vars x)) same tt

-- ---- nodes with other successors

module _ (to : ℕ → ℕ) where
  was_skip : (old : Node) (s : ℕ) → redirected to old ≡ Skip s → (t : ℕ) × (old ≡ Skip t) × (to t ≡ s)
  was_skip (Start t) s e = cc
  was_skip (Skip t) s e = (t, refl, cc)
  was_skip (Assign x rhs t) s e = cc
  was_skip (Print a t) s e = cc
  was_skip (Guard x g t) s e = cc
  was_skip (Call into unit operands t) s e = cc
  was_skip (Test test taken other) s e = cc
  was_skip (Return a) s e = cc

  was_test : (old : Node) (test : tests.Test) (a b : ℕ) → redirected to old ≡ Test test a b → (taken : ℕ) × (other : ℕ) × (old ≡ Test test taken other) × (to taken ≡ a) × (to other ≡ b)
  was_test (Start t) test a b e = cc
  was_test (Skip t) test a b e = cc
  was_test (Assign x rhs t) test a b e = cc
  was_test (Print x t) test a b e = cc
  was_test (Guard x g t) test a b e = cc
  was_test (Call into unit operands t) test a b e = cc
  was_test (Test test' taken other) test a b e = let same : test' ≡ test = cc in (taken, other, ap (λ t. Test t taken other) same, cc, cc)
  was_test (Return x) test a b e = cc

  was_succ : (xs : List ℕ) (slot s : ℕ) → slice_get (map to xs) slot ≡ Some s → (t : ℕ) × (slice_get xs slot ≡ Some t) × (to t ≡ s)
  was_succ [] slot s e = cc
  was_succ (x ∷ xs) zero s e = (x, refl, cc)
  was_succ (x ∷ xs) (suc slot) s e = was_succ xs slot s e

-- ---- the cleaned nodes

module _ (shared : ℕ) (vars : List (List ℕ)) (received : List ℕ) (nodes cleaned : List Node) (graph : IsGraph vars received nodes) (are : AreCleaned nodes cleaned) where
  abbrev reduced : List Node
  reduced = are.reduced

  abbrev to : ℕ → ℕ
  to n = slice_index_or are.ends n 0

  within : AllWithin nodes
  within m slot s edge = (graph.can.succs m slot s edge).1

  reduced_in : AllWithin reduced
  reduced_in = reductions_within nodes are.are_reduced.order reduced are.are_reduced.reductions within

  long : length reduced ≡ length nodes
  long = all_long nodes are.are_reduced.order reduced are.are_reduced.reductions

  becomes : Becomes nodes reduced
  becomes = all_become nodes are.are_reduced.order reduced are.are_reduced.reductions

  cleaned_at : (n : ℕ) → slice_get cleaned n ≡ option_map (redirected to) (slice_get reduced n)
  cleaned_at n = ap (λ l. slice_get l n) are.are ∙ slice_get-map (redirected to) reduced n

  cleaned_long : length cleaned ≡ length nodes
  cleaned_long = ap length are.are ∙ map_long reduced ∙ long
    where
      map_long : (xs : List Node) → length (map (redirected to) xs) ≡ length xs
      map_long [] = refl
      map_long (x ∷ xs) = ap suc (map_long xs)

  some : 0 < length reduced
  some = omega (arith, slice_get_within nodes 0 _ graph.can.start.1, long)

  -- no edge leads to node 0
  positive : (m slot s : ℕ) → IsEdge reduced m slot s → 1 ≤ s
  positive m slot s edge = let old = old_edge nodes reduced becomes m slot s edge in (graph.can.succs m old.0 s old.1).0

  end_positive : (n e : ℕ) → 1 ≤ n → SkipsTo reduced n e → 1 ≤ e
  end_positive n e low s = by_count s.count n s.skips low
    where
      by_count : (k n : ℕ) → Skips reduced k n e → 1 ≤ n → 1 ≤ e
      by_count zero n t low = omega (arith, low, t)
      by_count (suc k) n t low = by_count k t.0 t.2 (positive n 0 t.0 (ap (λ o. slice_get (succs_of o) 0) t.1))

  end_low : (n : ℕ) → n < length reduced → to n < length reduced
  end_low n lt = leads_within reduced (skips_within reduced reduced_in) n (to n) (are.are_ends.are n lt).leads lt

  -- an edge of the cleaned nodes leads to the end of chain of a successor
  cleaned_edge : (m slot s : ℕ) → IsEdge cleaned m slot s → (t : ℕ) × IsEdge reduced m slot t × (to t ≡ s)
  cleaned_edge m slot s edge = was_succ to (succs_at reduced m) slot s (sym (ap (λ l. slice_get l slot) (ap succs_of (cleaned_at m) ∙ redirected_succs_of to (slice_get reduced m))) ∙ edge)

  reduced_start : slice_get reduced 0 ≡ Some (Start graph.can.start.0)
  reduced_start = new_start nodes reduced becomes 0 graph.can.start.0 graph.can.start.1

  pub can_make : CanMake vars received cleaned
  can_make = record {
    start = (to graph.can.start.0, cleaned_at 0 ∙ ap (option_map (redirected to)) reduced_start);
    only = λ n s e.
        let old = mapped_from (redirected to) (slice_get reduced n) (Start s) (sym (cleaned_at n) ∙ e) in
        let start = redirected_start to old.0 s old.2 in
        graph.can.only n start.0 (old_start nodes reduced becomes n start.0 (old.1 ∙ ap Some start.1));
    succs = λ m slot s edge.
        let e = cleaned_edge m slot s edge in
        let lt = reduced_in m slot e.0 e.1 in
        let low = end_low e.0 lt in
        let high = end_positive e.0 (to e.0) (positive m slot e.0 e.1) (are.are_ends.are e.0 lt).leads in
        (omega (arith, e.2, high), omega (arith, e.2, low, cleaned_long, long));
    below = λ n node e.
        let old = mapped_from (redirected to) (slice_get reduced n) node (sym (cleaned_at n) ∙ e) in
        let vars_same : node_vars old.0 ≡ node_vars node = sym (redirected_vars to old.0) ∙ ap node_vars old.2 in
        subst (AllBelow (length vars)) vars_same (vars_below (length vars) nodes reduced becomes graph.can.below n old.0 old.1);
    received_below = graph.can.received_below;
    received_differ = graph.can.received_differ;
    names = graph.can.names;
  }

  -- ---- the same

  first_end : to 0 ≡ 0
  first_end = end_is_one reduced 0 (to 0) 0 (are.are_ends.are 0 some) (record { leads = to_itself reduced 0; ends = ends_at_other reduced 0 (λ next e. no_start next (sym reduced_start ∙ e)) })
    where
      no_start : (next : ℕ) → Some (Start graph.can.start.0) ≡ Some (Skip next) → ⊥
      no_start next e = cc

  pub cleaned_same : UnitSame (graph_machine shared received nodes) (graph_machine shared received cleaned)
  cleaned_same =
      same_trans (graph_machine shared received nodes) (graph_machine shared received reduced) (graph_machine shared received cleaned) (reductions_same shared received nodes are.are_reduced.order reduced are.are_reduced.reductions)
      (subst (λ l. UnitSame (graph_machine shared received reduced) (graph_machine shared received l)) (sym are.are) (ends_same shared received reduced reduced_in some are.ends are.are_ends first_end))

  pub cleaned_cheaper : UnitCheaper (graph_machine shared received nodes) (graph_machine shared received cleaned)
  cleaned_cheaper =
      cheaper_trans (graph_machine shared received nodes) (graph_machine shared received reduced) (graph_machine shared received cleaned) (reductions_same shared received nodes are.are_reduced.order reduced are.are_reduced.reductions) (reductions_cheaper shared received nodes are.are_reduced.order reduced are.are_reduced.reductions)
      (subst (λ l. UnitCheaper (graph_machine shared received reduced) (graph_machine shared received l)) (sym are.are) (ends_cheaper shared received reduced reduced_in some are.ends are.are_ends first_end))

  -- ---- clean jumps

  -- a Skip that is reached is its own successor
  own_succ : (n next : ℕ) → Reached cleaned n → slice_get cleaned n ≡ Some (Skip next) → next ≡ n
  own_succ zero next at_start e = let both : Some (Start (to graph.can.start.0)) ≡ Some (Skip next) = sym (cleaned_at 0 ∙ ap (option_map (redirected to)) reduced_start) ∙ e in cc
  own_succ n next (along m slot s r edge) e =
      let into = cleaned_edge m slot n edge in
      let lt = reduced_in m slot into.0 into.1 in
      let end : IsEnd reduced into.0 n = subst (IsEnd reduced into.0) into.2 (are.are_ends.are into.0 lt) in
      let old = mapped_from (redirected to) (slice_get reduced n) (Skip next) (sym (cleaned_at n) ∙ e) in
      let skip = was_skip to old.0 next old.2 in
      let is : slice_get reduced n ≡ Some (Skip skip.0) = old.1 ∙ ap Some skip.1 in
      let lt' = skips_within reduced reduced_in n skip.0 is in
      let same = end_is_one reduced n (to skip.0) n (end_from reduced n skip.0 (to skip.0) (to_next reduced n skip.0 is) (are.are_ends.are skip.0 lt')) (record { leads = to_itself reduced n; ends = end.ends }) in
      sym skip.2 ∙ same

  ends_apart : (n : ℕ) (test : tests.Test) (a b : ℕ) → slice_get cleaned n ≡ Some (Test test a b) → a ≢ b
  ends_apart n test a b e = λ same.
      let old = mapped_from (redirected to) (slice_get reduced n) (Test test a b) (sym (cleaned_at n) ∙ e) in
      let t = was_test to old.0 test a b old.2 in
      let is : slice_get reduced n ≡ Some (Test test t.0 t.1) = old.1 ∙ ap Some t.2 in
      let taken = are.are_ends.are t.0 (reduced_in n 0 t.0 (ap (λ o. slice_get (succs_of o) 0) is)) in
      let other = are.are_ends.are t.1 (reduced_in n 1 t.1 (ap (λ o. slice_get (succs_of o) 1) is)) in
      let ends : to t.1 ≡ to t.0 = t.4 ∙ sym same ∙ sym t.3 in
      are.are_reduced.differ n t.0 (record { test = test; other = t.1; end = to t.0; is = is; taken_end = taken; other_end = subst (IsEnd reduced t.1) ends other })

  -- what stands at a place of those that are kept
  marked_at : {A : Type 0} (marks : List Bool) (xs : List A) (k : ℕ) (x : A) → slice_get (marked marks xs) k ≡ Some x → (n : ℕ) × (slice_get marks n ≡ Some true) × (marked_below marks n ≡ k) × (slice_get xs n ≡ Some x)
  marked_at [] xs k x e = cc
  marked_at (true ∷ marks) [] k x e = cc
  marked_at (false ∷ marks) [] k x e = cc
  marked_at (true ∷ marks) (y ∷ xs) zero x e = (0, refl, refl, e)
  marked_at (true ∷ marks) (y ∷ xs) (suc k) x e = let r = marked_at marks xs k x e in (suc r.0, r.1, ap suc r.2, r.3)
  marked_at (false ∷ marks) (y ∷ xs) k x e = let r = marked_at marks xs k x e in (suc r.0, r.1, r.2, r.3)

  rank_one : (marks : List Bool) (a b : ℕ) → slice_get marks a ≡ Some true → slice_get marks b ≡ Some true → marked_below marks a ≡ marked_below marks b → a ≡ b
  rank_one [] a b e e' same = cc
  rank_one (true ∷ marks) zero zero e e' same = refl
  rank_one (true ∷ marks) zero (suc b) e e' same = cc
  rank_one (true ∷ marks) (suc a) zero e e' same = cc
  rank_one (true ∷ marks) (suc a) (suc b) e e' same = ap suc (rank_one marks a b e e' (omega (arith, same)))
  rank_one (false ∷ marks) zero b e e' same = cc
  rank_one (false ∷ marks) (suc a) zero e e' same = cc
  rank_one (false ∷ marks) (suc a) (suc b) e e' same = ap suc (rank_one marks a b e e' same)

  module _ (kept : List Node) (are_retained : AreRetained cleaned kept) where
    abbrev by : ℕ → ℕ
    by = marked_below are_retained.marks

    kept_at : (k : ℕ) (node : Node) → slice_get kept k ≡ Some node → (n : ℕ) × (old : Node) × Reached cleaned n × (by n ≡ k) × (slice_get cleaned n ≡ Some old) × (redirected by old ≡ node)
    kept_at k node e =
        let at_k : option_map (redirected by) (slice_get (marked are_retained.marks cleaned) k) ≡ Some node = sym (ap (λ l. slice_get l k) are_retained.are ∙ slice_get-map (redirected by) (marked are_retained.marks cleaned) k) ∙ e in
        let old = mapped_from (redirected by) (slice_get (marked are_retained.marks cleaned) k) node at_k in
        let m = marked_at are_retained.marks cleaned k old.0 old.1 in
        let lt = slice_get_within cleaned m.0 old.0 m.3 in
        (m.0, old.0, (are_retained.are_marks.exact m.0 lt).0 m.1, m.2, m.3, old.2)

    is_marked : (n : ℕ) → Reached cleaned n → slice_get are_retained.marks n ≡ Some true
    is_marked n r = (are_retained.are_marks.exact n (reached_low n r)).1 r
      where
        reached_low : (n : ℕ) → Reached cleaned n → n < length cleaned
        reached_low zero at_start = omega (arith, some, long, cleaned_long)
        reached_low n (along m slot s r edge) = (can_make.succs m slot n edge).1

    pub clean_jumps : HasCleanJumps kept
    clean_jumps = record {
      skips = λ k next e.
          let at_k = kept_at k (Skip next) e in
          let skip = was_skip by at_k.1 next at_k.5 in
          let own = own_succ at_k.0 skip.0 at_k.2 (at_k.4 ∙ ap Some skip.1) in
          sym skip.2 ∙ ap by own ∙ at_k.3;
      tests_differ = λ k test a b e same.
          let at_k = kept_at k (Test test a b) e in
          let t = was_test by at_k.1 test a b at_k.5 in
          let is : slice_get cleaned at_k.0 ≡ Some (Test test t.0 t.1) = at_k.4 ∙ ap Some t.2 in
          let taken = along at_k.0 0 t.0 at_k.2 (ap (λ o. slice_get (succs_of o) 0) is) in
          let other = along at_k.0 1 t.1 at_k.2 (ap (λ o. slice_get (succs_of o) 1) is) in
          ends_apart at_k.0 test t.0 t.1 is (rank_one are_retained.marks t.0 t.1 (is_marked t.0 taken) (is_marked t.1 other) (t.3 ∙ same ∙ sym t.4));
    }
