-- What is found once the occurrence at one index more of a block is looked at.
use Rattle.std.proofs.Common.{◌≡◌, ℕ, suc, ◌<◌, ◌≤◌, ◌++◌, true, false, Contains, List, [], ◌∷◌, length, slice_get, Some, refl, sym, ap, inl, inr, ◌∙◌, subst, arith, true≢false}
use Rattle.std.proofs.lemmas.Bool.{cases_eq}
use Rattle.std.proofs.lemmas.Option.{none-some, same_Some, slice_get_past, slice_get_within}
use Rattle.std.proofs.lemmas.List.Elements.{Contains-append_left, Contains-push}
use Rattle.mir_base.specs.Expressions.{divides}
use Rattle.mir_base.specs.Shapes.{AllBelow, rhs_vars}
use Rattle.flow_graph.specs.declared.nodes.Node.{Node}
use Rattle.flow_graph.specs.Graphs.{GraphShape, HaveVarsBelow}
use Rattle.flow_graph.specs.ListLaws.{get_left_some, get_push}
use Rattle.key_table.specs.KeyLaws.{put_only}
use Rattle.key_table.specs.Keys.{IsWithKey}
use Rattle.sink_code.specs.declared.inside.Inside.{Inside}
use Rattle.sink_code.specs.declared.inside.Leaving.{Leaving}
use Rattle.sink_code.specs.declared.patterns.Pattern.{Pattern}
use Rattle.sink_code.specs.Inside.{AreFoundFrom, AreInside, AreInsideFrom, AreSunkInside, IsFoundAt, IsSunkInside, LeavesBlock, OccursAt, goes_on, stop_from}
use Rattle.sink_code.specs.FoundPuts.{Grows}
use Rattle.sink_code.specs.Puts.{put_at}
use Rattle.sink_code.specs.PatternTables.{AreSinkableBelow, pattern_of}
use Rattle.sink_code.proofs.Found.{node_sinkable}

-- at an index of a list one pattern occurs
pub one_occurs : (graph : GraphShape) (list : List ℕ) (index : ℕ) (p q : Pattern) → OccursAt graph list index p → OccursAt graph list index q → p ≡ q
one_occurs graph list index p q a b =
    let both : Some a.at ≡ Some b.at = sym a.listed ∙ b.listed in
    let at : a.at ≡ b.at = cc in
    let nodes : Some a.node ≡ Some b.node = sym a.is ∙ ap (slice_get graph.nodes) at ∙ b.is in
    let node : a.node ≡ b.node = cc in
    same_Some p q (sym a.occurs ∙ ap pattern_of node ∙ b.occurs)

-- the pattern of an occurrence does not divide, and is over the variables of the graph
pub sinkable_here : (graph : GraphShape) (nodes : List Node) (list : List ℕ) (index : ℕ) (p : Pattern) → nodes ≡ graph.nodes → HaveVarsBelow (length graph.vars) nodes → OccursAt graph list index p
    → (divides p.rhs ≡ false) × ((p.var < length graph.vars) × AllBelow (length graph.vars) (rhs_vars p.rhs))
sinkable_here graph nodes list index p same below occurs =
    node_sinkable (length graph.vars) occurs.node p (below occurs.at occurs.node (ap (λ (l : List Node). slice_get l occurs.at) same ∙ occurs.is)) occurs.occurs

-- one more of them is in a table
pub sinkable_more : (vars : ℕ) (old new : List Pattern) (p : Pattern) → IsWithKey old p new → (divides p.rhs ≡ false) × ((p.var < vars) × AllBelow vars (rhs_vars p.rhs)) → AreSinkableBelow vars old → AreSinkableBelow vars new
sinkable_more vars old new p more is each k q e = elim (put_only old p new more k q e) [
  | inl was ↦ each k q was
  | inr same ↦ subst (λ (r : Pattern). (divides r.rhs ≡ false) × ((r.var < vars) × AllBelow vars (rhs_vars r.rhs))) (sym same) is
]

-- all that was found is still there
pub record FoundMore (old new : Inside) : Type 0 where
  pub puts : Grows old.puts.items new.puts.items
  pub table : (k : ℕ) (p : Pattern) → slice_get old.table k ≡ Some p → slice_get new.table k ≡ Some p
  pub leaving : (i : ℕ) (left : Leaving) → slice_get old.leaving.items i ≡ Some left → slice_get new.leaving.items i ≡ Some left

-- nothing more
pub found_same : (found : Inside) → FoundMore found found
found_same found = record { puts = λ put c. c; table = λ k p e. e; leaving = λ i left e. e }

-- what an occurrence came to stays
pub stays_found : (graph : GraphShape) (block : ℕ) (list : List ℕ) (index : ℕ) (p : Pattern) (old new : Inside) → FoundMore old new → IsFoundAt graph block list index p old → IsFoundAt graph block list index p new
stays_found graph block list index p old new more found = record {
  put = λ n at. more.puts (put_at n p) (found.put n at);
  left = λ free on. (let was = found.left free on in (was.0, was.1, more.leaving was.0 (record { block = block; number = was.1 }) was.2, more.table was.1 p was.3));
}

module _ (graph : GraphShape) (lists : List (List ℕ)) (block index : ℕ) (list : List ℕ) (is_block : slice_get lists block ≡ Some list) where
  one_list : (other : List ℕ) → slice_get lists block ≡ Some other → list ≡ other
  one_list other e = same_Some list other (sym is_block ∙ e)

  -- once the occurrence at an index is looked at
  pub one_found : (p : Pattern) (old new : Inside) → OccursAt graph list index p → AreFoundFrom graph lists block (suc index) old → FoundMore old new → AreSunkInside graph lists new
      → IsFoundAt graph block list index p new → AreFoundFrom graph lists block index new
  one_found p old new occurs found more sunk here = record {
    sunk = sunk;
    here = λ i l q le listed at. elim (cases_eq i index) [
      | inl same ↦
          let is_list : list ≡ l = one_list l listed in
          let there : OccursAt graph list index q = subst (λ k. OccursAt graph k index q) (sym is_list) (subst (λ j. OccursAt graph l j q) same at) in
          let is : p ≡ q = one_occurs graph list index p q occurs there in
          subst (λ r. IsFoundAt graph block l i r new) is (subst (λ k. IsFoundAt graph block k i p new) is_list (subst (λ j. IsFoundAt graph block list j p new) (sym same) here))
      | inr differ ↦ stays_found graph block l i q old new more (found.here i l q (omega (arith, le, differ)) listed at)
    ];
    later = λ b i l q lt listed at. stays_found graph b l i q old new more (found.later b i l q lt listed at);
  }

  -- where none occurs at it
  pub none_found : (found : Inside) → ((p : Pattern) → OccursAt graph list index p → ⊥) → AreFoundFrom graph lists block (suc index) found → AreFoundFrom graph lists block index found
  none_found found none was = record {
    sunk = was.sunk;
    here = λ i l q le listed at. elim (cases_eq i index) [
      | inl same ↦ absurd (none q (subst (λ k. OccursAt graph k index q) (sym (one_list l listed)) (subst (λ j. OccursAt graph l j q) same at)))
      | inr differ ↦ was.here i l q (omega (arith, le, differ)) listed at
    ];
    later = was.later;
  }

  module _ (p : Pattern) (occurs : OccursAt graph list index p) (old new : Inside) (found : AreFoundFrom graph lists block (suc index) old) where
    -- it is put before the node that stops it
    pub put_found : (n : ℕ) → slice_get list (stop_from graph list (suc index) p) ≡ Some n → new.puts.items ≡ old.puts.items ++ put_at n p ∷ [] → new.table ≡ old.table → new.leaving.items ≡ old.leaving.items
        → AreFoundFrom graph lists block index new
    put_found n stops puts table leaving = one_found p old new occurs found more sunk here
      where
        more : FoundMore old new
        more = record {
          puts = λ put c. subst (λ l. Contains l put) (sym puts) (Contains-append_left old.puts.items (put_at n p ∷ []) put c);
          table = λ k q e. ap (λ l. slice_get l k) table ∙ e;
          leaving = λ i left e. ap (λ l. slice_get l i) leaving ∙ e;
        }

        sunk : AreSunkInside graph lists new
        sunk = record {
          sinkable = subst (AreSinkableBelow (length graph.vars)) (sym table) found.sunk.sinkable;
          puts = λ i put e. elim (get_push old.puts.items (put_at n p) put i (ap (λ l. slice_get l i) (sym puts) ∙ e)) [
            | inl was ↦ found.sunk.puts i put was
            | inr last ↦ subst (IsSunkInside graph lists) last.1 (record { block = block; list = list; index = index; p = p; is_block = is_block; occurs = occurs; stops = stops; is = refl })
          ];
          leaving = λ i left e. subst (λ l. LeavesBlock graph lists l left) (sym table) (found.sunk.leaving i left (ap (λ l. slice_get l i) (sym leaving) ∙ e));
        }

        here : IsFoundAt graph block list index p new
        here = record {
          put = λ m at. (let both : Some n ≡ Some m = sym stops ∙ at in let same : n ≡ m = cc in subst (λ k. Contains new.puts.items (put_at k p)) same (subst (λ l. Contains l (put_at n p)) (sym puts) (Contains-push old.puts.items (put_at n p))));
          left = λ free on. absurd (none-some n (sym (slice_get_past list (stop_from graph list (suc index) p) free) ∙ stops));
        }

    -- it leaves the block where nothing stops it and paths go on
    pub left_found : (number : ℕ) → length list ≤ stop_from graph list (suc index) p → goes_on graph list ≡ true → AreSinkableBelow (length graph.vars) new.table
        → ((k : ℕ) (q : Pattern) → slice_get old.table k ≡ Some q → slice_get new.table k ≡ Some q) → slice_get new.table number ≡ Some p
        → new.puts.items ≡ old.puts.items → new.leaving.items ≡ old.leaving.items ++ record { block = block; number = number } ∷ [] → AreFoundFrom graph lists block index new
    left_found number free on sinkable keeps numbered puts leaving = one_found p old new occurs found more sunk here
      where
        left : Leaving
        left = record { block = block; number = number }

        more : FoundMore old new
        more = record {
          puts = λ put c. subst (λ l. Contains l put) (sym puts) c;
          table = keeps;
          leaving = λ i l e. ap (λ k. slice_get k i) leaving ∙ get_left_some old.leaving.items (record { block = block; number = number } ∷ []) i l e;
        }

        still : (l : Leaving) → LeavesBlock graph lists old.table l → LeavesBlock graph lists new.table l
        still l was = record { list = was.list; index = was.index; p = was.p; is_block = was.is_block; numbered = keeps l.number was.p was.numbered; occurs = was.occurs; free = was.free; on = was.on }

        sunk : AreSunkInside graph lists new
        sunk = record {
          sinkable = sinkable;
          puts = λ i put e. found.sunk.puts i put (ap (λ l. slice_get l i) (sym puts) ∙ e);
          leaving = λ i l e. elim (get_push old.leaving.items (record { block = block; number = number }) l i (ap (λ k. slice_get k i) (sym leaving) ∙ e)) [
            | inl was ↦ still l (found.sunk.leaving i l was)
            | inr last ↦ subst (LeavesBlock graph lists new.table) last.1 (record { list = list; index = index; p = p; is_block = is_block; numbered = numbered; occurs = occurs; free = free; on = on })
          ];
        }

        here : IsFoundAt graph block list index p new
        here = record {
          put = λ m at. absurd (none-some m (sym (slice_get_past list (stop_from graph list (suc index) p) free) ∙ at));
          left = λ f o. (
            length old.leaving.items,
            number,
            ap (λ k. slice_get k (length old.leaving.items)) leaving ∙ get_end old.leaving.items (record { block = block; number = number }),
            numbered,
          );
        }
          where
            get_end : (xs : List Leaving) (l : Leaving) → slice_get (xs ++ l ∷ []) (length xs) ≡ Some l
            get_end [] l = refl
            get_end (x ∷ xs) l = get_end xs l

    -- behind a Return no path goes on, so there it is neither put nor does it leave the block
    pub gone_found : length list ≤ stop_from graph list (suc index) p → goes_on graph list ≡ false → new ≡ old → AreFoundFrom graph lists block index new
    gone_found free off same = subst (AreFoundFrom graph lists block index) (sym same) (one_found p old old occurs found (found_same old) found.sunk (record {
      put = λ m at. absurd (none-some m (sym (slice_get_past list (stop_from graph list (suc index) p) free) ∙ at));
      left = λ f on. absurd (true≢false (sym on ∙ off));
    }))

-- what occurs at an index is the pattern of the node there
pub occurs_pattern : (graph : GraphShape) (list : List ℕ) (index : ℕ) (node : Node) (p : Pattern) → ((n : ℕ) × (slice_get list index ≡ Some n) × (slice_get graph.nodes n ≡ Some node)) → OccursAt graph list index p → pattern_of node ≡ Some p
occurs_pattern graph list index node p at occurs =
    let both : Some occurs.at ≡ Some at.0 = sym occurs.listed ∙ at.1 in
    let same : occurs.at ≡ at.0 = cc in
    let nodes : Some occurs.node ≡ Some node = sym occurs.is ∙ ap (slice_get graph.nodes) same ∙ at.2 in
    let is : occurs.node ≡ node = cc in
    ap pattern_of (sym is) ∙ occurs.occurs

-- ---- a block

-- where nothing is found, all is of no blocks
pub nothing_found : (graph : GraphShape) (lists : List (List ℕ)) (block : ℕ) (found : Inside) → length lists ≤ block → found.puts.items ≡ [] → found.table ≡ [] → found.leaving.items ≡ [] → AreInsideFrom graph lists block found
nothing_found graph lists block found past puts table leaving = (
  record {
    sinkable = λ k p e. absurd (none-some p (ap (λ l. slice_get l k) (sym table) ∙ e));
    puts = λ i put e. absurd (none-some put (ap (λ l. slice_get l i) (sym puts) ∙ e));
    leaving = λ i left e. absurd (none-some left (ap (λ l. slice_get l i) (sym leaving) ∙ e));
  },
  λ b i l p le listed at. (let within = slice_get_within lists b l listed in absurd (omega (arith, past, le, within))),
)

-- before a block none of its occurrences is looked at
pub none_yet : (graph : GraphShape) (lists : List (List ℕ)) (block index : ℕ) (list : List ℕ) (found : Inside) → slice_get lists block ≡ Some list → index ≡ length list → AreInsideFrom graph lists (suc block) found → AreFoundFrom graph lists block index found
none_yet graph lists block index list found is_block end were = record {
  sunk = were.0;
  here = λ i l p le listed at. (
      let same : list ≡ l = same_Some list l (sym is_block ∙ listed) in
      let within = slice_get_within l i at.at at.listed in
      let long = ap (λ (k : List ℕ). length k) same in
      absurd (omega (arith, le, end, within, long)));
  later = λ b i l p lt listed at. were.1 b i l p lt listed at;
}

-- and after all blocks all are
pub all_inside : (graph : GraphShape) (lists : List (List ℕ)) (block : ℕ) (found : Inside) → block ≡ 0 → AreInsideFrom graph lists block found → AreInside graph lists found
all_inside graph lists block found start are = record { sunk = are.0; all = λ b i l p listed at. are.1 b i l p (omega (arith, start)) listed at }

-- and after it all are
pub all_found : (graph : GraphShape) (lists : List (List ℕ)) (block index : ℕ) (found : Inside) → index ≡ 0 → AreFoundFrom graph lists block index found → AreInsideFrom graph lists block found
all_found graph lists block index found start are = (
  are.sunk,
  λ b i l p le listed at. elim (cases_eq b block) [
    | inl same ↦ subst (λ k. IsFoundAt graph k l i p found) (sym same) (are.here i l p (omega (arith, start)) (subst (λ k. slice_get lists k ≡ Some l) same listed) at)
    | inr differ ↦ are.later b i l p (omega (arith, le, differ)) listed at
  ],
)
