-- A graph that steps have made of a source, in which nothing is dead and no assignment passes a firm node, is at rest. For
-- proofs only.
use Rattle.std.proofs.Common.{◌≡◌, ◌⊎◌, ◌<◌, ℕ, Bool, true, false, List, [], ◌∷◌, ◌++◌, length, flat_map, slice_get, Option, Some, None, inl, inr, refl, sym, ap, ◌∙◌, subst, arith, append_assoc}
use Rattle.std.proofs.lemmas.Bool.{cases_Bool, cases_lt, eq-eqb, eqb-true, false≢true, true≢false}
use Rattle.std.proofs.lemmas.List.{append_cancel_right}
use Rattle.mir_base.specs.Expressions.{divides}
use Rattle.mir_base.specs.declared.instructions.Rhs.{Rhs}
use Rattle.flow_graph.specs.declared.nodes.Node.{Node}
use Rattle.flow_graph.specs.declared.nodes.Node.TheVariants.{Start, Skip, Assign, Print, Guard, Call, Test, Return}
use Rattle.flow_graph.specs.Graphs.{GraphShape, IsGraph, is_start}
use Rattle.flow_graph.specs.Paths.{Trace, from_start, goes_on}
use Rattle.graph_edit.specs.Accesses.{assigns_var, blocks_at, blocks_pattern, is_occurrence, occurs_at}
use Rattle.graph_edit.specs.Insertions.{Insertion}
use Rattle.graph_edit.specs.OccurrenceLaws.{is_occurrence_of}
use Rattle.path_laws.specs.Paths.{Since}
use Rattle.dead_code.specs.Pruned.{IsDeadAt}
use Rattle.sink_code.specs.Delaying.{IsDelayedTo}
use Rattle.path_images.specs.Ends.{IsEndOf, IsLonger, cons_first, cons_rest, empty_or, end_itself, end_length, end_past, end_through, ends_compare, latest_end, longer_end}
use Rattle.path_images.specs.Walks.{IsLoose, IsPlaced, lift_end}
use Rattle.path_images.specs.Images.{Ask, Is, IsRead, NoneDead, Sets}
use Rattle.path_images.specs.Keeping.{SameBefore, Stop, at_assignment, at_firm, at_join}
use Rattle.path_images.specs.Order.{Clash, clash_alike, set_read}
use Rattle.sink_best.specs.GraphWalks.{IsWalk, firm_at, graph_does, is_firm, node_does, walk_shorter, walk_within}
use Rattle.sink_best.specs.Chains.{pattern}
use Rattle.sink_best.specs.OneRemoval.{firm_within}
use Rattle.sink_best.specs.OneSinking.{assign_does, blocks_clash, pattern_does}
use Rattle.sink_best.specs.Made.{Made, Rests}
use Rattle.sink_best.specs.Reading.{live_read_on}

-- before Start nothing stands
behind_start : (graph : GraphShape) → IsGraph graph.vars graph.received graph.nodes → (g : ℕ) (before : List ℕ)
    → Trace graph.nodes g before → g ≡ 0 → before ≡ []
behind_start graph is_graph g before from_start e = refl
behind_start graph is_graph g before (goes_on a b earlier trace edge) e = (let low = (is_graph.can.succs a edge.0 g edge.1).0 in absurd (omega (arith, low, e)))

-- ---- on one path

-- whether it is so since
since_or : (born stop : ℕ → Bool) (l : List ℕ) → Since born stop l ⊎ (Since born stop l → ⊥)
since_or born stop [] = inr (λ s. s)
since_or born stop (m ∷ l) = elim (cases_Bool (born m)) [
  | inl is ↦ inl (inl is)
  | inr not ↦ elim (cases_Bool (stop m)) [
    | inl stops ↦ inr (λ s. elim s [ inl b ↦ true≢false (sym b ∙ not) | inr on ↦ true≢false (sym stops ∙ on.0) ])
    | inr free ↦ elim (since_or born stop l) [
      | inl later ↦ inl (inr (free, later))
      | inr none ↦ inr (λ s. elim s [ inl b ↦ true≢false (sym b ∙ not) | inr on ↦ none on.1 ])
    ]
  ]
]

-- since what stands there, if nothing behind it stops it
since_from : (born stop : ℕ → Bool) (front : List ℕ) (k : ℕ) (rest l : List ℕ) → l ≡ front ++ (k ∷ rest)
    → born k ≡ true → ((g : ℕ) (grest : List ℕ) → IsEndOf (g ∷ grest) l → IsEndOf (k ∷ rest) grest → stop g ≡ false)
    → Since born stop l
since_from born stop [] k rest l e is free = subst (Since born stop) (sym e) (inl is)
since_from born stop (m ∷ front) k rest l e is free = subst (Since born stop) (sym e) (inr (
  free m (front ++ (k ∷ rest)) (subst (IsEndOf (m ∷ (front ++ (k ∷ rest)))) (sym e) (end_itself (m ∷ (front ++ (k ∷ rest))))) (front, refl),
  since_from born stop front k rest (front ++ (k ∷ rest)) refl is (λ g grest at under. free g grest (subst (IsEndOf (g ∷ grest)) (sym e) (end_past (m ∷ []) (g ∷ grest) (front ++ (k ∷ rest)) at)) under),
))

-- the way on is without firm nodes, or up to a firm one
record UpToFirm (firm : ℕ → Bool) (on p : List ℕ) : Type 0 where
  far : List ℕ
  near : List ℕ
  is : on ≡ far ++ near
  loose : IsLoose firm near p
  f : ℕ
  fq : List ℕ
  head : near ++ p ≡ f ∷ fq
  firm_f : firm f ≡ true

-- each way on is one of the two
loose_or : (firm : ℕ → Bool) (on : List ℕ) (n : ℕ) (q : List ℕ) → IsLoose firm on (n ∷ q) ⊎ UpToFirm firm on (n ∷ q)
loose_or firm [] n q = inl tt
loose_or firm (a ∷ on) n q = elim (loose_or firm on n q) [
  | inr up ↦ inr (record { far = a ∷ up.far; near = up.near; is = ap (λ l. a ∷ l) up.is; loose = up.loose; f = up.f; fq = up.fq; head = up.head; firm_f = up.firm_f })
  | inl loose ↦ elim (empty_or (on ++ (n ∷ q))) [
    | inl none ↦ (let e = ap length none in let le = end_length (n ∷ q) (on ++ (n ∷ q)) (on, refl) in absurd (omega (arith, e, le)))
    | inr c ↦ elim (cases_Bool (firm c.node)) [
      | inl is ↦ inr (record { far = a ∷ []; near = on; is = refl; loose = loose; f = c.node; fq = c.rest; head = c.is; firm_f = is })
      | inr not ↦ inl (λ m before e. ap firm (cons_first m c.node before c.rest (sym e ∙ c.is)) ∙ not, loose)
    ]
  ]
]

module _ (source : GraphShape) (is_source : IsGraph source.vars source.received source.nodes) (still : GraphShape) (z : Made source is_source still)
    (none_dead : (n : ℕ) → IsDeadAt still n → ⊥)
    (no_passing : (f x : ℕ) (t : Rhs) → f < length still.nodes → firm_at still.nodes f ≡ true → IsDelayedTo still x t f → blocks_at x t still f ≡ true) where
  abbrev Walk : List ℕ → Type 0
  Walk = IsWalk source.nodes

  abbrev does : Ask Insertion → ℕ → Bool
  does = graph_does source

  abbrev firm : ℕ → Bool
  firm = firm_at source.nodes

  abbrev doesZ : Ask Insertion → ℕ → Bool
  doesZ = graph_does still

  abbrev lift : List ℕ → List ℕ
  lift = flat_map z.over

  -- what is not firm and assigns x is an assignment that may be moved
  record Moving (k x : ℕ) : Type 0 where
    t : Rhs
    next : ℕ
    is : slice_get still.nodes k ≡ Some (Assign x t next)
    sinkable : divides t ≡ false

  moving : (k x : ℕ) → firm k ≡ false → doesZ (Sets x) k ≡ true → Moving k x
  moving k x not sets = by (slice_get still.nodes k) refl (z.same_firm k ∙ not) sets
    where
      by : (o : Option Node) → slice_get still.nodes k ≡ o → is_firm o ≡ false → assigns_var still x o ≡ true → Moving k x
      by None e f s = absurd (false≢true s)
      by (Some (Start next)) e f s = absurd (true≢false f)
      by (Some (Skip next)) e f s = absurd (false≢true s)
      by (Some (Assign y t next)) e f s = record { t = t; next = next; is = e ∙ ap (λ v. Some (Assign v t next)) (sym (eqb-true x y s)); sinkable = f }
      by (Some (Print a next)) e f s = absurd (true≢false f)
      by (Some (Guard test number next)) e f s = absurd (true≢false f)
      by (Some (Call into unit operands next)) e f s = absurd (true≢false f)
      by (Some (Test test taken other)) e f s = absurd (true≢false f)
      by (Some (Return a)) e f s = absurd (true≢false f)

  rests_none : NoneDead Insertion Walk does firm z.over doesZ
  rests_none path k rest y walk at placed not sets no_read =
      let m = moving k y not sets in
      none_dead k (record { var = y; rhs = m.t; next = m.next; is = m.is; sinkable = m.sinkable; unread = λ live. no_read (live_read_on Walk does firm z.over still z.onward path k rest y walk at placed sets live) })

  -- ---- no assignment passes a firm node

  module _ (n : ℕ) (q : List ℕ) (k : ℕ) (rest : List ℕ) (x : ℕ) (walk : Walk (n ∷ q)) (at : IsEndOf (k ∷ rest) (lift (n ∷ q))) (placed : IsPlaced z.over (k ∷ rest) (n ∷ q)) (not : firm k ≡ false) (m : Moving k x)
      (no_stop : Stop Insertion Walk does firm z.over doesZ (n ∷ q) k rest → ⊥) where
    abbrev p : List ℕ
    p = n ∷ q

    abbrev pat : Insertion
    pat = pattern x m.t

    k_does : (a : Ask Insertion) → doesZ a k ≡ pattern_does a (pattern x m.t)
    k_does a = ap (node_does still a) m.is ∙ assign_does still a x m.t m.next

    k_is : occurs_at x m.t still k ≡ true
    k_is = ap (is_occurrence x m.t) m.is ∙ is_occurrence_of x m.t m.next m.sinkable

    -- as the pattern it does the same
    as_k : (other : Ask Insertion → Bool) → Clash Insertion (λ a. pattern_does a (pattern x m.t)) other → Clash Insertion (λ a. doesZ a k) other
    as_k other c = clash_alike Insertion (λ a. pattern_does a (pattern x m.t)) other (λ a. doesZ a k) other k_does (λ a. refl) c

    -- a node that neither is Start nor clashes does not block it
    free_of : (g : ℕ) → (g ≡ 0 → ⊥) → (Clash Insertion (λ a. doesZ a k) (λ a. doesZ a g) → ⊥) → blocks_at x m.t still g ≡ false
    free_of g differ none = elim (cases_Bool (blocks_at x m.t still g)) [
      | inr free ↦ free
      | inl blocked ↦ absurd (by (slice_get still.nodes g) refl blocked)
    ]
      where
        by : (o : Option Node) → slice_get still.nodes g ≡ o → blocks_pattern still x m.t o ≡ true → ⊥
        by None e b = false≢true b
        by (Some node) e b = elim (blocks_clash still pat node b) [
          | inl start ↦ differ (start_zero node e start)
          | inr c ↦ none (as_k (λ a. doesZ a g) (clash_alike Insertion (λ a. pattern_does a pat) (λ a. node_does still a (Some node)) (λ a. pattern_does a pat) (λ a. doesZ a g) (λ a. refl) (λ a. ap (node_does still a) e) c))
        ]
          where
            start_zero : (node : Node) → slice_get still.nodes g ≡ Some node → is_start node ≡ true → g ≡ 0
            start_zero (Start s) e' b' = z.is_graph.can.only g s e'
            start_zero (Skip s) e' b' = absurd (false≢true b')
            start_zero (Assign y t s) e' b' = absurd (false≢true b')
            start_zero (Print a s) e' b' = absurd (false≢true b')
            start_zero (Guard test number s) e' b' = absurd (false≢true b')
            start_zero (Call into unit operands s) e' b' = absurd (false≢true b')
            start_zero (Test test taken other) e' b' = absurd (false≢true b')
            start_zero (Return a) e' b' = absurd (false≢true b')

    -- behind some node on a path there is no Start
    later_not_start : (g : ℕ) (grest l : List ℕ) → IsWalk still.nodes l → IsEndOf (g ∷ grest) l → IsEndOf (k ∷ rest) grest → g ≡ 0 → ⊥
    later_not_start g grest l walk_l at_g under e =
        let none = ap length (behind_start still z.is_graph g grest (walk_shorter still.nodes at_g.0 g grest (subst (IsWalk still.nodes) at_g.1 walk_l)) e) in
        let le = end_length (k ∷ rest) grest under in
        omega (arith, none, le)

    module _ (near : List ℕ) (walk_near : Walk (near ++ (n ∷ q))) (loose : IsLoose firm near (n ∷ q)) where
      -- nothing on the way on clashes
      clear : (g : ℕ) (grest : List ℕ) → IsEndOf (g ∷ grest) (lift (near ++ (n ∷ q))) → IsEndOf (k ∷ rest) grest
          → Clash Insertion (λ a. doesZ a k) (λ a. doesZ a g) → ⊥
      clear g grest at_g under c = no_stop (at_assignment near walk_near loose g grest at_g under c)

    -- at a firm node on the way on it is delayed
    module _ (near : List ℕ) (walk_near : Walk (near ++ (n ∷ q))) (loose : IsLoose firm near (n ∷ q)) (f : ℕ) (fq : List ℕ) (head : near ++ (n ∷ q) ≡ f ∷ fq) (firm_f : firm f ≡ true) where
      walk_f : Walk (f ∷ fq)
      walk_f = subst Walk head walk_near

      f_old : f < length source.nodes
      f_old = walk_within source is_source f fq walk_f

      -- what stands before it there
      chain_f : (chain : List ℕ) × (z.over f ≡ f ∷ chain)
      chain_f = z.image.itself f

      not_k : f ≡ k → ⊥
      not_k e = true≢false (sym firm_f ∙ ap firm e ∙ not)

      -- on each path to it
      each_way : (before : List ℕ) → Trace still.nodes f before → (Since (occurs_at x m.t still) (blocks_at x m.t still) before → ⊥) → ⊥
      each_way before trace none = by near refl
        where
          g : (gb : List ℕ) × Walk (f ∷ gb) × (f ∷ before ≡ lift (f ∷ gb))
          g = z.ground f before f_old trace

          before_is : before ≡ chain_f.0 ++ lift g.0
          before_is = cons_rest f f before (chain_f.0 ++ lift g.0) (g.2 ∙ ap (λ l. l ++ lift g.0) chain_f.1)

          -- a node of its chain does not block
          chain_free : (c : ℕ) (crest : List ℕ) → IsEndOf (c ∷ crest) chain_f.0 → (IsEndOf (k ∷ rest) (crest ++ lift fq)) → blocks_at x m.t still c ≡ false
          chain_free c crest at_c under =
              let whole : lift (near ++ (n ∷ q)) ≡ (f ∷ at_c.0) ++ (c ∷ (crest ++ lift fq)) = ap lift head ∙ ap (λ l. l ++ lift fq) chain_f.1 ∙ ap (λ l. f ∷ (l ++ lift fq)) at_c.1 ∙ ap (λ l. f ∷ l) (append_assoc at_c.0 (c ∷ crest) (lift fq)) in
              free_of c (later_not_start c (crest ++ lift fq) (lift (near ++ (n ∷ q))) (z.lifted (near ++ (n ∷ q)) walk_near) (f ∷ at_c.0, whole) under) (clear near walk_near loose c (crest ++ lift fq) (f ∷ at_c.0, whole) under)

          by : (l : List ℕ) → near ≡ l → ⊥
          -- it stands in the chain itself
          by [] e = below at.0 at.1
            where
              fq_is : n ∷ q ≡ f ∷ fq
              fq_is = ap (λ l. l ++ (n ∷ q)) (sym e) ∙ head

              long : IsLonger (k ∷ rest) (lift fq)
              long = placed f fq fq_is

              below : (front : List ℕ) → lift (n ∷ q) ≡ front ++ (k ∷ rest) → ⊥
              below front at_is = place front (append_cancel_right (f ∷ chain_f.0) (front ++ (long.node ∷ long.front)) (lift fq)
                  (ap (λ l. l ++ lift fq) (sym chain_f.1) ∙ ap lift (sym fq_is) ∙ at_is ∙ ap (λ l. front ++ l) long.is ∙ sym (append_assoc front (long.node ∷ long.front) (lift fq))))
                where
                  node_k : k ≡ long.node
                  node_k = cons_first k long.node rest (long.front ++ lift fq) long.is

                  rest_k : rest ≡ long.front ++ lift fq
                  rest_k = cons_rest k long.node rest (long.front ++ lift fq) long.is

                  in_front : (c : ℕ) (crest front : List ℕ) → chain_f.0 ≡ front ++ (k ∷ long.front)
                      → IsEndOf (c ∷ crest) before → IsEndOf (k ∷ (long.front ++ lift g.0)) crest
                      → blocks_at x m.t still c ≡ false
                  in_front c crest front chain_is at_c under =
                      let part : IsEndOf (c ∷ crest) (chain_f.0 ++ lift g.0) = subst (IsEndOf (c ∷ crest)) before_is at_c in
                      let whole : chain_f.0 ++ lift g.0 ≡ (part.0 ++ ((c ∷ under.0) ++ (k ∷ long.front))) ++ lift g.0 =
                      part.1 ∙ ap (λ l. part.0 ++ (c ∷ l)) under.1 ∙ ap (λ l. part.0 ++ l) (sym (append_assoc (c ∷ under.0) (k ∷ long.front) (lift g.0))) ∙ sym (append_assoc part.0 ((c ∷ under.0) ++ (k ∷ long.front)) (lift g.0)) in
                      let inside : chain_f.0 ≡ part.0 ++ (c ∷ (under.0 ++ (k ∷ long.front))) = append_cancel_right chain_f.0 (part.0 ++ ((c ∷ under.0) ++ (k ∷ long.front))) (lift g.0) whole in
                      chain_free c (under.0 ++ (k ∷ long.front)) (part.0, inside) (under.0, append_assoc under.0 (k ∷ long.front) (lift fq) ∙ ap (λ l. under.0 ++ (k ∷ l)) (sym rest_k))

                  place : (front : List ℕ) → f ∷ chain_f.0 ≡ front ++ (long.node ∷ long.front) → ⊥
                  place [] same = not_k (cons_first f long.node chain_f.0 long.front same ∙ sym node_k)
                  place (h ∷ front) same =
                      let chain_is : chain_f.0 ≡ front ++ (k ∷ long.front) = cons_rest f h chain_f.0 (front ++ (long.node ∷ long.front)) same ∙ ap (λ a. front ++ (a ∷ long.front)) (sym node_k) in
                      none (since_from (occurs_at x m.t still) (blocks_at x m.t still) front k (long.front ++ lift g.0) before (before_is ∙ ap (λ l. l ++ lift g.0) chain_is ∙ append_assoc front (k ∷ long.front) (lift g.0)) k_is (λ c crest at_c under. in_front c crest front chain_is at_c under))
          -- or it comes to it along each way
          by (s ∷ on) e = no_stop (at_join f on walk_s loose_s free_on (λ all. all' all))
            where
              top : s ∷ (on ++ (n ∷ q)) ≡ f ∷ fq
              top = ap (λ l. l ++ (n ∷ q)) (sym e) ∙ head

              s_is : s ≡ f
              s_is = cons_first s f (on ++ (n ∷ q)) fq top

              fq_is : on ++ (n ∷ q) ≡ fq
              fq_is = cons_rest s f (on ++ (n ∷ q)) fq top

              walk_s : Walk (f ∷ (on ++ (n ∷ q)))
              walk_s = subst (λ l. Walk (f ∷ l)) (sym fq_is) walk_f

              loose_s : IsLoose firm (f ∷ on) (n ∷ q)
              loose_s = subst (λ a. IsLoose firm (a ∷ on) (n ∷ q)) s_is (subst (λ l. IsLoose firm l (n ∷ q)) e loose)

              free_on : (g' : ℕ) (grest : List ℕ) → IsEndOf (g' ∷ grest) (lift (on ++ (n ∷ q)))
                  → IsEndOf (k ∷ rest) grest → Clash Insertion (λ a. doesZ a k) (λ a. doesZ a g') → ⊥
              free_on g' grest at_g under c = clear near walk_near loose g' grest (subst (λ l. IsEndOf (g' ∷ grest) (lift l)) (sym (head ∙ ap (λ l. f ∷ l) (sym fq_is))) (lift_end z.over (g' ∷ grest) (on ++ (n ∷ q)) (f ∷ (on ++ (n ∷ q))) (f ∷ [], refl) at_g)) under c

              -- it stands below the chain
              k_low : IsEndOf (k ∷ rest) (lift fq)
              k_low = subst (λ l. IsEndOf (k ∷ rest) (lift l)) fq_is (lift_end z.over (k ∷ rest) (n ∷ q) (on ++ (n ∷ q)) (on, refl) at)

              all' : ((b : List ℕ) → Walk (f ∷ b) → (SameBefore Insertion z.over doesZ (λ a. doesZ a k) b → ⊥) → ⊥) → ⊥
              all' all = all g.0 g.1 (λ same. none (with_chain same))
                where
                  with_chain : SameBefore Insertion z.over doesZ (λ a. doesZ a k) g.0 → Since (occurs_at x m.t still) (blocks_at x m.t still) before
                  with_chain same = since_from (occurs_at x m.t still) (blocks_at x m.t still) (chain_f.0 ++ same.at.0) same.node same.rest before
                      (before_is ∙ ap (λ l. chain_f.0 ++ l) same.at.1 ∙ sym (append_assoc chain_f.0 same.at.0 (same.node ∷ same.rest)))
                      (same.alike (Is pat) ∙ k_is) (λ c crest at_c under. by_place c crest at_c under)
                    where
                      walk_g : IsWalk still.nodes (lift (f ∷ g.0))
                      walk_g = z.lifted (f ∷ g.0) g.1

                      not_start : (c : ℕ) (crest : List ℕ) → IsEndOf (c ∷ crest) (lift (f ∷ g.0)) → IsEndOf (same.node ∷ same.rest) crest → c ≡ 0 → ⊥
                      not_start c crest at_c under e' =
                          let nothing = ap length (behind_start still z.is_graph c crest (walk_shorter still.nodes at_c.0 c crest (subst (IsWalk still.nodes) at_c.1 walk_g)) e') in
                          let le = end_length (same.node ∷ same.rest) crest under in
                          omega (arith, nothing, le)

                      by_place : (c : ℕ) (crest : List ℕ) → IsEndOf (c ∷ crest) before → IsEndOf (same.node ∷ same.rest) crest → blocks_at x m.t still c ≡ false
                      by_place c crest at_c under = elim (cases_lt (length (lift g.0)) (length (c ∷ crest))) [
                        | inr ge ↦
                            let low : IsEndOf (c ∷ crest) (lift g.0) = ends_compare (c ∷ crest) (lift g.0) before at_c (chain_f.0, before_is) ge in
                            free_of c (not_start c crest (end_through (c ∷ crest) (lift g.0) (lift (f ∷ g.0)) low (z.over f, refl)) under)
                            (λ clash. same.free c crest low under (clash_alike Insertion (λ a. doesZ a k) (λ a. doesZ a c) (λ a. doesZ a same.node) (λ a. doesZ a c) same.alike (λ a. refl) clash))
                        | inl less ↦
                            let longer = longer_end (c ∷ crest) (lift g.0) before at_c (chain_f.0, before_is) less in
                            let inside : chain_f.0 ≡ at_c.0 ++ (longer.node ∷ longer.front) = append_cancel_right chain_f.0 (at_c.0 ++ (longer.node ∷ longer.front)) (lift g.0) (sym before_is ∙ at_c.1 ∙ ap (λ l. at_c.0 ++ l) longer.is ∙ sym (append_assoc at_c.0 (longer.node ∷ longer.front) (lift g.0))) in
                            let node_c : longer.node ≡ c = sym (cons_first c longer.node crest (longer.front ++ lift g.0) longer.is) in
                            ap (blocks_at x m.t still) (sym node_c) ∙ chain_free longer.node longer.front (at_c.0, inside) (end_past longer.front (k ∷ rest) (lift fq) k_low)
                      ]

      -- so it does not pass it
      stops_there : ⊥
      stops_there = no_stop (at_firm near walk_near loose f fq head firm_f clash)
        where
          delayed : IsDelayedTo still x m.t f
          delayed before trace = elim (since_or (occurs_at x m.t still) (blocks_at x m.t still) before) [
            | inl is ↦ is
            | inr none ↦ absurd (each_way before trace none)
          ]

          firm_still : firm_at still.nodes f ≡ true
          firm_still = z.same_firm f ∙ firm_f

          blocked : blocks_at x m.t still f ≡ true
          blocked = no_passing f x m.t (firm_within still.nodes f firm_still) firm_still delayed

          f_not_start : f ≡ 0 → ⊥
          f_not_start e = none_there (delayed [] (subst (λ a. Trace still.nodes a []) (sym e) from_start))
            where
              none_there : Since (occurs_at x m.t still) (blocks_at x m.t still) [] → ⊥
              none_there s = s

          clash : Clash Insertion (λ a. doesZ a k) (λ a. does a f)
          clash = elim (cases_Bool (is_start_at (slice_get still.nodes f))) [
            | inl start ↦ absurd (f_not_start (zero_of (slice_get still.nodes f) refl start))
            | inr not_start ↦ from_block (slice_get still.nodes f) refl not_start blocked
          ]
            where
              is_start_at : Option Node → Bool
              is_start_at None = false
              is_start_at (Some node) = is_start node

              zero_of : (o : Option Node) → slice_get still.nodes f ≡ o → is_start_at o ≡ true → f ≡ 0
              zero_of None e b = absurd (false≢true b)
              zero_of (Some (Start s)) e b = z.is_graph.can.only f s e
              zero_of (Some (Skip s)) e b = absurd (false≢true b)
              zero_of (Some (Assign y t s)) e b = absurd (false≢true b)
              zero_of (Some (Print a s)) e b = absurd (false≢true b)
              zero_of (Some (Guard test number s)) e b = absurd (false≢true b)
              zero_of (Some (Call into unit operands s)) e b = absurd (false≢true b)
              zero_of (Some (Test test taken other)) e b = absurd (false≢true b)
              zero_of (Some (Return a)) e b = absurd (false≢true b)

              from_block : (o : Option Node) → slice_get still.nodes f ≡ o → is_start_at o ≡ false
                  → blocks_pattern still x m.t o ≡ true → Clash Insertion (λ a. doesZ a k) (λ a. does a f)
              from_block None e apart b = absurd (false≢true b)
              from_block (Some node) e apart b = elim (blocks_clash still pat node b) [
                | inl start ↦ absurd (true≢false (sym start ∙ apart))
                | inr c ↦ as_k (λ a. does a f) (clash_alike Insertion (λ a. pattern_does a pat) (λ a. node_does still a (Some node)) (λ a. pattern_does a pat) (λ a. does a f) (λ a. refl) (λ a. sym (z.image.firm_alike f firm_f a) ∙ ap (node_does still a) e) c)
              ]

    -- a reader comes on each way, so something stops it
    rests_here : IsRead Insertion Walk does firm z.over doesZ (n ∷ q) k rest x → ⊥
    rests_here r = elim (loose_or firm r.on n q) [
      | inl loose ↦
          let under : IsEndOf (k ∷ rest) r.before = subst (λ l. IsEndOf l r.before) r.last (latest_end (doesZ (Sets x)) r.before) in
          no_stop (at_assignment r.on r.walk loose r.node r.before r.at under (set_read x (ap (node_does still (Sets x)) m.is ∙ eq-eqb x x refl) r.reads_it))
      | inr up ↦
          let walk_up : Walk (up.near ++ (n ∷ q)) = subst Walk (sym up.head) (walk_shorter source.nodes up.far up.f up.fq (subst Walk (ap (λ l. l ++ (n ∷ q)) up.is ∙ append_assoc up.far up.near (n ∷ q) ∙ ap (λ l. up.far ++ l) up.head) r.walk)) in
          stops_there up.near walk_up up.loose up.f up.fq up.head up.firm_f
    ]

  pub rests : Rests source is_source still z
  rests = record {
    none_dead = rests_none;
    at_rest = λ p k rest x walk at placed not sets no_stop. by p k rest x walk at placed not sets no_stop;
  }
    where
      by : (p : List ℕ) (k : ℕ) (rest : List ℕ) (x : ℕ) → Walk p → IsEndOf (k ∷ rest) (lift p)
          → IsPlaced z.over (k ∷ rest) p → firm k ≡ false → doesZ (Sets x) k ≡ true
          → (Stop Insertion Walk does firm z.over doesZ p k rest → ⊥) → ⊥
      by [] k rest x walk at placed not sets no_stop = absurd walk
      by (n ∷ q) k rest x walk at placed not sets no_stop = rests_none (n ∷ q) k rest x walk at placed not sets (λ r. rests_here n q k rest x walk at placed not (moving k x not sets) no_stop r)
