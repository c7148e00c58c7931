-- What a walk keeps, and what it leaves.
use Rattle.std.proofs.Common.{◌≡◌, ℕ, zero, suc, ◌<◌, ◌≤◌, Bool, true, false, cond, List, [], ◌∷◌, ◌++◌, length, slice_get, slice_set, slice_index_or, Option, Some, None, ◌⊎◌, inl, inr, refl, sym, ap, ◌∙◌, subst, arith, replicate, length-append}
use Rattle.std.proofs.lemmas.List.{length-replicate, length-set}
use Rattle.flow_graph.specs.ListLaws.{set_here}
use Rattle.flow_graph.specs.MarkLaws.{marked_before, set_keeps, unmarked_same, unmarked_set}
use Rattle.flow_graph.specs.declared.nodes.Node.{Node}
use Rattle.flow_graph.specs.BoundLaws.{slot_low}
use Rattle.flow_graph.specs.Graphs.{IsEdge, Reached, at_start, along, node_succs, succs_of, succs_at, AllWithin, IsBelow}
use Rattle.flow_graph.specs.Retained.{MarkReached}
use Rattle.flow_graph.specs.Numbering.{is_in}
use Rattle.flow_graph.specs.ReachWalks.{Walking, marks_after, stack_after, walk_weight}
use Rattle.flow_graph.specs.NumberingLaws.{is_in_first, is_in_last, is_in_pushed}

-- ---- one mark

-- the node, where there is one, is reached
abbrev IsReachedOr : List Node → Option ℕ → Type 0
IsReachedOr nodes None = Unit {0}
IsReachedOr nodes (Some s) = Reached nodes s

-- a mark that is read as true, with false as the default, is there
index_marked : (marks : List Bool) (s : ℕ) → slice_index_or marks s false ≡ true → slice_get marks s ≡ Some true
index_marked [] s e = cc
index_marked (b ∷ marks) zero e = ap Some e
index_marked (b ∷ marks) (suc s) e = index_marked marks s e

module _ (nodes : List Node) (within : AllWithin nodes) where
  mark_new : (marks : List Bool) (stack stack' : List ℕ) (current : Option ℕ) (s : ℕ) → Walking nodes marks stack current → Reached nodes s → s < length nodes → ((n : ℕ) → is_in n stack ≡ true → is_in n stack' ≡ true) → ((n : ℕ) → is_in n stack' ≡ true → (is_in n stack ≡ true) ⊎ (s ≡ n)) → (is_in s stack' ≡ true) ⊎ (slice_get marks s ≡ Some true) → Walking nodes (slice_set marks s true) stack' current
  mark_new marks stack stack' current s w r lt keeps tells new = record {
    long = length-set marks s true ∙ w.long;
    sound = λ n e. elim (marked_before marks s n e) [ inl p ↦ subst (Reached nodes) (sym p) r | inr p ↦ w.sound n p ];
    start_marked = set_keeps marks s 0 w.start_marked;
    stacked = λ n e. elim (tells n e) [ inl p ↦ set_keeps marks s n (w.stacked n p) | inr p ↦ subst (λ m. slice_get (slice_set marks s true) m ≡ Some true) p (set_here marks s true (omega (arith, lt, w.long))) ];
    closed = λ n e. elim (marked_before marks s n e) [
      | inl p ↦ elim new [
        | inl q ↦ inl (subst (λ m. is_in m stack' ≡ true) (sym p) q)
        | inr q ↦ old n (subst (λ m. slice_get marks m ≡ Some true) (sym p) q)
      ]
      | inr p ↦ old n p
    ];
  }
    where
      old : (n : ℕ) → slice_get marks n ≡ Some true → (is_in n stack' ≡ true) ⊎ (current ≡ Some n) ⊎ ((slot t : ℕ) → IsEdge nodes n slot t → slice_get (slice_set marks s true) t ≡ Some true)
      old n p = elim (w.closed n p) [
        | inl q ↦ inl (keeps n q)
        | inr (inl q) ↦ inr (inl q)
        | inr (inr q) ↦ inr (inr (λ slot t e. set_keeps marks s t (q slot t e)))
      ]

  pub marks_one : (marks : List Bool) (stack : List ℕ) (current o : Option ℕ) → Walking nodes marks stack current → IsReachedOr nodes o → IsBelow (length nodes) o → Walking nodes (marks_after marks o) (stack_after marks stack o) current
  marks_one marks stack current None w r lt = w
  marks_one marks stack current (Some s) w r lt = chosen (slice_index_or marks s false) refl
    where
      chosen : (b : Bool) → slice_index_or marks s false ≡ b → Walking nodes (slice_set marks s true) (cond b stack (stack ++ s ∷ [])) current
      chosen true is = mark_new marks stack stack current s w r lt (λ n e. e) (λ n e. inl e) (inr (index_marked marks s is))
      chosen false is = mark_new marks stack (stack ++ s ∷ []) current s w r lt (λ n e. is_in_first n stack (s ∷ []) e) (λ n e. is_in_pushed n s stack e) (inl (is_in_last s stack))

  pub lighter_one : (marks : List Bool) (stack : List ℕ) (o : Option ℕ) → IsBelow (length marks) o → walk_weight (marks_after marks o) (stack_after marks stack o) ≤ walk_weight marks stack
  lighter_one marks stack None lt = omega arith
  lighter_one marks stack (Some s) lt = chosen (slice_index_or marks s false) refl
    where
      chosen : (b : Bool) → slice_index_or marks s false ≡ b → walk_weight (slice_set marks s true) (cond b stack (stack ++ s ∷ [])) ≤ walk_weight marks stack
      chosen true is = omega (arith, unmarked_same marks s is)
      chosen false is = omega (arith, unmarked_set marks s lt is, length-append stack (s ∷ []))

  pub lighter_by : (marks marks' : List Bool) (stack stack' : List ℕ) (o : Option ℕ) → IsBelow (length marks) o → marks' ≡ marks_after marks o → stack' ≡ stack_after marks stack o → walk_weight marks' stack' ≤ walk_weight marks stack
  lighter_by marks marks' stack stack' o lt e e' = subst (λ m. walk_weight m stack' ≤ walk_weight marks stack) (sym e) (subst (λ s. walk_weight (marks_after marks o) s ≤ walk_weight marks stack) (sym e') (lighter_one marks stack o lt))

  pub marked_after : (marks : List Bool) (o : Option ℕ) (s : ℕ) → o ≡ Some s → s < length marks → slice_get (marks_after marks o) s ≡ Some true
  marked_after marks None s e lt = cc
  marked_after marks (Some t) s e lt = let same : t ≡ s = cc in subst (λ m. slice_get (slice_set marks m true) s ≡ Some true) (sym same) (set_here marks s true lt)

  pub after_keeps : (marks : List Bool) (o : Option ℕ) (n : ℕ) → slice_get marks n ≡ Some true → slice_get (marks_after marks o) n ≡ Some true
  after_keeps marks None n e = e
  after_keeps marks (Some s) n e = set_keeps marks s n e

  pub long_after : (marks : List Bool) (o : Option ℕ) → length (marks_after marks o) ≡ length marks
  long_after marks None = refl
  long_after marks (Some s) = length-set marks s true

  -- a node has no third successor
  two_slots : (node : Node) (slot s : ℕ) → slice_get (node_succs node) slot ≡ Some s → (slot ≡ 0) ⊎ (slot ≡ 1)
  two_slots node slot s e = by slot (slot_low node slot s e)
    where
      by : (slot : ℕ) → slot < 2 → (slot ≡ 0) ⊎ (slot ≡ 1)
      by zero low = inl refl
      by (suc zero) low = inr refl
      by (suc (suc slot)) low = absurd (omega (arith, low))

  succ_within : (o : Option ℕ) (n slot : ℕ) → slice_get (succs_at nodes n) slot ≡ o → IsBelow (length nodes) o
  succ_within None n slot e = tt
  succ_within (Some s) n slot e = within n slot s e

  succ_reached : (o : Option ℕ) (n slot : ℕ) → Reached nodes n → slice_get (succs_at nodes n) slot ≡ o → IsReachedOr nodes o
  succ_reached None n slot r e = tt
  succ_reached (Some s) n slot r e = along n slot s r e

  pub first_within : (node : Node) (n slot : ℕ) → slice_get nodes n ≡ Some node → IsBelow (length nodes) (slice_get (node_succs node) slot)
  first_within node n slot e = succ_within (slice_get (node_succs node) slot) n slot (ap (λ o. slice_get (succs_of o) slot) e)

  -- the whole visit of a node: its second successor is marked, and then the first
  pub visited : (marks : List Bool) (stack : List ℕ) (n : ℕ) (node : Node) → slice_get nodes n ≡ Some node → slice_get marks n ≡ Some true → Walking nodes marks stack (Some n) →
      Walking nodes (marks_after (marks_after marks (slice_get (node_succs node) 1)) (slice_get (node_succs node) 0)) (stack_after (marks_after marks (slice_get (node_succs node) 1)) (stack_after marks stack (slice_get (node_succs node) 1)) (slice_get (node_succs node) 0)) None
  visited marks stack n node here is w =
      let o = slice_get (node_succs node) 1 in
      let o' = slice_get (node_succs node) 0 in
      let r = w.sound n is in
      let e : slice_get (succs_at nodes n) 1 ≡ o = ap (λ x. slice_get (succs_of x) 1) here in
      let e' : slice_get (succs_at nodes n) 0 ≡ o' = ap (λ x. slice_get (succs_of x) 0) here in
      let w1 = marks_one marks stack (Some n) o w (succ_reached o n 1 r e) (succ_within o n 1 e) in
      let w2 = marks_one (marks_after marks o) (stack_after marks stack o) (Some n) o' w1 (succ_reached o' n 0 r e') (succ_within o' n 0 e') in
      record {
        long = w2.long;
        sound = w2.sound;
        start_marked = w2.start_marked;
        stacked = w2.stacked;
        closed = λ m p. elim (w2.closed m p) [
          | inl q ↦ inl q
          | inr (inr q) ↦ inr (inr q)
          | inr (inl q) ↦ let same : n ≡ m = cc in inr (inr (λ slot s edge. done slot s (subst (λ k. IsEdge nodes k slot s) (sym same) edge)))
        ];
      }
    where
      done : (slot s : ℕ) → IsEdge nodes n slot s → slice_get (marks_after (marks_after marks (slice_get (node_succs node) 1)) (slice_get (node_succs node) 0)) s ≡ Some true
      done slot s edge =
          let at_ : slice_get (node_succs node) slot ≡ Some s = sym (ap (λ x. slice_get (succs_of x) slot) here) ∙ edge in
          let lt = within n slot s edge in
          let long = long_after marks (slice_get (node_succs node) 1) in
          elim (two_slots node slot s at_) [
            | inl z ↦ marked_after (marks_after marks (slice_get (node_succs node) 1)) (slice_get (node_succs node) 0) s (ap (slice_get (node_succs node)) (sym z) ∙ at_) (omega (arith, lt, w.long, long))
            | inr z ↦ after_keeps (marks_after marks (slice_get (node_succs node) 1)) (slice_get (node_succs node) 0) s (marked_after marks (slice_get (node_succs node) 1) s (ap (slice_get (node_succs node)) (sym z) ∙ at_) (omega (arith, lt, w.long)))
          ]

  pub visit_walks : (marks marks' marks'' : List Bool) (stack stack' stack'' : List ℕ) (n : ℕ) (node : Node) (o o' : Option ℕ) → slice_get nodes n ≡ Some node → slice_get marks n ≡ Some true → Walking nodes marks stack (Some n) → o ≡ slice_get (node_succs node) 1 → o' ≡ slice_get (node_succs node) 0 → marks' ≡ marks_after marks o → stack' ≡ stack_after marks stack o → marks'' ≡ marks_after marks' o' → stack'' ≡ stack_after marks' stack' o' → Walking nodes marks'' stack'' None
  visit_walks marks marks' marks'' stack stack' stack'' n node o o' here is w e e' a b a' b' =
      let v = visited marks stack n node here is w in
      let m1 : marks' ≡ marks_after marks (slice_get (node_succs node) 1) = a ∙ ap (marks_after marks) e in
      let s1 : stack' ≡ stack_after marks stack (slice_get (node_succs node) 1) = b ∙ ap (stack_after marks stack) e in
      let m2 : marks'' ≡ marks_after (marks_after marks (slice_get (node_succs node) 1)) (slice_get (node_succs node) 0) = a' ∙ ap (λ l. marks_after l o') m1 ∙ ap (marks_after (marks_after marks (slice_get (node_succs node) 1))) e' in
      let s2 : stack'' ≡ stack_after (marks_after marks (slice_get (node_succs node) 1)) (stack_after marks stack (slice_get (node_succs node) 1)) (slice_get (node_succs node) 0) = b' ∙ ap (λ l. stack_after l stack' o') m1 ∙ ap (λ l. stack_after (marks_after marks (slice_get (node_succs node) 1)) l o') s1 ∙ ap (stack_after (marks_after marks (slice_get (node_succs node) 1)) (stack_after marks stack (slice_get (node_succs node) 1))) e' in
      subst (λ m. Walking nodes m stack'' None) (sym m2) (subst (λ s. Walking nodes (marks_after (marks_after marks (slice_get (node_succs node) 1)) (slice_get (node_succs node) 0)) s None) (sym s2) v)

  -- with nothing on the stack the walk is over
  pub walk_marks : (marks : List Bool) → 0 < length nodes → Walking nodes marks [] None → MarkReached nodes marks
  walk_marks marks some w = record { long = w.long; exact = λ n lt. (w.sound n, λ r. marked n r) }
    where
      next : (m slot s : ℕ) → slice_get marks m ≡ Some true → IsEdge nodes m slot s → slice_get marks s ≡ Some true
      next m slot s e edge = elim (w.closed m e) [ inl q ↦ cc | inr (inl q) ↦ cc | inr (inr q) ↦ q slot s edge ]

      marked : (n : ℕ) → Reached nodes n → slice_get marks n ≡ Some true
      marked zero at_start = w.start_marked
      marked n (along m slot s r edge) = next m slot n (marked m r) edge

  -- the last of the stack becomes the current one
  pub popped : (marks : List Bool) (stack : List ℕ) (n : ℕ) → Walking nodes marks (stack ++ n ∷ []) None → (slice_get marks n ≡ Some true) × Walking nodes marks stack (Some n)
  popped marks stack n w = (
    w.stacked n (is_in_last n stack),
    record {
      long = w.long;
      sound = w.sound;
      start_marked = w.start_marked;
      stacked = λ m e. w.stacked m (is_in_first m stack (n ∷ []) e);
      closed = λ m e. elim (w.closed m e) [
        | inl q ↦ elim (is_in_pushed m n stack q) [ inl p ↦ inl p | inr p ↦ inr (inl (ap Some p)) ]
        | inr (inl q) ↦ cc
        | inr (inr q) ↦ inr (inr q)
      ];
    },
  )

-- ---- the beginning

-- where node 0 alone is marked, a marked node is node 0
first_set : (n : ℕ) → 0 < n → (marks : List Bool) → marks ≡ replicate n false → (k : ℕ) → slice_get (slice_set marks 0 true) k ≡ Some true → k ≡ 0
first_set zero lt marks e k is = absurd (omega (arith, lt))
first_set (suc n) lt [] e k is = cc
first_set (suc n) lt (b ∷ marks) e zero is = refl
first_set (suc n) lt (b ∷ marks) e (suc k) is = let rest : marks ≡ replicate n false = cc in absurd (none n marks rest k is)
  where
    none : (n : ℕ) (marks : List Bool) → marks ≡ replicate n false → (k : ℕ) → slice_get marks k ≡ Some true → ⊥
    none zero marks e k is = let is' : slice_get {X = Bool} [] k ≡ Some true = sym (ap (λ l. slice_get l k) e) ∙ is in cc
    none (suc n) [] e k is = cc
    none (suc n) (b ∷ marks) e zero is = cc
    none (suc n) (b ∷ marks) e (suc k) is = let rest : marks ≡ replicate n false = cc in none n marks rest k is

-- the walk begins at node 0
pub walk_begins : (nodes : List Node) (marks marks' : List Bool) (stack : List ℕ) → 0 < length nodes → marks ≡ replicate (length nodes) false → marks' ≡ slice_set marks 0 true → stack ≡ 0 ∷ [] → Walking nodes marks' stack None
walk_begins nodes marks marks' stack some e e' e'' =
    let long : length marks ≡ length nodes = ap length e ∙ length-replicate (length nodes) false in
    let w : Walking nodes (slice_set marks 0 true) (0 ∷ []) None = record {
      long = length-set marks 0 true ∙ long;
      sound = λ n is. let z = first_set (length nodes) some marks e n is in subst (Reached nodes) (sym z) at_start;
      start_marked = set_here marks 0 true (omega (arith, long, some));
      stacked = λ n is. let z = in_one n is in subst (λ m. slice_get (slice_set marks 0 true) m ≡ Some true) z (set_here marks 0 true (omega (arith, long, some)));
      closed = λ n is. let z = first_set (length nodes) some marks e n is in inl (subst (λ m. is_in m (0 ∷ []) ≡ true) (sym z) refl);
    } in
    subst (λ m. Walking nodes m stack None) (sym e') (subst (λ s. Walking nodes (slice_set marks 0 true) s None) (sym e'') w)
  where
    in_one : (n : ℕ) → is_in n (0 ∷ []) ≡ true → 0 ≡ n
    in_one n is = elim (is_in_pushed n 0 [] is) [ inl p ↦ cc | inr p ↦ p ]
