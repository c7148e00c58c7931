-- The patterns of the nodes as far as a loop has come.
use Rattle.std.proofs.Common.{◌≡◌, ◌⊎◌, inl, inr, ℕ, zero, suc, ◌+◌, ◌<◌, ◌≤◌, Bool, true, false, cond, if◌then◌else◌, List, [], ◌∷◌, ◌++◌, length, length-append, slice_get, Contains, Option, None, Some, refl, sym, ap, ◌∙◌, subst, true≢false, arith}
use Rattle.std.specs.List.{AllByRecursion, IsDistinct}
use Rattle.std.specs.List.Sorted.{IsPermutation}
use Rattle.std.proofs.lemmas.Map.Keys.{IsDistinct-IsPermutation}
use Rattle.std.proofs.lemmas.Bool.{cases_eq, cases_lt}
use Rattle.std.proofs.lemmas.Option.{same_Some, slice_get_within}
use Rattle.key_table.specs.Keys.{IsWithSome}
use Rattle.key_table.specs.KeyLaws.{put_keeps, put_only, put_there}
use Rattle.path_laws.specs.Says.{same_says}
use Rattle.mir_base.specs.Expressions.{divides}
use Rattle.mir_base.specs.ItemLaws.{get_left}
use Rattle.mir_base.specs.Shapes.{AllBelow, AllDiffer, rhs_vars}
use Rattle.flow_graph.specs.declared.nodes.Node.{Node}
use Rattle.flow_graph.specs.declared.nodes.Node.TheVariants.{Start, Skip, Assign, Print, Guard, Call, Test, Return}
use Rattle.flow_graph.specs.Graphs.{node_vars, GraphShape}
use Rattle.sink_code.specs.declared.patterns.Pattern.{Pattern}
use Rattle.sink_code.specs.Moving.{IsHeldUp, MovesFrom}
use Rattle.sink_code.specs.PatternTables.{AreSinkableBelow, pattern_of}
use Rattle.sink_code.specs.contracts.patterns.PatternPartialEq.TheImpl.{ghosts}
use Rattle.sink_code.specs.SamePatterns.{pattern_self, same_patterns}

-- ---- in another order

-- a pattern that is not in a list compares as equal to none of the list
apart : (p : Pattern) (ps : List Pattern) → ((i : ℕ) → slice_get ps i ≡ Some p → ⊥) → AllByRecursion (λ q. ghosts.eq p q ≡ false) ps
apart p [] none = tt
apart p (q ∷ ps) none = (by (ghosts.eq p q) refl, apart p ps (λ i at. none (suc i) at))
  where
    by : (b : Bool) → ghosts.eq p q ≡ b → ghosts.eq p q ≡ false
    by true is = absurd (none 0 (ap Some (sym (same_patterns p q is))))
    by false is = is

-- and back
clash : (p : Pattern) (ps : List Pattern) → AllByRecursion (λ q. ghosts.eq p q ≡ false) ps → (i : ℕ) → slice_get ps i ≡ Some p → ⊥
clash p [] all i at = cc
clash p (q ∷ ps) all zero at = true≢false (sym (pattern_self p) ∙ ap (ghosts.eq p) (sym (same_Some q p at)) ∙ all.0)
clash p (q ∷ ps) all (suc i) at = clash p ps all.1 i at

-- so distinct patterns are distinct for the derived equality
differ_distinct : (ps : List Pattern) → AllDiffer ps → IsDistinct ghosts.eq ps
unfolding IsDistinct
differ_distinct [] differ = tt
differ_distinct (p ∷ ps) differ = (
  apart p ps (λ i at. let one = differ 0 (suc i) (omega arith) (omega (arith, slice_get_within ps i p at)) (sym at) in omega (arith, one)),
  differ_distinct ps (λ i j i_in j_in e. let one = differ (suc i) (suc j) (omega (arith, i_in)) (omega (arith, j_in)) e in omega (arith, one)),
)

-- and back
distinct_differ : (ps : List Pattern) → IsDistinct ghosts.eq ps → AllDiffer ps
unfolding IsDistinct
distinct_differ [] d i j i_in j_in e = absurd (omega (arith, i_in))
distinct_differ (p ∷ ps) d zero zero i_in j_in e = refl
distinct_differ (p ∷ ps) d zero (suc j) i_in j_in e = absurd (clash p ps d.0 j (sym e))
distinct_differ (p ∷ ps) d (suc i) zero i_in j_in e = absurd (clash p ps d.0 i e)
distinct_differ (p ∷ ps) d (suc i) (suc j) i_in j_in e = ap suc (distinct_differ ps d.1 i j (omega (arith, i_in)) (omega (arith, j_in)) e)

-- in another order they stay distinct
pub moved_differ : (old new : List Pattern) → IsPermutation old new → AllDiffer old → AllDiffer new
moved_differ old new same differ = distinct_differ new (IsDistinct-IsPermutation ghosts.eq flips old new same (differ_distinct old differ))
  where
    same_again : (p q : Pattern) → ghosts.eq p q ≡ true → ghosts.eq q p ≡ true
    same_again p q is = let one = same_patterns p q is in ap (ghosts.eq q) one ∙ pattern_self q

    flips : (p q : Pattern) → ghosts.eq p q ≡ ghosts.eq q p
    flips p q = same_says (ghosts.eq p q) (ghosts.eq q p) (same_again p q, same_again q p)

-- ---- put in

-- the pattern occurs at this one of the nodes, and is not held up after it
abbrev pub MovesAt : GraphShape → List Node → Pattern → ℕ → Type 0
MovesAt graph nodes p n = (next : ℕ) × (slice_get nodes n ≡ Some (Assign p.var p.rhs next)) × (IsHeldUp graph p next → ⊥)

-- so it does below this number
abbrev pub MovesBelow : GraphShape → List Node → Pattern → ℕ → Type 0
MovesBelow graph nodes p m = (n : ℕ) × (n < m) × MovesAt graph nodes p n

-- each pattern of these nodes, up to a number, that is not held up after its node is among the keys, and each of the
-- keys is such, in order of their first nodes. They do not divide and are over the variables
pub record AreMovingUpTo (graph : GraphShape) (vars : ℕ) (nodes : List Node) (i : ℕ) (keys : List Pattern) : Type 0 where
  pub all : (n next : ℕ) (p : Pattern) → n < i → slice_get nodes n ≡ Some (Assign p.var p.rhs next) → pattern_of (Assign p.var p.rhs next) ≡ Some p → Contains keys p ⊎ IsHeldUp graph p next
  pub moves : (k : ℕ) (p : Pattern) → slice_get keys k ≡ Some p → MovesBelow graph nodes p i
  pub in_turn : (k l : ℕ) (p q : Pattern) → k < l → slice_get keys k ≡ Some p → slice_get keys l ≡ Some q → (m : ℕ) → MovesAt graph nodes q m → MovesBelow graph nodes p m
  pub each : AreSinkableBelow vars keys

-- of no nodes
pub found_none : (graph : GraphShape) (vars : ℕ) (nodes : List Node) (keys : List Pattern) → keys ≡ [] → AreMovingUpTo graph vars nodes 0 keys
found_none graph vars nodes keys is = record {
  all = λ n next p lt. absurd (omega (arith, lt));
  moves = λ k p at. (let none : slice_get [] k ≡ Some p = sym (ap (λ l. slice_get l k) is) ∙ at in cc);
  in_turn = λ k l p q less at_k at_l m w. (let none : slice_get [] k ≡ Some p = sym (ap (λ xs. slice_get xs k) is) ∙ at_k in cc);
  each = λ k p at. (let none : slice_get [] k ≡ Some p = sym (ap (λ l. slice_get l k) is) ∙ at in cc);
}

-- a pattern that occurs at a node does not divide, and its variables are those of the node
pub node_sinkable : (vars : ℕ) (node : Node) (p : Pattern) → AllBelow vars (node_vars node) → pattern_of node ≡ Some p → (divides p.rhs ≡ false) × ((p.var < vars) × AllBelow vars (rhs_vars p.rhs))
node_sinkable vars (Start next) p below h = cc
node_sinkable vars (Skip next) p below h = cc
node_sinkable vars (Assign x rhs next) p below h = by (divides rhs) refl h
  where
    by : (b : Bool) → divides rhs ≡ b → (cond b None (Some (record { var = x; rhs = rhs }))) ≡ Some p → (divides p.rhs ≡ false) × ((p.var < vars) × AllBelow vars (rhs_vars p.rhs))
    by true e h' = cc
    by false e h' =
        let same : record { var = x; rhs = rhs } ≡ p = same_Some (record { var = x; rhs = rhs }) p h' in
        subst (λ (q : Pattern). (divides q.rhs ≡ false) × ((q.var < vars) × AllBelow vars (rhs_vars q.rhs))) same (e, below)
node_sinkable vars (Print a next) p below h = cc
node_sinkable vars (Guard test number next) p below h = cc
node_sinkable vars (Call into unit operands next) p below h = cc
node_sinkable vars (Test test taken other) p below h = cc
node_sinkable vars (Return a) p below h = cc

-- of one node more
pub found_more : (graph : GraphShape) (vars : ℕ) (nodes : List Node) (i : ℕ) (node : Node) (found : Option Pattern) (keys new : List Pattern)
    → slice_get nodes i ≡ Some node → AllBelow vars (node_vars node) → MovesFrom graph node found → IsWithSome keys found new
    → AreMovingUpTo graph vars nodes i keys → AreMovingUpTo graph vars nodes (i + 1) new
found_more graph vars nodes i node found keys new at below moves put before = record {
  all = λ n next p lt there is. elim (cases_eq n i) [
    | inl same ↦
        let one : node ≡ Assign p.var p.rhs next = same_Some node (Assign p.var p.rhs next) (sym at ∙ ap (slice_get nodes) (sym same) ∙ there) in
        here found p next one (ap pattern_of one ∙ is) moves put
    | inr differ ↦ elim (before.all n next p (omega (arith, lt, differ)) there is) [
      | inl held ↦ inl (stays found p put held)
      | inr held_up ↦ inr held_up
    ]
  ];
  moves = moving found moves put;
  in_turn = turns found moves put;
  each = sinkable found moves put;
}
  where
    here : (o : Option Pattern) (p : Pattern) (next : ℕ) → node ≡ Assign p.var p.rhs next → pattern_of node ≡ Some p → MovesFrom graph node o → IsWithSome keys o new → Contains new p ⊎ IsHeldUp graph p next
    here None p next one is holds_up with_one = inr (holds_up p next one is)
    here (Some q) p next one is moves' with_one = inl (subst (Contains new) (same_Some q p (sym moves'.0 ∙ is)) (put_there keys q new with_one))

    stays : (o : Option Pattern) (p : Pattern) → IsWithSome keys o new → Contains keys p → Contains new p
    stays None p same there = subst (λ l. Contains l p) (sym same) there
    stays (Some q) p with_one there = put_keeps keys q new with_one p there

    sinkable : (o : Option Pattern) → MovesFrom graph node o → IsWithSome keys o new → AreSinkableBelow vars new
    sinkable None e same = subst (AreSinkableBelow vars) (sym same) before.each
    sinkable (Some p) e with_one = λ k q there. elim (put_only keys p new with_one k q there) as (λ _. (divides q.rhs ≡ false) × ((q.var < vars) × AllBelow vars (rhs_vars q.rhs))) [
      | inl old ↦ before.each k q old
      | inr same ↦ subst (λ (r : Pattern). (divides r.rhs ≡ false) × ((r.var < vars) × AllBelow vars (rhs_vars r.rhs))) (sym same) (node_sinkable vars node p below e.0)
    ]

    later : (q : Pattern) → MovesBelow graph nodes q i → MovesBelow graph nodes q (i + 1)
    later q w = (w.0, omega (arith, w.1), w.2)

    moving : (o : Option Pattern) → MovesFrom graph node o → IsWithSome keys o new → (k : ℕ) (q : Pattern) → slice_get new k ≡ Some q → MovesBelow graph nodes q (i + 1)
    moving None e same k q there = later q (before.moves k q (sym (ap (λ l. slice_get l k) same) ∙ there))
    moving (Some p) e with_one k q there = elim (put_only keys p new with_one k q there) as (λ _. MovesBelow graph nodes q (i + 1)) [
      | inl old ↦ later q (before.moves k q old)
      | inr same ↦ subst (λ r. MovesBelow graph nodes r (i + 1)) (sym same) (i, omega arith, (e.1.0, at ∙ ap Some e.1.1, e.1.2))
    ]

    -- a pattern that is new does not move from a node before this one
    not_before : (r : Pattern) → (Contains keys r → ⊥) → divides r.rhs ≡ false → (m : ℕ) → MovesAt graph nodes r m → i ≤ m
    not_before r new_one whole m w = elim (cases_lt m i) [
      | inl low ↦ absurd (elim (before.all m w.0 r low w.1 (ap (λ b. if b then None else Some r) whole)) [
        | inl there ↦ new_one there
        | inr held_up ↦ w.2 held_up
      ])
      | inr le ↦ le
    ]

    turns : (o : Option Pattern) → MovesFrom graph node o → IsWithSome keys o new → (k l : ℕ) (p q : Pattern) → k < l → slice_get new k ≡ Some p → slice_get new l ≡ Some q → (m : ℕ) → MovesAt graph nodes q m → MovesBelow graph nodes p m
    turns None e same k l p q less at_k at_l m w = before.in_turn k l p q less (sym (ap (λ xs. slice_get xs k) same) ∙ at_k) (sym (ap (λ xs. slice_get xs l) same) ∙ at_l) m w
    turns (Some r) e (inl there) k l p q less at_k at_l m w = before.in_turn k l p q less (sym (ap (λ xs. slice_get xs k) there.1) ∙ at_k) (sym (ap (λ xs. slice_get xs l) there.1) ∙ at_l) m w
    turns (Some r) e (inr fresh) k l p q less at_k at_l m w =
        let within = slice_get_within (keys ++ r ∷ []) l q (sym (ap (λ xs. slice_get xs l) fresh.1) ∙ at_l) in
        let low : k < length keys = omega (arith, less, within, length-append keys (r ∷ [])) in
        let old : slice_get keys k ≡ Some p = sym (get_left keys (r ∷ []) k low) ∙ sym (ap (λ xs. slice_get xs k) fresh.1) ∙ at_k in
        elim (put_only keys r new (inr fresh) l q at_l) as (λ _. MovesBelow graph nodes p m) [
          | inl still ↦ before.in_turn k l p q less old still m w
          | inr same ↦
              let first = before.moves k p old in
              let late = not_before r fresh.0 (node_sinkable vars node r below e.0).0 m (subst (λ s. MovesAt graph nodes s m) same w) in
              (first.0, omega (arith, first.1, late), first.2)
        ]
