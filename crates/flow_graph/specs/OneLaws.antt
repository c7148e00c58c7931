-- Laws: a list of nodes has one graph that is made of it, a unit one graph, and a graph one layout. For proofs only,
-- of jump_clean, motion_rewrite and mir_opt.
use Rattle.std.proofs.Common.{◌≡◌, ℕ, zero, suc, ◌+◌, ◌-◌, ◌<◌, Bool, true, false, List, [], ◌∷◌, length, map, slice_get, slice_index_or, Some, None, inl, inr, refl, sym, ap, ◌∙◌, arith}
use Rattle.std.proofs.lemmas.Bool.{cases_lt}
use Rattle.std.proofs.lemmas.Option.{slice_get_past, same_Some}
use Rattle.mir_base.specs.Shapes.{UnitShape}
use Rattle.flow_graph.specs.declared.nodes.Node.{Node}
use Rattle.flow_graph.specs.declared.plan.Item.{Item}
use Rattle.flow_graph.specs.Graphs.{GraphShape}
use Rattle.flow_graph.specs.Retained.{redirected, marked_below, marked, MarkReached, AreRetained, IsMade}
use Rattle.flow_graph.specs.ListLaws.{cons_same, some_at}
use Rattle.flow_graph.specs.Layouts.{IsLayout, plain_body}
use Rattle.flow_graph.specs.Lowered.{IsLowered}
use Rattle.flow_graph.specs.Numbering.{renumbered, seen_in}
use Rattle.flow_graph.specs.Plans.{IsPlan, IsWholePlan, next_item, start_succ}

-- ---- the graph that is made of nodes

-- lists that are equal place by place
pub same_places : {A : Type 0} (xs ys : List A) → ((n : ℕ) → slice_get xs n ≡ slice_get ys n) → xs ≡ ys
same_places [] [] same = refl
same_places [] (y ∷ ys) same = let e : None ≡ Some y = same 0 in cc
same_places (x ∷ xs) [] same = let e : Some x ≡ None = same 0 in cc
same_places (x ∷ xs) (y ∷ ys) same = cons_same (same_Some _ _ (same 0)) (same_places xs ys (λ n. same (suc n)))

-- the marks of the reached nodes are determined
pub marks_are_one : (raw : List Node) (a b : List Bool) → MarkReached raw a → MarkReached raw b → a ≡ b
marks_are_one raw a b p q = same_places a b by_place
  where
    differ : Some true ≡ Some false → {A : Type 0} → A
    differ e = cc

    alike : (n : ℕ) → n < length raw → (v w : Bool) → slice_get a n ≡ Some v → slice_get b n ≡ Some w → slice_get a n ≡ slice_get b n
    alike n lt true true e e' = e ∙ sym e'
    alike n lt false false e e' = e ∙ sym e'
    alike n lt true false e e' = differ (sym ((q.exact n lt).1 ((p.exact n lt).0 e)) ∙ e')
    alike n lt false true e e' = differ (sym ((p.exact n lt).1 ((q.exact n lt).0 e')) ∙ e)

    by_place : (n : ℕ) → slice_get a n ≡ slice_get b n
    by_place n = elim (cases_lt n (length raw)) [
      | inl lt ↦
          let v = some_at a n (omega (arith, lt, p.long)) in
          let w = some_at b n (omega (arith, lt, q.long)) in
          alike n lt v.0 w.0 v.1 w.1
      | inr ge ↦ slice_get_past a n (omega (arith, ge, p.long)) ∙ sym (slice_get_past b n (omega (arith, ge, q.long)))
    ]

-- so are the nodes that are retained
pub retained_are_one : (raw a b : List Node) → AreRetained raw a → AreRetained raw b → a ≡ b
retained_are_one raw a b p q =
    let marks : p.marks ≡ q.marks = marks_are_one raw p.marks q.marks p.are_marks q.are_marks in
    p.are ∙ ap (λ m. map (redirected (marked_below m)) (marked m raw)) marks ∙ sym q.are

-- graphs with equal parts are equal
pub same_graphs : (a b : GraphShape) → a.name ≡ b.name → a.shared ≡ b.shared → a.vars ≡ b.vars → a.received ≡ b.received → a.nodes ≡ b.nodes → a ≡ b
same_graphs a b name shared vars received nodes =
    ap (λ x. record a { name = x }) name ∙ ap (λ x. record { name = b.name; shared = x; vars = a.vars; received = a.received; nodes = a.nodes }) shared
    ∙ ap (λ x. record { name = b.name; shared = b.shared; vars = x; received = a.received; nodes = a.nodes }) vars
    ∙ ap (λ x. record { name = b.name; shared = b.shared; vars = b.vars; received = x; nodes = a.nodes }) received ∙ ap (λ x. record b { nodes = x }) nodes

-- and the graph that is made
pub made_is_one : (name : List ℕ) (shared : ℕ) (vars : List (List ℕ)) (received : List ℕ) (raw : List Node) (a b : GraphShape)
    → IsMade name shared vars received raw a → IsMade name shared vars received raw b → a ≡ b
made_is_one name shared vars received raw a b p q =
    same_graphs a b (p.name_is ∙ sym q.name_is) (p.shared_is ∙ sym q.shared_is) (p.vars_are ∙ sym q.vars_are) (p.received_are ∙ sym q.received_are) (retained_are_one raw a.nodes b.nodes p.nodes_are q.nodes_are)

-- and the graph of a unit
pub lowered_is_one : (unit : UnitShape) (a b : GraphShape) → IsLowered unit a → IsLowered unit b → a ≡ b
lowered_is_one unit a b p q = made_is_one _ _ _ _ _ a b p.made q.made

-- ---- the layout

module _ (nodes : List Node) (first : ℕ) where
  plans_alike : (p q : List Item) → length p ≡ length q → IsPlan nodes first p → IsPlan nodes first q → p ≡ q
  plans_alike [] [] long is is' = refl
  plans_alike [] (item ∷ q) long is is' = absurd (omega (arith, long))
  plans_alike (item ∷ p) [] long is is' = absurd (omega (arith, long))
  plans_alike (item ∷ p) (item' ∷ q) long is is' =
      let older : p ≡ q = plans_alike p q (omega (arith, long)) is.1 is'.1 in
      cons_same (same_Some _ _ (sym is.0 ∙ ap (next_item nodes first) older ∙ is'.0)) older

  -- nothing comes after a plan that is complete
  none_longer : (p : List Item) → IsPlan nodes first p → next_item nodes first p ≡ None → (k : ℕ) (q : List Item)
      → length q ≡ suc k + length p → IsPlan nodes first q → ⊥
  none_longer p is complete k [] long is' = absurd (omega (arith, long))
  none_longer p is complete zero (item ∷ q) long is' =
      let older : p ≡ q = plans_alike p q (omega (arith, long)) is is'.1 in
      let both : None ≡ Some item = sym complete ∙ ap (next_item nodes first) older ∙ is'.0 in
      cc
  none_longer p is complete (suc k) (item ∷ q) long is' = none_longer p is complete k q (omega (arith, long)) is'.1

-- the whole plan of a graph is determined
pub plan_is_one : (nodes : List Node) (p q : List Item) → IsWholePlan nodes p → IsWholePlan nodes q → p ≡ q
plan_is_one nodes p q is is' = elim (cases_lt (length p) (length q)) [
  | inl lt ↦ absurd (none_longer nodes first p is.is_plan is.complete (length q - length p - 1) q (omega (arith, lt)) is'.is_plan)
  | inr ge ↦ elim (cases_lt (length q) (length p)) [
    | inl lt ↦ absurd (none_longer nodes first q is'.is_plan is'.complete (length p - length q - 1) p (omega (arith, lt)) is.is_plan)
    | inr ge' ↦ plans_alike nodes first p q (omega (arith, ge, ge')) is.is_plan is'.is_plan
  ]
]
  where
    first : ℕ
    first = start_succ (slice_get nodes 0)

-- units with equal parts are equal
pub same_units : (a b : UnitShape) → a.name ≡ b.name → a.shared ≡ b.shared → a.vars ≡ b.vars → a.body ≡ b.body → a ≡ b
same_units a b name shared vars body =
    ap (λ x. record a { name = x }) name ∙ ap (λ x. record { name = b.name; shared = x; vars = a.vars; body = a.body }) shared
    ∙ ap (λ x. record { name = b.name; shared = b.shared; vars = x; body = a.body }) vars ∙ ap (λ x. record b { body = x }) body

-- and the unit of a graph
pub layout_is_one : (graph : GraphShape) (a b : UnitShape) → IsLayout graph a → IsLayout graph b → a ≡ b
layout_is_one graph a b p q =
    let plan : p.laid.plan ≡ q.laid.plan = plan_is_one graph.nodes p.laid.plan q.laid.plan p.laid.is_plan q.laid.is_plan in
    same_units a b (p.name ∙ sym q.name) (p.shared ∙ sym q.shared)
    (p.laid.names_are ∙ ap (λ l. map (λ x. slice_index_or graph.vars x []) (seen_in graph.shared (plain_body graph.received graph.nodes l))) plan ∙ sym q.laid.names_are)
    (p.laid.body_is ∙ ap (λ l. renumbered graph.shared (plain_body graph.received graph.nodes l)) plan ∙ sym q.laid.body_is)
