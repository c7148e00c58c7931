-- The rule for expressions that divide, step by step: a node must come to an expression where it uses it, or does not
-- hinder, has a successor, and each of its successors must come to it. So the rule keeps the laws of a down rule. Cited
-- by the rule.
use Rattle.std.proofs.Common.{◌≡◌, ◌⊎◌, ℕ, zero, suc, ◌<◌, ◌≤◌, ◌&&◌, ◌||◌, not, true, false, List, [], ◌∷◌, length, slice_get, Option, Some, None, inl, inr, refl, sym, ap, ◌∙◌, subst, arith, true≢false}
use Rattle.std.proofs.lemmas.Bool.{cases_Bool, or_parts}
use Rattle.mir_base.specs.ItemLaws.{one_item}
use Rattle.mir_base.specs.declared.instructions.Expr.{Expr}
use Rattle.flow_graph.specs.declared.nodes.Node.{Node}
use Rattle.flow_graph.specs.declared.nodes.Node.TheVariants.{Start, Skip, Assign, Print, Guard, Call, Test, Return}
use Rattle.flow_graph.specs.BoundLaws.{edge_within}
use Rattle.flow_graph.specs.Graphs.{AllWithin, GraphShape, IsGraph, succs_at, succs_of}
use Rattle.flow_graph.specs.Paths.{Begins, HasEdge, IsPath, IsReturnAt}
use Rattle.motion_rewrite.specs.Expressions.{kills, node_kills, node_uses, uses}
use Rattle.motion_rewrite.specs.ExpressionLaws.{skip_keeps}
use Rattle.motion_rewrite.specs.Placements.{DownLaws}
use Rattle.div_move.specs.MustCome.{ComesTo, GoesAsFar, MustComeTo, hinders, is_division, is_observable, node_hinders}

-- node n comes to e within so many nodes, step by step
pub data MustBy (graph : GraphShape) (e : Expr) : ℕ → ℕ → Type 0 where
  at_use : (k n : ℕ) → uses graph e n ≡ true → MustBy graph e (suc k) n
  by_all : (k n : ℕ) → hinders graph e n ≡ false → (s : ℕ) × HasEdge graph.nodes n s
      → ((s : ℕ) → HasEdge graph.nodes n s → MustBy graph e k s) → MustBy graph e (suc k) n

-- ---- nodes and paths

-- a node is a Return, or has a successor
pub return_or_edge : (nodes : List Node) (n : ℕ) → n < length nodes → IsReturnAt nodes n ⊎ ((s : ℕ) × HasEdge nodes n s)
return_or_edge [] n lt = absurd (omega (arith, lt))
return_or_edge (Start next ∷ nodes) zero lt = inr (next, (0, refl))
return_or_edge (Skip next ∷ nodes) zero lt = inr (next, (0, refl))
return_or_edge (Assign x rhs next ∷ nodes) zero lt = inr (next, (0, refl))
return_or_edge (Print a next ∷ nodes) zero lt = inr (next, (0, refl))
return_or_edge (Guard test number next ∷ nodes) zero lt = inr (next, (0, refl))
return_or_edge (Call into unit operands next ∷ nodes) zero lt = inr (next, (0, refl))
return_or_edge (Test test taken other ∷ nodes) zero lt = inr (taken, (0, refl))
return_or_edge (Return a ∷ nodes) zero lt = inl refl
return_or_edge (node ∷ nodes) (suc n) lt = return_or_edge nodes n (omega (arith, lt))

-- a Return has no successor
return_ends : (nodes : List Node) (n s : ℕ) → IsReturnAt nodes n → HasEdge nodes n s → ⊥
return_ends [] n s returns edge = cc
return_ends (Start next ∷ nodes) zero s returns edge = cc
return_ends (Skip next ∷ nodes) zero s returns edge = cc
return_ends (Assign x rhs next ∷ nodes) zero s returns edge = cc
return_ends (Print a next ∷ nodes) zero s returns edge = cc
return_ends (Guard test number next ∷ nodes) zero s returns edge = cc
return_ends (Call into unit operands next ∷ nodes) zero s returns edge = cc
return_ends (Test test taken other ∷ nodes) zero s returns edge = cc
return_ends (Return a ∷ nodes) zero s returns edge = let none = edge.1 in cc
return_ends (node ∷ nodes) (suc n) s returns edge = return_ends nodes n s returns edge

-- a path that begins at a successor, with the node before it
longer : (nodes : List Node) (n s : ℕ) (path : List ℕ) → HasEdge nodes n s → IsPath nodes path → Begins s path → IsPath nodes (n ∷ path)
longer nodes n s [] edge is begins = absurd is
longer nodes n s (p ∷ path) edge is begins = (subst (HasEdge nodes n) (sym begins) edge, is)

-- a path that goes as far as k nodes goes as far as one more with a node before it
further : (nodes : List Node) (k n s : ℕ) (path : List ℕ) → Begins s path → GoesAsFar nodes k path → GoesAsFar nodes (suc k) (n ∷ path)
further nodes k n s [] begins far = absurd begins
further nodes k n s (p ∷ path) begins (inl long) = inl (omega (arith, long))
further nodes k n s (p ∷ path) begins (inr less) = inr (omega (arith, less.0), less.1)

-- and a path that goes as far as k + 1 nodes goes as far as k without its first
nearer : (nodes : List Node) (k n p : ℕ) (path : List ℕ) → GoesAsFar nodes (suc k) (n ∷ p ∷ path) → GoesAsFar nodes k (p ∷ path)
nearer nodes k n p path (inl long) = inl (omega (arith, long))
nearer nodes k n p path (inr less) = inr (omega (arith, less.0), less.1)

module _ (graph : GraphShape) (e : Expr) where
  -- each path that goes so far from node n comes to e
  abbrev Comes : ℕ → ℕ → Type 0
  Comes k n = (path : List ℕ) → IsPath graph.nodes path → Begins n path → GoesAsFar graph.nodes k path → ComesTo graph e path

  -- ---- from steps to paths

  -- nothing is reached within no node
  never_none : (k n : ℕ) → k ≡ 0 → MustBy graph e k n → ⊥
  never_none k n none (at_use j m used) = omega (arith, none)
  never_none k n none (by_all j m free some all) = omega (arith, none)

  -- each path comes to e
  pub steps_come : (k n : ℕ) → MustBy graph e k n → Comes k n
  steps_come k n (at_use j m used) [] is begins far = absurd is
  steps_come k n (at_use j m used) (p ∷ path) is begins far = inl (ap (uses graph e) begins ∙ used)
  steps_come k n (by_all j m free some all) [] is begins far = absurd is
  steps_come k n (by_all j m free some all) (p ∷ []) is begins (inl long) = absurd (never_none j some.0 (omega (arith, long)) (all some.0 some.1))
  steps_come k n (by_all j m free some all) (p ∷ []) is begins (inr less) =
      let last : IsReturnAt graph.nodes n = subst (IsReturnAt graph.nodes) (sym less.1.1 ∙ begins) less.1.2 in
      absurd (return_ends graph.nodes n some.0 last some.1)
  steps_come k n (by_all j m free some all) (p ∷ q ∷ path) is begins far =
      let edge : HasEdge graph.nodes n q = subst (λ x. HasEdge graph.nodes x q) begins is.0 in
      inr (ap (hinders graph e) begins ∙ free, steps_come j q (all q edge) (q ∷ path) is.1 refl (nearer graph.nodes j p q path far))

  -- within at least one node
  steps_positive : (k n : ℕ) → MustBy graph e k n → 1 ≤ k
  steps_positive k n (at_use j m used) = omega arith
  steps_positive k n (by_all j m free some all) = omega arith

  pub steps_must : (k n : ℕ) → MustBy graph e k n → MustComeTo graph e n
  steps_must k n steps = record { within = k; positive = steps_positive k n steps; comes = steps_come k n steps }

  -- ---- from paths to steps

  module _ (within : AllWithin graph.nodes) where
    -- some path goes as far
    far_path : (k n : ℕ) → n < length graph.nodes → (path : List ℕ) × IsPath graph.nodes path × Begins n path × GoesAsFar graph.nodes (suc k) path
    far_path zero n lt = (n ∷ [], lt, refl, inl refl)
    far_path (suc k) n lt = elim (return_or_edge graph.nodes n lt) [
      | inl returns ↦ (n ∷ [], lt, refl, inr (omega arith, (n, refl, returns)))
      | inr more ↦
          let rest = far_path k more.0 (within n more.1.0 more.0 more.1.1) in
          (n ∷ rest.0, longer graph.nodes n more.0 rest.0 more.1 rest.1 rest.2, refl, further graph.nodes (suc k) n more.0 rest.0 rest.2 rest.3)
    ]

    -- what does not use e, and all of whose paths come to it, has a successor, does not hinder, and the paths of its
    -- successors come to it
    by_one : (k n : ℕ) → n < length graph.nodes → uses graph e n ≡ false → Comes (suc (suc k)) n
        → (hinders graph e n ≡ false) × ((s : ℕ) × HasEdge graph.nodes n s) × ((s : ℕ) → HasEdge graph.nodes n s → Comes (suc k) s)
    by_one k n lt unused comes =
        let past : (path : List ℕ) → ComesTo graph e (n ∷ path) → (hinders graph e n ≡ false) × ComesTo graph e path = λ path c. elim c [ inl used ↦ absurd (true≢false (sym used ∙ unused)) | inr later ↦ later ] in
        let some : (s : ℕ) × HasEdge graph.nodes n s = elim (return_or_edge graph.nodes n lt) [
          | inl returns ↦ absurd (past [] (comes (n ∷ []) lt refl (inr (omega arith, (n, refl, returns))))).1
          | inr more ↦ more
        ] in
        let rest = far_path k some.0 (within n some.1.0 some.0 some.1.1) in (
          (past rest.0 (comes (n ∷ rest.0) (longer graph.nodes n some.0 rest.0 some.1 rest.1 rest.2) refl (further graph.nodes (suc k) n some.0 rest.0 rest.2 rest.3))).0,
          some,
          λ s edge path is begins far. (past path (comes (n ∷ path) (longer graph.nodes n s path edge is begins) refl (further graph.nodes (suc k) n s path begins far))).1,
        )

    pub comes_steps : (k n : ℕ) → n < length graph.nodes → Comes (suc k) n → MustBy graph e (suc k) n
    comes_steps zero n lt comes = elim (comes (n ∷ []) lt refl (inl refl)) [ inl used ↦ at_use zero n used | inr later ↦ absurd later.1 ]
    comes_steps (suc k) n lt comes = elim (cases_Bool (uses graph e n)) [
      | inl used ↦ at_use (suc k) n used
      | inr unused ↦
          let one = by_one k n lt unused comes in
          by_all (suc k) n one.0 one.1 (λ s edge. comes_steps k s (within n edge.0 s edge.1) (one.2 s edge))
    ]

    pub must_steps : (n : ℕ) → n < length graph.nodes → MustComeTo graph e n → (k : ℕ) × MustBy graph e k n
    must_steps n lt must = from must.within must.positive must.comes
      where
        from : (k : ℕ) → 1 ≤ k → Comes k n → (j : ℕ) × MustBy graph e j n
        from zero positive comes = absurd (omega (arith, positive))
        from (suc k) positive comes = (suc k, comes_steps k n lt comes)

    -- ---- the laws

    -- a node that does not use e but must come to it does so step by step
    onward : (k n : ℕ) → uses graph e n ≡ false → MustBy graph e k n
        → (hinders graph e n ≡ false) × ((s : ℕ) × HasEdge graph.nodes n s) × ((j : ℕ) × ((s : ℕ) → HasEdge graph.nodes n s → MustBy graph e j s))
    onward k n unused (at_use j m used) = absurd (true≢false (sym used ∙ unused))
    onward k n unused (by_all j m free some all) = (free, some, (j, all))

    -- what does not hinder does not kill
    free_keeps : (n : ℕ) → hinders graph e n ≡ false → kills graph e n ≡ false
    free_keeps n free = by (slice_get graph.nodes n) refl free
      where
        by : (o : Option Node) → slice_get graph.nodes n ≡ o → node_hinders graph e o ≡ false → node_kills graph e o ≡ false
        by None is free' = refl
        by (Some node) is free' = (or_parts (node_kills graph e (Some node)) (is_observable node || (is_division node && not (node_uses e (Some node)))) free').0

    -- a Skip does not hinder
    skip_free : (n s : ℕ) → slice_get graph.nodes n ≡ Some (Skip s) → hinders graph e n ≡ false
    skip_free n s is = ap (node_hinders graph e) is ∙ ap (λ b. b || (false || (false && not (node_uses e (Some (Skip s)))))) (sym (ap (node_kills graph e) is) ∙ skip_keeps graph e n s is)

  -- so the rule keeps the laws of a down rule
  pub must_come_laws : IsGraph graph.vars graph.received graph.nodes → DownLaws graph e (MustComeTo graph e)
  must_come_laws is_graph =
      let within : AllWithin graph.nodes = λ m slot s edge. (is_graph.can.succs m slot s edge).1 in
      let steps : (n : ℕ) → n < length graph.nodes → MustComeTo graph e n → (k : ℕ) × MustBy graph e k n = must_steps within in
      record {
        used = λ n lt used. steps_must 1 n (at_use 0 n used);
        keeps = λ n lt down unused. let by = steps n lt down in free_keeps within n (onward within by.0 n unused by.1).0;
        continues = λ n lt down unused none. let by = steps n lt down in let more = (onward within by.0 n unused by.1).1 in slot_of_none n more.0 more.1 none;
        onward = λ n s down unused edge. let by = steps n (edge_within graph.nodes n s edge) down in let all = (onward within by.0 n unused by.1).2 in steps_must all.0 s (all.1 s edge);
        skips = λ n s is down. skip_must n s is (must_steps within s (within n 0 s (ap (λ o. slice_get (succs_of o) 0) is)) down);
      }
    where
      slot_of_none : (n s : ℕ) → HasEdge graph.nodes n s → succs_at graph.nodes n ≡ [] → ⊥
      slot_of_none n s edge none = let never = sym (ap (λ l. slice_get l edge.0) none) ∙ edge.1 in cc

      skip_must : (n s : ℕ) → slice_get graph.nodes n ≡ Some (Skip s) → (k : ℕ) × MustBy graph e k s → MustComeTo graph e n
      skip_must n s is by =
          let within : AllWithin graph.nodes = λ m slot t edge. (is_graph.can.succs m slot t edge).1 in
          steps_must (suc by.0) n (by_all by.0 n (skip_free within n s is) (s, (0, ap (λ o. slice_get (succs_of o) 0) is)) (λ t edge. subst (MustBy graph e by.0) (one_item s t edge.0 (sym (ap (λ o. slice_get (succs_of o) edge.0) is) ∙ edge.1)) by.1))
