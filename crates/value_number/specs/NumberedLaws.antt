-- Laws of the numbered graph: a graph has one, each node keeps its successors, and dividing assignments stay. For
-- proofs only; mir_opt cites the first.
use Rattle.std.proofs.Common.{◌≡◌, ℕ, ◌<◌, true, not, if◌then◌else◌, List, length, slice_get, Option, Some, None, inl, inr, refl, sym, ap, ◌∙◌, subst, arith}
use Rattle.std.proofs.lemmas.Bool.{cases_lt}
use Rattle.std.proofs.lemmas.Option.{slice_get_cases, slice_get_past}
use Rattle.mir_base.specs.declared.instructions.Operand.{Operand}
use Rattle.mir_base.specs.declared.instructions.Operand.TheVariants.{Var}
use Rattle.mir_base.specs.declared.instructions.Rhs.{Rhs}
use Rattle.mir_base.specs.declared.instructions.Rhs.TheVariants.{Plain, Binary}
use Rattle.mir_base.specs.declared.operators.Op.{Op}
use Rattle.mir_base.specs.Expressions.{divides}
use Rattle.flow_graph.specs.declared.nodes.Node.{Node}
use Rattle.flow_graph.specs.declared.nodes.Node.TheVariants.{Start, Skip, Assign, Print, Guard, Call, Test, Return}
use Rattle.flow_graph.specs.Dividing.{DividesUnchanged}
use Rattle.flow_graph.specs.DividingLaws.{unchanged_in_place}
use Rattle.flow_graph.specs.Edges.{edges_from, preds_among, preds_of, IsSplit}
use Rattle.flow_graph.specs.EdgeLaws.{edges_alike}
use Rattle.flow_graph.specs.Graphs.{GraphShape, node_succs, succs_of, succs_at}
use Rattle.flow_graph.specs.ListLaws.{some_at}
use Rattle.flow_graph.specs.OneLaws.{same_graphs, same_places}
use Rattle.value_number.specs.Terms.{Term, Terms, movable_term, rhs_term}
use Rattle.value_number.specs.Roots.{terms_before}
use Rattle.value_number.specs.Numbered.{IsHolder, IsHolderAt, numbered_node, IsNumberedAt, AreNumbered, IsNumbered, KeepsEdges}
use Rattle.value_number.specs.RootLaws.{one_way}

-- ---- one graph

module _ (count : ℕ) (terms : Terms) where
  -- of two first variables none is before the other
  least_is_one : (t : Term) (v w : ℕ) → IsHolder count terms (Some t) (Some v) → IsHolder count terms (Some t) (Some w)
      → v ≡ w
  least_is_one t v w p q = elim (cases_lt v w) [
    | inl lt ↦ absurd (q.2 v lt p.1)
    | inr ge ↦ elim (cases_lt w v) [ inl lt ↦ absurd (p.2 w lt q.1) | inr ge' ↦ ap (λ k. k) (omega (arith, ge, ge')) ]
  ]

  -- there is one holder of a term
  holder_is_one : (o : Option Term) (holder holder' : Option ℕ) → IsHolder count terms o holder
      → IsHolder count terms o holder' → holder ≡ holder'
  holder_is_one None holder holder' p q = p ∙ sym q
  holder_is_one (Some t) None None p q = refl
  holder_is_one (Some t) None (Some w) p q = absurd (p w q.0 q.1)
  holder_is_one (Some t) (Some v) None p q = absurd (q v p.0 p.1)
  holder_is_one (Some t) (Some v) (Some w) p q = ap Some (least_is_one t v w p q)

module _ (shared : ℕ) (nodes : List Node) (count n : ℕ) (node : Node) where
  -- and so at a node, which has one way from a root
  pub holder_at_is_one : (holder holder' : Option ℕ) → IsHolderAt shared nodes count n node holder
      → IsHolderAt shared nodes count n node holder' → holder ≡ holder'
  holder_at_is_one holder holder' p q =
      let same = one_way nodes n q.root p.root q.before p.before q.path p.path in
      let terms : terms_before shared nodes q.root q.before ≡ terms_before shared nodes p.root p.before =
      ap (λ r. terms_before shared nodes r q.before) same.0 ∙ ap (terms_before shared nodes p.root) same.1 in
      holder_is_one count (terms_before shared nodes p.root p.before)
      (movable_term (terms_before shared nodes p.root p.before) node) holder holder' p.is
      (subst (λ (ts : Terms). IsHolder count ts (movable_term ts node) holder') terms q.is)

  -- so the node becomes one thing
  numbered_at_is_one : (a b : Option Node) → IsNumberedAt shared nodes count n node a
      → IsNumberedAt shared nodes count n node b → a ≡ b
  numbered_at_is_one a b p q =
      p.is ∙ ap (λ h. Some (numbered_node node h)) (holder_at_is_one p.holder q.holder p.holds q.holds) ∙ sym q.is

-- the numbered nodes are determined
pub numbered_nodes_are_one : (shared count : ℕ) (nodes a b : List Node) → AreNumbered shared count nodes a
    → AreNumbered shared count nodes b → a ≡ b
numbered_nodes_are_one shared count nodes a b p q = same_places a b by_place
  where
    by_place : (n : ℕ) → slice_get a n ≡ slice_get b n
    by_place n = elim (cases_lt n (length nodes)) [
      | inl lt ↦
          let here = some_at nodes n lt in
          numbered_at_is_one shared nodes count n here.0 (slice_get a n) (slice_get b n) (p.each n here.0 here.1)
          (q.each n here.0 here.1)
      | inr ge ↦ slice_get_past a n (omega (arith, ge, p.long)) ∙ sym (slice_get_past b n (omega (arith, ge, q.long)))
    ]

-- a graph has one numbered graph
pub numbered_is_one : (graph a b : GraphShape) → IsNumbered graph a → IsNumbered graph b → a ≡ b
numbered_is_one graph a b p q =
    same_graphs a b (p.name_is ∙ sym q.name_is) (p.shared_is ∙ sym q.shared_is) (p.vars_are ∙ sym q.vars_are)
    (p.received_are ∙ sym q.received_are)
    (numbered_nodes_are_one graph.shared (length graph.vars) graph.nodes a.nodes b.nodes p.nodes_are q.nodes_are)

-- ---- what a node becomes

-- whatever two assignments to one variable share, with one successor, it shares with the node
pub numbered_shares : {A : Type 0} (f : Node → A)
    → ((x : ℕ) (rhs other : Rhs) (next : ℕ) → f (Assign x rhs next) ≡ f (Assign x other next))
    → (node : Node) (holder : Option ℕ) → f (numbered_node node holder) ≡ f node
numbered_shares f same node None = refl
numbered_shares f same (Start next) (Some v) = refl
numbered_shares f same (Skip next) (Some v) = refl
numbered_shares f same (Assign x rhs next) (Some v) = same x (Plain (Var v)) rhs next
numbered_shares f same (Print a next) (Some v) = refl
numbered_shares f same (Guard test number next) (Some v) = refl
numbered_shares f same (Call into unit operands next) (Some v) = refl
numbered_shares f same (Test test taken other) (Some v) = refl
numbered_shares f same (Return a) (Some v) = refl

-- so its successors are those of the node
numbered_succs : (node : Node) (holder : Option ℕ) → node_succs (numbered_node node holder) ≡ node_succs node
numbered_succs = numbered_shares node_succs (λ x rhs other next. refl)

-- a Skip stays one
numbered_skip : (next : ℕ) (holder : Option ℕ) → numbered_node (Skip next) holder ≡ Skip next
numbered_skip next None = refl
numbered_skip next (Some v) = refl

-- a right side that divides has no movable term
dividing_term : (terms : Terms) (x : ℕ) (op : Op) (left right : Operand) (next : ℕ)
    → divides (Binary op left right) ≡ true → movable_term terms (Assign x (Binary op left right) next) ≡ None
dividing_term terms x op left right next e =
    ap (λ b. if not b then Some (rhs_term terms (Binary op left right)) else None) e

-- ---- all nodes

module _ (shared count : ℕ) (nodes result : List Node) (numbered : AreNumbered shared count nodes result) where
  -- where no node is, none is in the result
  pub none_too : (n : ℕ) → slice_get nodes n ≡ None → slice_get result n ≡ None
  none_too n none = elim (slice_get_cases nodes n).1 as (λ _. slice_get result n ≡ None) [
    | inl there ↦ (let bad : None ≡ Some there.0 = sym none ∙ there.2 in cc)
    | inr past ↦ slice_get_past result n (omega (arith, past.0, numbered.long))
  ]

  -- each node has the successors that it had
  pub same_succs : (n : ℕ) → succs_at result n ≡ succs_at nodes n
  same_succs n = by_node (slice_get nodes n) refl
    where
      by_node : (o : Option Node) → slice_get nodes n ≡ o → succs_of (slice_get result n) ≡ succs_of o
      by_node None here = ap succs_of (none_too n here)
      by_node (Some node) here = let to = numbered.each n node here in ap succs_of to.is ∙ numbered_succs node to.holder

  -- a Skip stays one
  skips_stay : (n next : ℕ) → slice_get nodes n ≡ Some (Skip next) → slice_get result n ≡ Some (Skip next)
  skips_stay n next here = let to = numbered.each n (Skip next) here in to.is ∙ ap Some (numbered_skip next to.holder)

  -- each dividing assignment stays in its place
  pub numbered_unchanged : DividesUnchanged nodes result
  numbered_unchanged = unchanged_in_place nodes result (λ n x op left right next may_trap is.
      let to = numbered.each n (Assign x (Binary op left right) next) is in
      let terms = terms_before shared nodes to.holds.root to.holds.before in
      let none : to.holder ≡ None =
      subst (λ o. IsHolder count terms o to.holder)
      (dividing_term terms x op left right next may_trap) to.holds.is in
      (next, to.is ∙ ap (λ h. Some (numbered_node (Assign x (Binary op left right) next) h)) none))

-- so the edges stay, and a split graph stays split
pub numbered_edges : (graph result : GraphShape) → IsNumbered graph result → KeepsEdges graph result
numbered_edges graph result numbered = record { succs = succs; edges = edges; split = split }
  where
    are : AreNumbered graph.shared (length graph.vars) graph.nodes result.nodes
    are = numbered.nodes_are

    succs : (n : ℕ) → succs_at result.nodes n ≡ succs_at graph.nodes n
    succs = same_succs graph.shared (length graph.vars) graph.nodes result.nodes are

    edges : edges_from 0 result.nodes ≡ edges_from 0 graph.nodes
    edges = edges_alike 0 result.nodes graph.nodes are.long succs

    preds : (s : ℕ) → preds_of result.nodes s ≡ preds_of graph.nodes s
    preds s = ap (preds_among s) edges

    split : IsSplit graph.nodes → IsSplit result.nodes
    split is = record {
      by_skips = λ s i n lt many at. skips_stay graph.shared (length graph.vars) graph.nodes result.nodes are n s
          (is.by_skips s i n (omega (arith, lt, are.long)) (subst (λ l. 1 < length l) (preds s) many)
          (sym (ap (λ l. slice_get l i) (preds s)) ∙ at));
      once = λ s i j n lt many at at'. is.once s i j n (omega (arith, lt, are.long))
          (subst (λ l. 1 < length l) (preds s) many) (sym (ap (λ l. slice_get l i) (preds s)) ∙ at)
          (sym (ap (λ l. slice_get l j) (preds s)) ∙ at');
    }
