-- The test whether a graph is split.
use Rattle.std.proofs.Common.{◌≡◌, ℕ, zero, suc, ◌+◌, ◌<◌, Bool, true, cond, ◌&&◌, IsTrue, inl, inr, drop, List, [], ◌∷◌, length, slice_get, Option, Some, None, refl, sym, ap, ◌∙◌, subst, arith}
use Rattle.flow_graph.specs.declared.nodes.Node.{Node}
use Rattle.flow_graph.specs.declared.nodes.Node.TheVariants.{Start, Skip, Assign, Print, Guard, Call, Test, Return}
use Rattle.flow_graph.specs.Edges.{preds_of, IsSplit, is_skip_to, all_skips, enters_well}
use Rattle.mir_base.specs.Shapes.{AllBelow}
use Rattle.flow_graph.specs.ListLaws.{drop_at}
use Rattle.std.proofs.lemmas.Bool.{and_parts, eq-eqb, eqb-true, lt-ltb, le-ltb, cases_lt}
use Rattle.flow_graph.specs.PredLaws.{skip_once}

-- ---- the test

-- a node that is tested to be a Skip to this target is one
skip_to : (to : ℕ) (o : Option Node) → is_skip_to to o ≡ true → o ≡ Some (Skip to)
skip_to to None e = cc
skip_to to (Some (Start next)) e = cc
skip_to to (Some (Skip next)) e = ap (λ n. Some (Skip n)) (eqb-true next to e)
skip_to to (Some (Assign x rhs next)) e = cc
skip_to to (Some (Print a next)) e = cc
skip_to to (Some (Guard test number next)) e = cc
skip_to to (Some (Call into unit operands next)) e = cc
skip_to to (Some (Test test taken other)) e = cc
skip_to to (Some (Return a)) e = cc

-- where all predecessors are tested to be Skips to the target, each is one
all_at : (nodes : List Node) (to : ℕ) (preds : List ℕ) → all_skips nodes to preds ≡ true → (i n : ℕ) → slice_get preds i ≡ Some n → slice_get nodes n ≡ Some (Skip to)
all_at nodes to [] e i n h = cc
all_at nodes to (p ∷ preds) e zero n h = let same : p ≡ n = cc in ap (slice_get nodes) (sym same) ∙ skip_to to (slice_get nodes p) (and_parts _ _ e).0
all_at nodes to (p ∷ preds) e (suc i) n h = all_at nodes to preds (and_parts (is_skip_to to (slice_get nodes p)) _ e).1 i n h

-- and the other way round
at_all : (nodes : List Node) (to : ℕ) (preds : List ℕ) → ((i n : ℕ) → slice_get preds i ≡ Some n → slice_get nodes n ≡ Some (Skip to)) → all_skips nodes to preds ≡ true
at_all nodes to [] h = refl
at_all nodes to (p ∷ preds) h = ap (λ o. is_skip_to to o && all_skips nodes to preds) (h 0 p refl) ∙ ap (λ b. b && all_skips nodes to preds) (eq-eqb to to refl) ∙ at_all nodes to preds (λ i. h (suc i))

-- a truth value equal to true holds
true_is : (b : Bool) → b ≡ true → IsTrue b
true_is b e = e

-- and the other way round
is_true : (b : Bool) → IsTrue b → b ≡ true
is_true b h = h

-- where each node passes the test, the graph is split
pub well_is_split : (nodes : List Node) → ((s : ℕ) → s < length nodes → IsTrue (enters_well nodes s)) → IsSplit nodes
well_is_split nodes well = record {
  by_skips = λ s i n lt many e. all_at nodes s (preds_of nodes s) (one s lt many) i n e;
  once = λ s i j n lt many e e'.
      let is = all_at nodes s (preds_of nodes s) (one s lt many) i n e in
      let number : n ≡ 0 + n = omega arith in
      skip_once 0 s nodes n s i j is (e ∙ ap Some number) (e' ∙ ap Some number);
}
  where
    one : (s : ℕ) → s < length nodes → 1 < length (preds_of nodes s) → all_skips nodes s (preds_of nodes s) ≡ true
    one s lt many = sym (ap (λ b. cond b (all_skips nodes s (preds_of nodes s)) true) (lt-ltb 1 (length (preds_of nodes s)) many)) ∙ is_true (enters_well nodes s) (well s lt)

-- and in a split graph each passes it
pub split_is_well : (nodes : List Node) → IsSplit nodes → (s : ℕ) → s < length nodes → IsTrue (enters_well nodes s)
split_is_well nodes split s lt =
    elim (cases_lt 1 (length (preds_of nodes s))) [
      | inl many ↦ true_is (enters_well nodes s) (ap (λ b. cond b (all_skips nodes s (preds_of nodes s)) true) (lt-ltb 1 (length (preds_of nodes s)) many) ∙ at_all nodes s (preds_of nodes s) (λ i n e. split.by_skips s i n lt many e))
      | inr few ↦ true_is (enters_well nodes s) (ap (λ b. cond b (all_skips nodes s (preds_of nodes s)) true) (le-ltb 1 (length (preds_of nodes s)) few))
    ]

-- the test of the sources, one source further
pub skips_step : (nodes : List Node) (to : ℕ) (preds : List ℕ) (i n : ℕ) → slice_get preds i ≡ Some n → all_skips nodes to (drop i preds) ≡ is_skip_to to (slice_get nodes n) && all_skips nodes to (drop (i + 1) preds)
skips_step nodes to preds i n e = ap (all_skips nodes to) (drop_at preds i n e)

-- the bound of the sources, one source further
pub below_step : (m : ℕ) (preds : List ℕ) (i n : ℕ) → slice_get preds i ≡ Some n → AllBelow m (drop i preds) → (n < m) × AllBelow m (drop (i + 1) preds)
below_step m preds i n e h = subst (AllBelow m) (drop_at preds i n e) h

-- so the answer of the test is right
pub split_by : (nodes nodes' : List Node) (b : Bool) → nodes' ≡ nodes → (IsTrue b → (s : ℕ) → s < length nodes' → IsTrue (enters_well nodes' s)) × (((s : ℕ) → s < length nodes' → IsTrue (enters_well nodes' s)) → IsTrue b) → (IsTrue b → IsSplit nodes) × (IsSplit nodes → IsTrue b)
split_by nodes nodes' b e h =
    (λ t. subst IsSplit e (well_is_split nodes' (h.0 t)), λ split. h.1 (split_is_well nodes' (subst IsSplit (sym e) split)))
