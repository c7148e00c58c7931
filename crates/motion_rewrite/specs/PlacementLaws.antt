-- Laws of placements, for every rule that says which nodes are down: Start is not down; an admissible placement can be
-- flattened by; what a placement counts is a sum; and the one that inserts nothing is admissible, so that an optimal
-- one evaluates no more than the graph. For proofs only.
use Rattle.std.proofs.Common.{◌≡◌, ℕ, ◌<◌, ◌≤◌, ◌&&◌, not, true, false, List, [], length, inl, inr, sym, ap, ◌∙◌, arith, true≢false, count_by}
use Rattle.std.proofs.lemmas.Bool.{cases_Bool}
use Rattle.std.proofs.Math.Bool.{and-true}
use Rattle.std.proofs.lemmas.Option.{slice_get_within}
use Rattle.mir_base.specs.declared.instructions.Expr.{Expr}
use Rattle.flow_graph.specs.Graphs.{GraphShape, CanMake}
use Rattle.flow_graph.specs.Paths.{IsFullPath, from_start}
use Rattle.flow_graph.specs.Sums.{count_sums, on_plus, on_same, one_if, sum_on}
use Rattle.motion_rewrite.specs.declared.placement.Placement.{Placement}
use Rattle.motion_rewrite.specs.ExpressionLaws.{start_kills, start_unused}
use Rattle.motion_rewrite.specs.Expressions.{kills, uses}
use Rattle.motion_rewrite.specs.Placements.{AreOptimal, CanFlatten, DownLaws, IsAdmissible, IsNoDearer, IsOptimal, IsSafe, Places, count, evaluations_at, nowhere, places_of}

-- ---- Start

module _ (graph : GraphShape) (e : Expr) (Down : ℕ → Type 0) (laws : DownLaws graph e Down) where
  -- what kills and does not use is not down
  pub killing_not_down : (n : ℕ) → n < length graph.nodes → kills graph e n ≡ true → uses graph e n ≡ false → Down n → ⊥
  killing_not_down n within kill unused down = true≢false (sym kill ∙ laws.keeps n within down unused)

  module _ (can : CanMake graph.vars graph.received graph.nodes) where
    -- Start kills and does not use
    pub start_not_down : Down 0 → ⊥
    start_not_down = let start = can.start in killing_not_down 0 (slice_get_within graph.nodes 0 _ start.1) (start_kills graph e start.0 0 start.1) (start_unused graph e start.0 0 start.1)

    -- nor is it available
    pub start_not_safe : IsSafe graph e Down 0 → ⊥
    start_not_safe safe = elim safe [ inl available ↦ available [] from_start | inr down ↦ start_not_down down ]

    -- so an admissible placement inserts nothing there
    pub admissible_flattens : (p : Places) → IsAdmissible graph e Down p → CanFlatten graph e p
    admissible_flattens p admissible = record {
      replaced_uses = admissible.replaced_uses;
      at_start = elim (cases_Bool (p.inserts 0)) [
        | inl set ↦ absurd (start_not_safe (admissible.safe 0 (slice_get_within graph.nodes 0 _ can.start.1) set))
        | inr none ↦ none
      ];
      available = admissible.available;
    }

-- ---- counts

-- what a placement counts on a path is the sum of its evaluations at the nodes
pub count_sum : (graph : GraphShape) (e : Expr) (p : Places) (path : List ℕ)
    → count graph e p path ≡ sum_on (evaluations_at graph e p) path
count_sum graph e p path =
    let inserts = count_sums p.inserts path in
    let kept = count_sums (λ n. uses graph e n && not (p.replaces n)) path in
    let both = on_plus (λ n. one_if (p.inserts n)) (λ n. one_if (uses graph e n && not (p.replaces n))) path in
    omega (arith, inserts, kept, both)

-- ---- nothing inserted

module _ (graph : GraphShape) (e : Expr) (Down : ℕ → Type 0) where
  -- the placement that inserts and replaces nothing is admissible
  pub nowhere_admissible : IsAdmissible graph e Down nowhere
  nowhere_admissible = record {
    replaced_uses = λ n lt is. absurd (true≢false (sym is));
    safe = λ n lt is. absurd (true≢false (sym is));
    available = λ n before is trace. absurd (true≢false (sym is));
  }

  -- it counts the uses
  pub nowhere_counts : (path : List ℕ) → count graph e nowhere path ≡ count_by (uses graph e) path
  nowhere_counts path =
      count_sum graph e nowhere path
      ∙ on_same (evaluations_at graph e nowhere) (λ n. one_if (uses graph e n)) path (λ n. let same = ap one_if (and-true (uses graph e n)) in omega (arith, same))
      ∙ sym (count_sums (uses graph e) path)

  -- so no optimal one counts more
  pub optimal_no_dearer : (p : Places) → IsOptimal graph e Down p → (path : List ℕ)
      → IsFullPath graph.nodes path → count graph e p path ≤ count_by (uses graph e) path
  optimal_no_dearer p best path full = omega (arith, best.least nowhere nowhere_admissible path full, nowhere_counts path)

-- nor does a placement that is optimal for each expression of its table
pub optimal_is_no_dearer : (graph : GraphShape) (table : List Expr) (Down : Expr → ℕ → Type 0) (p : Placement)
    → AreOptimal graph table Down p → IsNoDearer graph table p
optimal_is_no_dearer graph table Down p best = record {
  no_dearer = λ i e at path full. optimal_no_dearer graph e (Down e) (places_of p i) (best i e at) path full;
}
