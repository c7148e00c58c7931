-- An expression that one node uses, which is passed once, stays where it is: its lazy placement inserts nothing and
-- replaces nothing.
use Rattle.std.proofs.Common.{◌≡◌, ◌≢◌, ◌<◌, ◌≤◌, ◌⊎◌, ℕ, zero, suc, true, false, sym, subst, inl, inr, List, [], ◌∷◌, length, arith, true≢false}
use Rattle.std.proofs.Math.Decide.{dec_lt}
use Rattle.std.proofs.lemmas.Bool.{cases_eq}
use Rattle.mir_base.specs.declared.instructions.Expr.{Expr}
use Rattle.flow_graph.specs.Graphs.{GraphShape}
use Rattle.flow_graph.specs.Paths.{HasEdge, IsPath, Trace, from_start, goes_on}
use Rattle.graph_edit.specs.JoinLaws.{skip_leads}
use Rattle.motion_rewrite.specs.Expressions.{uses}
use Rattle.motion_rewrite.specs.PlacementLaws.{killing_not_down}
use Rattle.motion_rewrite.specs.Placements.{DownLaws, IsAvailableAfter, ReachesAlong, nowhere}
use Rattle.down_safe.specs.Busy.{IsEarliest}
use Rattle.latest_place.specs.DelayLaws.{delayed_down}
use Rattle.latest_place.specs.Inequalities.{delayed_on}
use Rattle.latest_place.specs.Lazy.{ComesToUse, IsDelayed, IsIsolated, IsLatest, IsLazy}
use Rattle.latest_place.specs.Parts.{IsUsedOnceFrom}
use Rattle.latest_place.specs.SplitFacts.{SplitFacts}
use Rattle.latest_place.specs.Stable.{dec_both, dec_is, dec_or, split_bit, stable_of_dec}

-- ---- decisions

-- to show something false, each of finitely many statements may be decided
decide_below : (count : ℕ) (P : ℕ → Type 0) → (((m : ℕ) → m < count → Dec (P m)) → ⊥) → ⊥
decide_below zero P none = none (λ m below. absurd (omega (arith, below)))
decide_below (suc count) P none = decide_below count P (λ decided.
    let with_last : Dec (P count) → ⊥ = λ last. none (λ m below. elim (cases_eq m count) [
      | inl same ↦ subst (λ k. Dec (P k)) (sym same) last
      | inr other ↦ decided m (omega (arith, below, other))
    ]) in
    with_last (no (λ holds. with_last (yes holds))))

module _ (graph : GraphShape) (facts : SplitFacts graph) (e : Expr) (Down : ℕ → Type 0) (laws : DownLaws graph e Down) (u : ℕ) (once : IsUsedOnceFrom graph e 0 u) where
  -- another node does not use e
  unused : (n : ℕ) → n ≢ u → uses graph e n ≡ false
  unused n other = split_bit (uses graph e n) (λ on. absurd (other (once.only n (omega arith) on))) (λ off. off)

  -- ---- behind the use

  -- no path from a node of a higher number comes to the use
  high_unused : (s : ℕ) (path : List ℕ) → u < s → IsPath graph.nodes (s ∷ path) → ComesToUse graph e Down (s ∷ path) → ⊥
  high_unused s [] high is comes = let same = once.only s (omega arith) comes.1 in omega (arith, high, same)
  high_unused s (k ∷ path) high is comes = high_unused k path (once.passed s k (omega (arith, high)) is.0) is.1 comes.1

  -- so a node is isolated whose successors have higher numbers
  high_isolated : (n : ℕ) → ((s : ℕ) → HasEdge graph.nodes n s → u < s) → IsIsolated graph e Down n
  high_isolated n above [] is comes = absurd comes
  high_isolated n above (s ∷ path) is comes = high_unused s path (above s is.0) is.1 comes

  late_isolated : (n : ℕ) → u ≤ n → IsIsolated graph e Down n
  late_isolated n late = high_isolated n (λ s edge. once.passed n s late edge)

  -- ---- before the use

  -- where e is down, the delay of an earliest insertion comes, up to the use
  comes_delayed : (n : ℕ) (before : List ℕ) → Trace graph.nodes n before → n ≤ u → Down n
      → (IsEarliest graph e Down n ⊎ ReachesAlong (IsEarliest graph e Down) (uses graph e) before → ⊥) → ⊥
  comes_delayed n [] from_start low down none = killing_not_down graph e Down laws 0 facts.start_below (facts.start_kills e) (facts.start_unused e) down
  comes_delayed n (m ∷ before) (goes_on m0 n0 before0 t edge) low down none =
      none (inl (
        down,
        (
          m,
          edge,
          inr (λ safe. elim safe [
            | inl up ↦ no_use m before t below (up before t)
            | inr down_before ↦ comes_delayed m before t (omega (arith, below)) down_before
                (λ behind. none (inr (unused m (λ same. omega (arith, same, below)), behind)))
          ]),
        ),
      ))
    where
      below : m < u
      below = elim (dec_lt m u) as (λ _. m < u) [ yes lower ↦ lower | no high ↦ absurd (let above = once.passed m n (omega (arith, high)) edge in omega (arith, above, low)) ]

      no_use : (k : ℕ) (path : List ℕ) → Trace graph.nodes k path → k < u → IsAvailableAfter graph e (λ j. uses graph e j ≡ true) path → ⊥
      no_use k [] t' k_low available = available
      no_use k (j ∷ path) (goes_on j0 k0 path0 t' edge') k_low available =
          let j_low : j < u = elim (dec_lt j u) as (λ _. j < u) [ yes lower ↦ lower | no high ↦ absurd (let above = once.passed j k (omega (arith, high)) edge' in omega (arith, above, k_low)) ] in
          elim available.1 [
            | inl used ↦ (let same = once.only j (omega arith) used in omega (arith, same, j_low))
            | inr more ↦ no_use j path t' j_low more
          ]

  -- so up to the use e is delayed where it is down
  low_delayed : (n : ℕ) → n < length graph.nodes → n ≤ u → Down n → (IsDelayed graph e Down n → ⊥) → ⊥
  low_delayed n below low down none = decide_below (length graph.nodes) (IsEarliest graph e Down) (λ decided.
      none (λ before t. stable_of_dec (dec_or (decided n below) (reaches n before t decided)) (comes_delayed n before t low down)))
    where
      reaches : (k : ℕ) (before : List ℕ) → Trace graph.nodes k before → ((m : ℕ) → m < length graph.nodes → Dec (IsEarliest graph e Down m))
          → Dec (ReachesAlong (IsEarliest graph e Down) (uses graph e) before)
      reaches k [] t decided = no (λ h. h)
      reaches k (m ∷ before) (goes_on m0 k0 before0 t edge) decided =
          dec_both (dec_is (uses graph e m) false) (dec_or (decided m (facts.sources_below m k edge)) (reaches m before t decided))

  -- ---- the placement

  -- a latest node is isolated
  latest_isolated : (n : ℕ) → n < length graph.nodes → IsLatest graph e Down n → (IsIsolated graph e Down n → ⊥) → ⊥
  latest_isolated n below latest needed = elim (dec_lt n u) as (λ _. ⊥) [
    | no late ↦ needed (late_isolated n (omega (arith, late)))
    | yes early ↦ elim latest.1 as (λ _. ⊥) [
      | inl used ↦ (let same = once.only n (omega arith) used in omega (arith, same, early))
      | inr at ↦ passed_on at.0 at.1 at.2 early
    ]
  ]
    where
      down : Down n
      down = let reach = facts.reached n below in delayed_down graph e Down laws n reach.0 reach.1 (latest.0 reach.0 reach.1)

      passed_on : (s : ℕ) → HasEdge graph.nodes n s → (IsDelayed graph e Down s → ⊥) → n < u → ⊥
      passed_on s edge undelayed early =
          let off : uses graph e n ≡ false = unused n (λ same. omega (arith, same, early)) in
          elim (facts.one_or_skips s) as (λ _. ⊥) [
            | inl one ↦ undelayed (delayed_on graph facts e Down laws n s edge (λ k edge'. one n k edge edge') latest.0 off)
            | inr skips ↦ elim (dec_lt u s) as (λ _. ⊥) [
              | yes high ↦ needed (high_isolated n (λ s' edge'. subst (λ k. u < k) (skip_leads graph.nodes n s s' (skips n edge) edge') high))
              | no low ↦ low_delayed s (facts.targets_below n s edge) (omega (arith, low)) (laws.onward n s down off edge) undelayed
            ]
          ]

  -- the use is latest and isolated
  use_stays : (n : ℕ) → n < length graph.nodes → uses graph e n ≡ true → (IsLatest graph e Down n × IsIsolated graph e Down n → ⊥) → ⊥
  use_stays n below used moved =
      let same = once.only n (omega arith) used in
      low_delayed n below (omega (arith, same)) (laws.used n below used) (λ delayed. moved ((delayed, inl used), late_isolated n (omega (arith, same))))

  pub stays_lazy : IsLazy graph e Down nowhere
  stays_lazy = record {
    inserts_at = λ n below. (λ on. absurd (true≢false (sym on)), λ is. absurd (latest_isolated n below is.0 is.1));
    replaces_at = λ n below. (λ on. absurd (true≢false (sym on)), λ is. absurd (use_stays n below is.0 is.1));
  }
