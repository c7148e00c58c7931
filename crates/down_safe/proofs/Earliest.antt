-- A bit is earliest exactly where its expression is.
use Rattle.std.proofs.Common.{◌≡◌, ◌⊎◌, ◌↔◌, ℕ, ◌<◌, Bool, true, false, not, ◌||◌, length, inl, inr, sym, ◌∙◌, true≢false}
use Rattle.std.proofs.lemmas.Bool.{false_from_ne_true, not_from_false, or_cases, or_from, or_left, or_right}
use Rattle.mir_base.specs.declared.instructions.Expr.{Expr}
use Rattle.flow_graph.specs.Graphs.{GraphShape}
use Rattle.flow_graph.specs.BoundLaws.{edge_within}
use Rattle.motion_rewrite.specs.Expressions.{kills}
use Rattle.motion_rewrite.specs.Placements.{IsAvailable, IsSafe}
use Rattle.down_safe.specs.Bits.{IsEarliestBit, is_frontier}
use Rattle.down_safe.specs.Busy.{IsEarliest}

-- neither of two bits that are both unset is set
neither : (up down : Bool) → not (up || down) ≡ true → (up ≡ true) ⊎ (down ≡ true) → ⊥
neither true down off some = absurd (cc)
neither false true off some = absurd (cc)
neither false false off (inl on) = true≢false (sym on)
neither false false off (inr on) = true≢false (sym on)

module _ (graph : GraphShape) (e : Expr) (Down : ℕ → Type 0) (killed up down : ℕ → Bool) (kill_is : (m : ℕ) → m < length graph.nodes → killed m ≡ kills graph e m)
    (up_is : (m : ℕ) → m < length graph.nodes → (up m ≡ true) ↔ IsAvailable graph e m) (down_is : (m : ℕ) → m < length graph.nodes → (down m ≡ true) ↔ Down m) where
  -- a frontier kills or is not safe, and a node that does is one
  from_frontier : (m : ℕ) → m < length graph.nodes → is_frontier (killed m) (up m) (down m) ≡ true → (kills graph e m ≡ true) ⊎ (IsSafe graph e Down m → ⊥)
  from_frontier m h frontier = elim (or_cases (killed m) (not (up m || down m)) frontier) [
    | inl kill ↦ inl (sym (kill_is m h) ∙ kill)
    | inr off ↦ inr (λ safe. neither (up m) (down m) off (elim safe [ inl available ↦ inl ((up_is m h).1 available) | inr below ↦ inr ((down_is m h).1 below) ]))
  ]

  to_frontier : (m : ℕ) → m < length graph.nodes → (kills graph e m ≡ true) ⊎ (IsSafe graph e Down m → ⊥) → is_frontier (killed m) (up m) (down m) ≡ true
  to_frontier m h (inl kill) = or_left (killed m) (not (up m || down m)) (kill_is m h ∙ kill)
  to_frontier m h (inr unsafe) =
      let up_off = false_from_ne_true (up m) (λ on. unsafe (inl ((up_is m h).0 on))) in
      let down_off = false_from_ne_true (down m) (λ on. unsafe (inr ((down_is m h).0 on))) in
      or_right (killed m) (not (up m || down m)) (not_from_false (up m || down m) (or_from (up m) (down m) up_off down_off))

  -- so it is of the earliest nodes
  pub earliest_from_bit : (n : ℕ) → n < length graph.nodes → IsEarliestBit graph.nodes killed up down n → IsEarliest graph e Down n
  earliest_from_bit n h (on, (m, edge, frontier)) = ((down_is n h).0 on, (m, edge, from_frontier m (edge_within graph.nodes m n edge) frontier))

  pub bit_from_earliest : (n : ℕ) → n < length graph.nodes → IsEarliest graph e Down n → IsEarliestBit graph.nodes killed up down n
  bit_from_earliest n h (below, (m, edge, frontier)) = ((down_is n h).1 below, (m, edge, to_frontier m (edge_within graph.nodes m n edge) frontier))
