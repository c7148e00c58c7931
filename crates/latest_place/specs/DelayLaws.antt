-- Laws of delayed nodes: they are down, and so is each node before which the lazy placement inserts. For proofs only,
-- here and above.
use Rattle.std.proofs.Common.{◌≡◌, ◌<◌, ◌⊎◌, ℕ, true, inl, inr, List, [], ◌∷◌, length}
use Rattle.mir_base.specs.declared.instructions.Expr.{Expr}
use Rattle.flow_graph.specs.Graphs.{GraphShape, IsGraph}
use Rattle.flow_graph.specs.PathLaws.{reached_trace}
use Rattle.flow_graph.specs.Paths.{Trace, goes_on}
use Rattle.motion_rewrite.specs.Expressions.{uses}
use Rattle.motion_rewrite.specs.Placements.{DownLaws, Places, ReachesAlong}
use Rattle.down_safe.specs.Busy.{IsEarliest}
use Rattle.latest_place.specs.Lazy.{IsLazy}

module _ (graph : GraphShape) (e : Expr) (Down : ℕ → Type 0) (laws : DownLaws graph e Down) where
  -- what an earliest node leads to without a use is down
  pub delayed_down : (n : ℕ) (before : List ℕ) → Trace graph.nodes n before
      → IsEarliest graph e Down n ⊎ ReachesAlong (IsEarliest graph e Down) (uses graph e) before
      → Down n
  delayed_down n [] t o = elim o [ inl early ↦ early.0 | inr s ↦ absurd s ]
  delayed_down n (m ∷ before) (goes_on m0 n0 before0 t edge) o = elim o [ inl early ↦ early.0 | inr s ↦ laws.onward m n (delayed_down m before t s.1) s.0 edge ]

  -- so the lazy placement inserts at nodes that are down alone
  pub lazy_down : IsGraph graph.vars graph.received graph.nodes → (p : Places)
      → IsLazy graph e Down p → (n : ℕ) → n < length graph.nodes → p.inserts n ≡ true → Down n
  lazy_down is_graph p is n lt set =
      let trace = reached_trace graph.nodes n (is_graph.reached n lt) in
      delayed_down n trace.0 trace.1 (((is.inserts_at n lt).0 set).0.0 trace.0 trace.1)
