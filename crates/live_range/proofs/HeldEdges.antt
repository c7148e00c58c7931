-- Of an admissible placement an edge is held exactly where what it enters is wanted; so a lazy placement is held least.
use Rattle.std.proofs.Common.{◌≡◌, ℕ, Bool, true, false, inl, inr, refl, List, [], ◌∷◌, length, get_or, sym, ap, ◌∙◌, subst}
use Rattle.mir_base.specs.declared.instructions.Expr.{Expr}
use Rattle.flow_graph.specs.declared.nodes.Node.{Node}
use Rattle.flow_graph.specs.EdgeLaws.{edge_is}
use Rattle.flow_graph.specs.Edges.{IsSplit, edges_of}
use Rattle.flow_graph.specs.Graphs.{GraphShape, IsGraph}
use Rattle.flow_graph.specs.ListLaws.{some_at}
use Rattle.flow_graph.specs.Paths.{Ends, HasEdge, IsPath, Trace, from_start, goes_on}
use Rattle.path_laws.specs.Paths.{AreRows, has_bit}
use Rattle.motion_rewrite.specs.declared.placement.Placement.{Placement}
use Rattle.motion_rewrite.specs.Placements.{AreAdmissible, DownLaws, IsAdmissible, IsAvailableAfter, Places, places_of}
use Rattle.latest_place.specs.Lazy.{AreLazy, IsLazy}
use Rattle.latest_place.specs.Optimal.{lazy_optimal}
use Rattle.latest_place.specs.Stable.{not_both, split_bit}
use Rattle.latest_place.specs.SplitFacts.{SplitFacts, split_facts}
use Rattle.live_range.proofs.Least.{wanted_too}
use Rattle.live_range.proofs.Targets.{target_row, target_shape}
use Rattle.live_range.specs.Held.{AreHeldEdges, AreNeighbours, IsHeldLeast, InsertsNowhere, IsHeld, ReachesReturn}
use Rattle.live_range.specs.Wanted.{AreWantedRows, IsWanted, rows_by_target}

-- ---- a held edge

-- along a path behind an insertion each node but the first is wanted
wanted_on : (nodes : List Node) (p : Places) (m n last : ℕ) → p.replaces last ≡ true → ReachesReturn nodes last
    → (k : ℕ) (later : List ℕ) → IsPath nodes (k ∷ later) → InsertsNowhere p later → Ends last (k ∷ later) → AreNeighbours m n (k ∷ later) → HasEdge nodes m n × IsWanted nodes p n
wanted_on nodes p m n last replaced returns k [] is nowhere ends along = absurd along
wanted_on nodes p m n last replaced returns k (l ∷ path) is nowhere ends (inl here) = (
  subst (HasEdge nodes m) here.1 (subst (λ x. HasEdge nodes x l) here.0 is.0),
  subst (IsWanted nodes p) here.1 (record { later = path; is_path = is.1; nowhere = nowhere; last = last; ends = ends; replaced = replaced; returns = returns }),
)
wanted_on nodes p m n last replaced returns k (l ∷ path) is nowhere ends (inr more) = wanted_on nodes p m n last replaced returns l path is.1 nowhere.1 ends more

-- so what a held edge enters is wanted
pub held_wanted : (nodes : List Node) (p : Places) (m n : ℕ) → IsHeld nodes p m n → HasEdge nodes m n × IsWanted nodes p n
held_wanted nodes p m n held = let c = held.carries in wanted_on nodes p m n c.last c.replaced c.returns held.start held.later c.is_path c.no_other c.ends held.along

-- ---- an edge to a node that is wanted

module _ (graph : GraphShape) (known : SplitFacts graph) (e : Expr) (Down : ℕ → Type 0) (q : Places) (ok : IsAdmissible graph e Down q) where
  -- on each path to a node that is wanted an insertion has made e available
  served_on : (last : ℕ) → q.replaces last ≡ true → (n : ℕ) (before : List ℕ) → Trace graph.nodes n before → (path : List ℕ) → IsPath graph.nodes (n ∷ path) → InsertsNowhere q (n ∷ path) → Ends last (n ∷ path)
      → IsAvailableAfter graph e (λ k. q.inserts k ≡ true) before
  served_on last replaced n before t [] is nowhere ends =
      elim (ok.available n before (subst (λ k. q.replaces k ≡ true) (sym ends) replaced) t) [ inl i ↦ not_both i nowhere.0 | inr s ↦ s ]
  served_on last replaced n before t (s ∷ path) is nowhere ends =
      elim (served_on last replaced s (n ∷ before) (goes_on n s before t is.0) path is.1 nowhere.1 ends).1 [ inl i ↦ not_both i nowhere.0 | inr more ↦ more ]

  -- a path from an insertion, with no other on it, holds its edges
  held_from : (last : ℕ) → q.replaces last ≡ true → ReachesReturn graph.nodes last → (x y m : ℕ) → q.inserts m ≡ true
      → (later : List ℕ) → IsPath graph.nodes (m ∷ later) → InsertsNowhere q later → Ends last (m ∷ later) → AreNeighbours x y (m ∷ later) → IsHeld graph.nodes q x y
  held_from last replaced returns x y m inserted later is nowhere ends along = record {
    start = m;
    later = later;
    carries = record { is_path = is; inserted = inserted; no_other = nowhere; last = last; ends = ends; replaced = replaced; returns = returns };
    along = along;
  }

  -- back along a trace on which an insertion has made e available stands one with no other since
  held_on : (last : ℕ) → q.replaces last ≡ true → ReachesReturn graph.nodes last → (x y m : ℕ) (before : List ℕ) → Trace graph.nodes m before → IsAvailableAfter graph e (λ k. q.inserts k ≡ true) (m ∷ before)
      → (later : List ℕ) → IsPath graph.nodes (m ∷ later) → InsertsNowhere q later → Ends last (m ∷ later) → AreNeighbours x y (m ∷ later) → IsHeld graph.nodes q x y
  held_on last replaced returns x y m before from_start served later is nowhere ends along =
      elim served.1 [ inl i ↦ held_from last replaced returns x y m i later is nowhere ends along | inr none ↦ absurd none ]
  held_on last replaced returns x y m before (goes_on k m0 earlier t edge) served later is nowhere ends along =
      elim served.1 [
        | inl i ↦ held_from last replaced returns x y m i later is nowhere ends along
        | inr more ↦ split_bit (q.inserts m)
            (λ i. held_from last replaced returns x y m i later is nowhere ends along)
            (λ none. held_on last replaced returns x y k earlier t more (m ∷ later) (edge, is) (none, nowhere) ends (inr along))
      ]

  -- so an edge to a node that is wanted is held
  pub wanted_held : (m n : ℕ) → HasEdge graph.nodes m n → IsWanted graph.nodes q n → IsHeld graph.nodes q m n
  wanted_held m n edge w =
      let reach = known.reached m (known.sources_below m n edge) in
      let served = served_on w.last w.replaced n (m ∷ reach.0) (goes_on m n reach.0 reach.1 edge) w.later w.is_path w.nowhere w.ends in
      held_on w.last w.replaced w.returns m n m reach.0 reach.1 served (n ∷ w.later) (edge, w.is_path) w.nowhere w.ends (inl (refl, refl))

-- ---- the lazy placement

module _ (graph : GraphShape) (is_graph : IsGraph graph.vars graph.received graph.nodes) (split : IsSplit graph.nodes) (e : Expr) (Down : ℕ → Type 0) (laws : DownLaws graph e Down)
    (p : Places) (is_lazy : IsLazy graph e Down p) where
  -- an edge that it holds is held by every optimal placement too
  pub lazy_least : IsHeldLeast graph e Down p
  lazy_least other best m n held =
      let wanted = held_wanted graph.nodes p m n held in
      wanted_held graph (split_facts graph is_graph split) e Down other best.admissible m n wanted.0 (wanted_too graph is_graph split e Down laws p is_lazy other best n wanted.1)

-- ---- the rows

-- a lazy placement is admissible for each expression of its table
pub lazy_admissible : (graph : GraphShape) (is_graph : IsGraph graph.vars graph.received graph.nodes) (split : IsSplit graph.nodes) (table : List Expr) (Down : Expr → ℕ → Type 0) (laws : (e : Expr) → DownLaws graph e (Down e)) (p : Placement)
    → AreLazy graph table Down p → AreAdmissible graph table Down p
lazy_admissible graph is_graph split table Down laws p lazy i e at = (lazy_optimal graph is_graph split e (Down e) (laws e) (places_of p i) (lazy i e at)).admissible

-- of an admissible placement the rows of what is wanted, by the targets of edges, tell which edges are held
pub held_rows : (graph : GraphShape) (is_graph : IsGraph graph.vars graph.received graph.nodes) (split : IsSplit graph.nodes) (table : List Expr) (Down : Expr → ℕ → Type 0) (p : Placement)
    → AreAdmissible graph table Down p → (wanted made : List (List Bool)) → AreRows (length graph.nodes) (length table) wanted → AreWantedRows graph (length table) p wanted → made ≡ rows_by_target (edges_of graph.nodes).edges wanted
    → AreHeldEdges graph table p made
held_rows graph is_graph split table Down p admissible wanted made shape says is = record {
  shape = subst (AreRows (length (edges_of graph.nodes).edges) (length table)) (sym is) (target_shape graph.nodes (length table) wanted (λ m slot s edge. (is_graph.can.succs m slot s edge).1) shape);
  bits = λ k i edge at i_in.
      let has = edge_is graph.nodes k edge at in
      let below = (is_graph.can.succs edge.source has.0 edge.target has.1).1 in
      let bit : has_bit made i k ≡ has_bit wanted i edge.target = ap (λ rows. has_bit rows i k) is ∙ ap (λ row. get_or row i false) (target_row (edges_of graph.nodes).edges wanted k edge at) in
      let here = says edge.target i below i_in in
      let e = some_at table i i_in in (
        λ on. wanted_held graph (split_facts graph is_graph split) e.0 (Down e.0) (places_of p i) (admissible i e.0 e.1) edge.source edge.target has (here.0 (sym bit ∙ on)),
        λ held. bit ∙ here.1 (held_wanted graph.nodes (places_of p i) edge.source edge.target held).1,
      );
}
