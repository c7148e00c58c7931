-- On each full path the lazy placement evaluates least: by induction along the path, with the inequalities of its
-- edges. For proofs only, here and above.
use Rattle.std.proofs.Common.{◌<◌, ◌≡◌, ◌≤◌, ◌+◌, ℕ, Bool, true, false, inl, inr, List, [], length, slice_get, Option, Some, None, arith, refl}
use Rattle.mir_base.specs.declared.instructions.Expr.{Expr}
use Rattle.flow_graph.specs.declared.nodes.Node.{Node}
use Rattle.flow_graph.specs.declared.nodes.Node.TheVariants.{Start, Skip, Assign, Print, Guard, Call, Test, Return}
use Rattle.flow_graph.specs.Edges.{IsSplit}
use Rattle.flow_graph.specs.Graphs.{GraphShape, IsGraph, succs_at, succs_of}
use Rattle.flow_graph.specs.PathLaws.{path_trace}
use Rattle.flow_graph.specs.Paths.{IsFullPath, Trace, from_start, goes_on, is_return}
use Rattle.flow_graph.specs.Sums.{one_if}
use Rattle.motion_rewrite.specs.Placements.{DownLaws, IsAdmissible, IsOptimal, Places, count, evaluations_at}
use Rattle.down_safe.specs.Busy.{IsEarliest}
use Rattle.latest_place.specs.Lazy.{IsDelayed, IsLatest, IsLazy}
use Rattle.latest_place.specs.Inequalities.{IsPending, evaluates_end, lazy_edge, lazy_evaluates, other_edge}
use Rattle.latest_place.specs.Stable.{Is, with_bit_le}
use Rattle.latest_place.specs.SplitFacts.{SplitFacts, trace_below, split_facts}
use Rattle.latest_place.specs.Admissible.{lazy_admissible, start_not_down}
use Rattle.latest_place.specs.Counts.{count_before, evaluations_on}

-- a Return has no successor
pub return_ends : (o : Option Node) → is_return o ≡ true → succs_of o ≡ []
return_ends None is = cc
return_ends (Some (Start next)) is = cc
return_ends (Some (Skip next)) is = cc
return_ends (Some (Assign x rhs next)) is = cc
return_ends (Some (Print a next)) is = cc
return_ends (Some (Guard test number next)) is = cc
return_ends (Some (Call into unit operands next)) is = cc
return_ends (Some (Test test taken other)) is = cc
return_ends (Some (Return a)) is = refl

module _ (graph : GraphShape) (facts : SplitFacts graph) (e : Expr) (Down : ℕ → Type 0)
    (laws : DownLaws graph e Down) where
  -- what the lazy placement has evaluated before n, and one more where its delay goes on, is at most what the other has
  -- evaluated, and one more where an evaluation of it is pending
  pub behind : (p : Places) → IsLazy graph e Down p → (q : Places) → IsAdmissible graph e Down q
      → (n : ℕ) (before : List ℕ) → Trace graph.nodes n before
      → (dn on : Bool) → Is dn (IsDelayed graph e Down n) → Is on (IsPending graph e Down q n) → evaluations_on graph e p before + one_if dn ≤ evaluations_on graph e q before + one_if on
  behind p is q ok n before from_start true on d o =
      absurd (elim (d [] from_start) [ inl early ↦ start_not_down graph facts e Down laws early.0 | inr s ↦ s ])
  behind p is q ok n before from_start false on d o = omega arith
  behind p is q ok n before (goes_on m n0 path t edge) dn on d o =
      with_bit_le (IsDelayed graph e Down m) _ _ (λ dm im.
      with_bit_le (IsPending graph e Down q m) _ _ (λ om io.
      with_bit_le (IsLatest graph e Down m) _ _ (λ l il.
      with_bit_le (IsEarliest graph e Down n) _ _ (λ en ie.
      let sofar = behind p is q ok m path t dm om im io in
      let mine = lazy_edge graph facts e Down laws m n path t edge l dm dn en il im d ie in
      let theirs = other_edge graph facts e Down laws q ok m n path t edge en om on ie io o in
      let cost = lazy_evaluates graph facts e Down laws p is m (facts.sources_below m n edge) l il in
      omega arith))))

  -- ---- at the end of a path

  -- what is pending at the last node is evaluated there
  pub pending_end : (q : Places) → IsAdmissible graph e Down q → (last : ℕ)
      → last < length graph.nodes → succs_at graph.nodes last ≡ [] → (o : Bool)
      → Is o (IsPending graph e Down q last)
      → one_if o ≤ evaluations_at graph e q last
  pending_end q ok last below none true io = evaluates_end graph facts e Down laws q ok last below io none
  pending_end q ok last below none false io = omega arith

  -- a latest node is delayed
  latest_delayed : (n : ℕ) (l d : Bool) → Is l (IsLatest graph e Down n)
      → Is d (IsDelayed graph e Down n) → one_if l ≤ one_if d
  latest_delayed n true true il id = omega arith
  latest_delayed n true false il id = absurd (id il.0)
  latest_delayed n false d il id = omega arith

  -- so the lazy placement evaluates at the last node only what its delay ends there
  pub lazy_end : (p : Places) → IsLazy graph e Down p → (last : ℕ) → last < length graph.nodes
      → (d : Bool) → Is d (IsDelayed graph e Down last) → evaluations_at graph e p last ≤ one_if d
  lazy_end p is last below d id = with_bit_le (IsLatest graph e Down last) _ _ (λ l il.
      let cost = lazy_evaluates graph facts e Down laws p is last below l il in
      let within = latest_delayed last l d il id in
      omega arith)

  -- on the whole path
  pub least_on_trace : (p : Places) → IsLazy graph e Down p → (q : Places)
      → IsAdmissible graph e Down q → (last : ℕ) (before : List ℕ)
      → Trace graph.nodes last before → succs_at graph.nodes last ≡ [] → evaluations_at graph e p last + evaluations_on graph e p before ≤ evaluations_at graph e q last + evaluations_on graph e q before
  least_on_trace p is q ok last before t none =
      let below = trace_below graph facts last before t in
      with_bit_le (IsDelayed graph e Down last) _ _ (λ d id.
      with_bit_le (IsPending graph e Down q last) _ _ (λ o io.
      let sofar = behind p is q ok last before t d o id io in
      let theirs = pending_end q ok last below none o io in
      let mine = lazy_end p is last below d id in
      omega arith))

-- the lazy placement is admissible, and no admissible placement evaluates less on any full path
pub lazy_optimal : (graph : GraphShape) → IsGraph graph.vars graph.received graph.nodes
    → IsSplit graph.nodes → (e : Expr) (Down : ℕ → Type 0) → DownLaws graph e Down
    → (p : Places) → IsLazy graph e Down p → IsOptimal graph e Down p
lazy_optimal graph is_graph split e Down laws p is = record { admissible = lazy_admissible graph known e Down laws p is; least = least }
  where
    known : SplitFacts graph
    known = split_facts graph is_graph split

    least : (other : Places) → IsAdmissible graph e Down other → (path : List ℕ)
        → IsFullPath graph.nodes path → count graph e p path ≤ count graph e other path
    least other ok path full =
        let t = path_trace graph.nodes known.start_below (λ m slot s edge. (is_graph.can.succs m slot s edge).1) path full.last full.is_path full.begins full.ends in
        rw (t.2, count_before graph e p t.0 full.last, count_before graph e other t.0 full.last)
        (least_on_trace graph known e Down laws p is other ok full.last t.0 t.1 (return_ends (slice_get graph.nodes full.last) full.returns))
