-- What any optimal placement evaluates beside the lazy one: on each full path as much, so at no node of it is one of
-- them ahead. Where an evaluation is pending, the lazy placement delays it.
use Rattle.std.proofs.Common.{◌≡◌, ◌≤◌, ◌<◌, ◌+◌, ◌⊎◌, ℕ, zero, suc, Bool, true, false, inl, inr, List, [], ◌∷◌, length, slice_get, sym, subst, arith}
use Rattle.std.proofs.Math.Decide.{dec_lt}
use Rattle.std.proofs.lemmas.Bool.{cases_lt}
use Rattle.mir_base.specs.declared.instructions.Expr.{Expr}
use Rattle.flow_graph.specs.Edges.{IsSplit}
use Rattle.flow_graph.specs.Graphs.{GraphShape, IsGraph}
use Rattle.flow_graph.specs.Paths.{Ends, HasEdge, IsPath, IsReturnAt, Trace, from_start, goes_on}
use Rattle.flow_graph.specs.Sums.{one_if}
use Rattle.motion_rewrite.specs.Expressions.{uses}
use Rattle.motion_rewrite.specs.PlacementLaws.{start_not_down}
use Rattle.motion_rewrite.specs.Placements.{DownLaws, IsOptimal, Places, ReachesAlong, evaluations_at}
use Rattle.down_safe.specs.Busy.{IsEarliest}
use Rattle.latest_place.specs.Counts.{count_before, evaluations_on}
use Rattle.latest_place.specs.Inequalities.{IsPending, earliest_pending, evaluates_use, lazy_edge, lazy_evaluates, other_edge}
use Rattle.latest_place.specs.Lazy.{IsDelayed, IsLatest, IsLazy}
use Rattle.latest_place.specs.Optimal.{behind, lazy_end, lazy_optimal, pending_end, return_ends}
use Rattle.latest_place.specs.Stable.{Is, Stable, dec_both, dec_is, dec_or, decide_bit, split_bit, stable_cases, stable_of_dec, with_bit_le}
use Rattle.latest_place.specs.SplitFacts.{SplitFacts, trace_below, split_facts}
use Rattle.live_range.proofs.Ways.{trace_full}
use Rattle.live_range.specs.Held.{ReachesReturn}

-- that something good reaches along a path can be tested, where it can be tested what is good
dec_reaches_of : {Good : ℕ → Type 0} (bad : ℕ → Bool) (path : List ℕ) → ((n : ℕ) → Dec (Good n)) → Dec (ReachesAlong Good bad path)
dec_reaches_of bad [] good = no (λ h. h)
dec_reaches_of bad (m ∷ path) good = dec_both (dec_is (bad m) false) (dec_or (good m) (dec_reaches_of bad path good))

-- below any bound all statements of a family may be taken as decided, where a contradiction is to be shown
pub everywhere : (P : ℕ → Type 0) (k : ℕ) → ¬ (¬ ((n : ℕ) → n < k → Dec (P n)))
everywhere P zero h = h (λ n below. absurd (omega (arith, below)))
everywhere P (suc k) h = everywhere P k (λ below_k. stable_cases (P k) (λ nn. nn (λ b. b)) (λ y. h (more (yes y) below_k)) (λ n. h (more (no n) below_k)))
  where
    more : Dec (P k) → ((n : ℕ) → n < k → Dec (P n)) → (n : ℕ) → n < suc k → Dec (P n)
    more d f n below = pick (cases_lt n k)
      where
        pick : (n < k ⊎ k ≤ n) → Dec (P n)
        pick (inl l) = f n l
        pick (inr m) = subst (λ x. Dec (P x)) (let q : k ≡ n = omega (arith, m, below) in q) d

module _ (graph : GraphShape) (is_graph : IsGraph graph.vars graph.received graph.nodes) (split : IsSplit graph.nodes) (e : Expr) (Down : ℕ → Type 0) (laws : DownLaws graph e Down)
    (p : Places) (is_lazy : IsLazy graph e Down p) (q : Places) (best : IsOptimal graph e Down q) where
  known : SplitFacts graph
  known = split_facts graph is_graph split

  -- on a full path the other placement evaluates no more than the lazy one
  no_more : (n : ℕ) (before : List ℕ) → Trace graph.nodes n before → IsReturnAt graph.nodes n
      → evaluations_at graph e q n + evaluations_on graph e q before ≤ evaluations_at graph e p n + evaluations_on graph e p before
  no_more n before t returns =
      let full = trace_full graph.nodes known.start_below (λ m slot s edge. (is_graph.can.succs m slot s edge).1) n before t returns in
      let total = best.least p (lazy_optimal graph is_graph split e Down laws p is_lazy).admissible _ full in
      let theirs = count_before graph e q before n in
      let mine = count_before graph e p before n in
      omega (arith, total, theirs, mine)

  -- so nowhere on it is it ahead: what it has evaluated, and one more where an evaluation is pending, is at most what
  -- the lazy one has evaluated, and one more where its delay goes on
  tight_on : (n : ℕ) (before : List ℕ) → Trace graph.nodes n before → (path : List ℕ) (last : ℕ) → IsPath graph.nodes (n ∷ path) → Ends last (n ∷ path) → IsReturnAt graph.nodes last
      → (dn on : Bool) → Is dn (IsDelayed graph e Down n) → Is on (IsPending graph e Down q n) → evaluations_on graph e q before + one_if on ≤ evaluations_on graph e p before + one_if dn
  tight_on n before t [] last is ends returns dn on d o =
      let here : IsReturnAt graph.nodes n = subst (IsReturnAt graph.nodes) (sym ends) returns in
      let total = no_more n before t here in
      let theirs = pending_end graph known e Down laws q best.admissible n is (return_ends (slice_get graph.nodes n) here) on o in
      let mine = lazy_end graph known e Down laws p is_lazy n is dn d in
      omega (arith, total, theirs, mine)
  tight_on n before t (s ∷ path) last is ends returns dn on d o =
      with_bit_le (IsDelayed graph e Down s) _ _ (λ ds id.
      with_bit_le (IsPending graph e Down q s) _ _ (λ os io.
      with_bit_le (IsLatest graph e Down n) _ _ (λ l il.
      with_bit_le (IsEarliest graph e Down s) _ _ (λ es ie.
      let total = tight_on s (n ∷ before) (goes_on n s before t is.0) path last is.1 ends returns ds os id io in
      let mine = lazy_edge graph known e Down laws n s before t is.0 l dn ds es il d id ie in
      let theirs = other_edge graph known e Down laws q best.admissible n s before t is.0 es on os ie o io in
      let cost = lazy_evaluates graph known e Down laws p is_lazy n (known.sources_below n s is.0) l il in
      omega (arith, total, mine, theirs, cost)))))

  tight : (n : ℕ) (before : List ℕ) → Trace graph.nodes n before → ReachesReturn graph.nodes n → (dn on : Bool) → Is dn (IsDelayed graph e Down n) → Is on (IsPending graph e Down q n)
      → evaluations_on graph e q before + one_if on ≤ evaluations_on graph e p before + one_if dn
  tight n before t reaches = tight_on n before t reaches.later reaches.last reaches.is_path reaches.ends reaches.returns

  -- ---- what is pending is delayed

  -- on each path to a node where an evaluation is pending, from which a Return is reached, stands an earliest node with
  -- no use since
  open_pending : ((n : ℕ) → Dec (IsEarliest graph e Down n)) → (n : ℕ) (before : List ℕ) → Trace graph.nodes n before → ReachesReturn graph.nodes n → IsPending graph e Down q n
      → IsEarliest graph e Down n ⊎ ReachesAlong (IsEarliest graph e Down) (uses graph e) before
  open_pending early? n before from_start reaches pending = absurd (start_not_down graph e Down laws is_graph.can pending.0)
  open_pending early? n before (goes_on m k earlier t edge) reaches pending = from (open_pending early? m earlier t back) (early? n)
    where
      back : ReachesReturn graph.nodes m
      back = record { later = n ∷ reaches.later; is_path = (edge, reaches.is_path); last = reaches.last; ends = reaches.ends; returns = reaches.returns }

      stable : Stable (IsEarliest graph e Down n ⊎ ReachesAlong (IsEarliest graph e Down) (uses graph e) (m ∷ earlier))
      stable = stable_of_dec (dec_or (early? n) (dec_reaches_of (uses graph e) (m ∷ earlier) early?))

      from : (IsPending graph e Down q m → IsEarliest graph e Down m ⊎ ReachesAlong (IsEarliest graph e Down) (uses graph e) earlier) → Dec (IsEarliest graph e Down n) → IsEarliest graph e Down n ⊎ ReachesAlong (IsEarliest graph e Down) (uses graph e) (m ∷ earlier)
      from ih (yes early) = inl early
      from ih (no late) =
          decide_bit (IsDelayed graph e Down m) stable (λ dm im.
          decide_bit (IsDelayed graph e Down n) stable (λ dn id.
          decide_bit (IsLatest graph e Down m) stable (λ l il.
          decide_bit (IsPending graph e Down q m) stable (λ om io.
          let total = tight n (m ∷ earlier) (goes_on m n earlier t edge) reaches dn true id pending in
          let sofar = behind graph known e Down laws p is_lazy q best.admissible m earlier t dm om im io in
          let mine = lazy_edge graph known e Down laws m n earlier t edge l dm dn false il im id late in
          let cost = lazy_evaluates graph known e Down laws p is_lazy m (known.sources_below m n edge) l il in
          let bound : evaluations_at graph e q m + 1 ≤ one_if om = omega (arith, total, sofar, mine, cost) in
          passed om io bound))))
        where
          passed : (om : Bool) → Is om (IsPending graph e Down q m) → evaluations_at graph e q m + 1 ≤ one_if om
              → IsEarliest graph e Down n ⊎ ReachesAlong (IsEarliest graph e Down) (uses graph e) (m ∷ earlier)
          passed false io bound = absurd (omega (arith, bound))
          passed true io bound =
              split_bit (uses graph e m)
              (λ used. absurd (let h = evaluates_use graph known e Down laws q best.admissible m io used in omega (arith, h, bound)))
              (λ unused. inr (unused, ih io))

  earliest_below : ((n : ℕ) → n < length graph.nodes → Dec (IsEarliest graph e Down n)) → (n : ℕ) → Dec (IsEarliest graph e Down n)
  earliest_below decides n = elim (dec_lt n (length graph.nodes)) [
    | yes below ↦ decides n below
    | no past ↦ no (λ early. past (known.targets_below early.1.0 n early.1.1))
  ]

  -- so it is delayed there
  pub pending_delayed : (n : ℕ) → ReachesReturn graph.nodes n → IsPending graph e Down q n → ¬ (¬ (IsDelayed graph e Down n))
  pending_delayed n reaches pending late =
      everywhere (IsEarliest graph e Down) (length graph.nodes) (λ decides. late (λ before t. open_pending (earliest_below decides) n before t reaches pending))

  -- ---- where nothing is delayed or pending, nothing is evaluated

  early_pending : (m n : ℕ) (before : List ℕ) → Trace graph.nodes m before → HasEdge graph.nodes m n → (en on : Bool) → Is en (IsEarliest graph e Down n) → Is on (IsPending graph e Down q n) → one_if en ≤ one_if on
  early_pending m n before t edge true true ie io = omega arith
  early_pending m n before t edge true false ie io = absurd (io (earliest_pending graph known e Down laws q best.admissible m n before t edge ie))
  early_pending m n before t edge false on ie io = omega arith

  evaluates_on : (n : ℕ) (before : List ℕ) → Trace graph.nodes n before → (path : List ℕ) (last : ℕ) → IsPath graph.nodes (n ∷ path) → Ends last (n ∷ path) → IsReturnAt graph.nodes last
      → ¬ (IsLatest graph e Down n) → ¬ (IsDelayed graph e Down n) → ¬ (IsPending graph e Down q n) → evaluations_at graph e q n ≤ 0
  evaluates_on n before t [] last is ends returns not_latest late settled =
      let here : IsReturnAt graph.nodes n = subst (IsReturnAt graph.nodes) (sym ends) returns in
      let total = no_more n before t here in
      let sofar = behind graph known e Down laws p is_lazy q best.admissible n before t false false late settled in
      let cost = lazy_evaluates graph known e Down laws p is_lazy n is false not_latest in
      omega (arith, total, sofar, cost)
  evaluates_on n before t (s ∷ path) last is ends returns not_latest late settled =
      with_bit_le (IsDelayed graph e Down s) _ _ (λ ds id.
      with_bit_le (IsPending graph e Down q s) _ _ (λ os io.
      with_bit_le (IsEarliest graph e Down s) _ _ (λ es ie.
      let total = tight_on s (n ∷ before) (goes_on n s before t is.0) path last is.1 ends returns ds os id io in
      let sofar = behind graph known e Down laws p is_lazy q best.admissible n before t false false late settled in
      let mine = lazy_edge graph known e Down laws n s before t is.0 false false ds es not_latest late id ie in
      let cost = lazy_evaluates graph known e Down laws p is_lazy n (trace_below graph known n before t) false not_latest in
      let begins = early_pending n s before t is.0 es os ie io in
      omega (arith, total, sofar, mine, cost, begins))))

  pub evaluates_none : (n : ℕ) → n < length graph.nodes → ReachesReturn graph.nodes n → ¬ (IsLatest graph e Down n) → ¬ (IsDelayed graph e Down n) → ¬ (IsPending graph e Down q n) → evaluations_at graph e q n ≤ 0
  evaluates_none n below reaches not_latest late settled =
      let reach = known.reached n below in
      evaluates_on n reach.0 reach.1 reaches.later reaches.last reaches.is_path reaches.ends reaches.returns not_latest late settled
