-- What holds along each edge of a split graph: two inequalities, of the lazy placement and of any admissible one. The
-- first bounds what the lazy placement evaluates by where its delay ends; the second says that an admissible placement
-- evaluates wherever an evaluation is pending and not passed on. For proofs only.
use Rattle.std.proofs.Common.{◌<◌, ◌≡◌, ◌≤◌, ◌+◌, ◌⊎◌, ◌&&◌, not, ℕ, Bool, true, false, sym, ◌∙◌, subst, inl, inr, List, [], ◌∷◌, length, arith, true≢false}
use Rattle.mir_base.specs.declared.instructions.Expr.{Expr}
use Rattle.flow_graph.specs.Graphs.{GraphShape, succs_at}
use Rattle.flow_graph.specs.Paths.{HasEdge, Trace, from_start, goes_on}
use Rattle.flow_graph.specs.Sums.{one_if}
use Rattle.motion_rewrite.specs.ExpressionLaws.{skip_keeps}
use Rattle.motion_rewrite.specs.Expressions.{kills, uses}
use Rattle.motion_rewrite.specs.Placements.{DownLaws, IsAdmissible, IsAvailable, IsAvailableAfter, IsSafe, Places, evaluations_at}
use Rattle.down_safe.specs.Busy.{IsEarliest}
use Rattle.latest_place.specs.Lazy.{IsDelayed, IsLatest, IsLazy}
use Rattle.latest_place.specs.Stable.{Is, stable_le, stable_cases, split_bit, not_both}
use Rattle.graph_edit.specs.JoinLaws.{skip_leads}
use Rattle.latest_place.specs.SplitFacts.{SplitFacts}

-- the temporary of e holds its value at n: every path from Start to n has an insertion from which on no node kills e
abbrev pub IsAvailableFrom : GraphShape → Expr → Places → ℕ → Type 0
IsAvailableFrom graph e p n = (before : List ℕ) → Trace graph.nodes n before
    → IsAvailableAfter graph e (λ m. p.inserts m ≡ true) before

-- an evaluation is pending at n: n is down, so what follows uses e, and e is not available there from the insertions;
-- so the placement has still to evaluate e, at n or after it
abbrev pub IsPending : GraphShape → Expr → (ℕ → Type 0) → Places → ℕ → Type 0
IsPending graph e Down p n = Down n × ¬ (IsAvailableFrom graph e p n)

module _ (graph : GraphShape) (facts : SplitFacts graph) (e : Expr) (Down : ℕ → Type 0)
    (laws : DownLaws graph e Down) where
  -- where an insertion makes e available along a path to m, a use does, or m is down
  pub rises : (p : Places) → IsAdmissible graph e Down p → (m : ℕ) (before : List ℕ) → Trace graph.nodes m before
      → IsAvailableAfter graph e (λ k. p.inserts k ≡ true) before → IsAvailableAfter graph e (λ k. uses graph e k ≡ true) before ⊎ Down m
  rises p ok m [] t s = absurd s
  rises p ok m (k ∷ before) (goes_on k0 m0 before0 t edge) s =
      split_bit (uses graph e k)
      (λ used. inl (s.0, inl used))
      (λ unused. elim s.1 [
        | inl i ↦ elim (ok.safe k (facts.sources_below k m edge) i) [ inl up ↦ inl (s.0, inr (up before t)) | inr down ↦ inr (laws.onward k m down unused edge) ]
        | inr more ↦ elim (rises p ok k before t more) [ inl u ↦ inl (s.0, inr u) | inr down ↦ inr (laws.onward k m down unused edge) ]
      ])

  -- where e is available at n from the insertions, a predecessor of n is safe
  pub safe_before : (p : Places) → IsAdmissible graph e Down p → (m n : ℕ) → HasEdge graph.nodes m n
      → IsAvailableFrom graph e p n → ¬ (¬ (IsSafe graph e Down m))
  safe_before p ok m n edge available unsafe = unsafe (inl up)
    where
      up : IsAvailable graph e m
      up before t =
          let s = available (m ∷ before) (goes_on m n before t edge) in
          elim s.1 [
            | inl i ↦ absurd (unsafe (ok.safe m (facts.sources_below m n edge) i))
            | inr more ↦ elim (rises p ok m before t more) [ inl u ↦ u | inr down ↦ absurd (unsafe (inr down)) ]
          ]

  -- where the expression is used and pending, the placement evaluates it
  pub evaluates_use : (p : Places) → IsAdmissible graph e Down p → (n : ℕ)
      → IsPending graph e Down p n → uses graph e n ≡ true → 1 ≤ evaluations_at graph e p n
  evaluates_use p ok n pending used =
      split_bit (p.inserts n)
      (λ i. rw i (omega arith))
      (λ ni. split_bit (p.replaces n)
      (λ r. absurd (pending.1 (λ before t. elim (ok.available n before r t) [ inl i ↦ not_both i ni | inr s ↦ s ])))
      (λ nr. rw (ni, used, nr) (omega arith)))

  -- so it does where it is pending and killed, or the path ends
  pub evaluates_kill : (p : Places) → IsAdmissible graph e Down p → (n : ℕ) → n < length graph.nodes
      → IsPending graph e Down p n → kills graph e n ≡ true → 1 ≤ evaluations_at graph e p n
  evaluates_kill p ok n below pending kill =
      split_bit (uses graph e n) (evaluates_use p ok n pending) (λ unused. not_both kill (laws.keeps n below pending.0 unused))

  pub evaluates_end : (p : Places) → IsAdmissible graph e Down p → (n : ℕ) → n < length graph.nodes
      → IsPending graph e Down p n → succs_at graph.nodes n ≡ [] → 1 ≤ evaluations_at graph e p n
  evaluates_end p ok n below pending none =
      split_bit (uses graph e n) (evaluates_use p ok n pending) (λ unused. absurd (laws.continues n below pending.0 unused none))

  -- each predecessor of an earliest node kills or is not safe
  pub cause : (m n : ℕ) → HasEdge graph.nodes m n → IsEarliest graph e Down n
      → (kills graph e m ≡ true) ⊎ ¬ (IsSafe graph e Down m)
  cause m n edge early = elim (facts.one_or_skips n) [
    | inl one ↦ subst (λ k. (kills graph e k ≡ true) ⊎ ¬ (IsSafe graph e Down k)) (one early.1.0 m early.1.1 edge) early.1.2
    | inr skips ↦ elim early.1.2 [
      | inl kill ↦ not_both kill (skip_keeps graph e early.1.0 n (skips early.1.0 early.1.1))
      | inr unsafe ↦ absurd (unsafe (inr (laws.skips early.1.0 n (skips early.1.0 early.1.1) early.0)))
    ]
  ]

  -- an evaluation is pending at each earliest node
  pub earliest_pending : (p : Places) → IsAdmissible graph e Down p → (m n : ℕ) (before : List ℕ)
      → Trace graph.nodes m before → HasEdge graph.nodes m n
      → IsEarliest graph e Down n → IsPending graph e Down p n
  earliest_pending p ok m n before t edge early = (
    early.0,
    λ available. elim (cause m n edge early) [
      | inl kill ↦ true≢false (sym kill ∙ (available (m ∷ before) (goes_on m n before t edge)).0)
      | inr unsafe ↦ safe_before p ok m n edge available unsafe
    ],
  )

  -- what is pending at m and not evaluated there is pending at n
  pub pending_on : (p : Places) → IsAdmissible graph e Down p → (m n : ℕ) → HasEdge graph.nodes m n
      → IsPending graph e Down p m → evaluations_at graph e p m ≡ 0 → IsPending graph e Down p n
  pending_on p ok m n edge pending none_here =
      split_bit (uses graph e m)
      (λ used. absurd (let h = evaluates_use p ok m pending used in omega arith))
      (λ unused. split_bit (p.inserts m)
      (λ i. absurd (let h : 1 ≤ evaluations_at graph e p m = rw i (omega arith) in omega arith))
      (λ ni. (
        laws.onward m n pending.0 unused edge,
        λ available. pending.1 (λ before t.
            elim (available (m ∷ before) (goes_on m n before t edge)).1 [ inl i ↦ not_both i ni | inr s ↦ s ]),
      )))

  -- delay goes back along an edge to a node that is not earliest
  pub delayed_back : (m n : ℕ) → HasEdge graph.nodes m n → ¬ (IsEarliest graph e Down n)
      → IsDelayed graph e Down n → IsDelayed graph e Down m
  delayed_back m n edge late d before t = elim (d (m ∷ before) (goes_on m n before t edge)) [ inl early ↦ absurd (late early) | inr s ↦ s.1 ]

  -- and on along the only edge to a node
  pub delayed_on : (m s : ℕ) → HasEdge graph.nodes m s → ((k : ℕ) → HasEdge graph.nodes k s → m ≡ k)
      → IsDelayed graph e Down m → uses graph e m ≡ false → IsDelayed graph e Down s
  delayed_on m s edge only d unused before from_start = absurd (facts.start_unentered m edge)
  delayed_on m s edge only d unused before (goes_on k s0 earlier t edge') =
      let same = only k edge' in
      inr (subst (λ x. uses graph e x ≡ false) same unused, subst (λ x. IsDelayed graph e Down x) same d earlier t)

  -- so where the delay goes on to n, it does not end at m
  pub not_latest : (m n : ℕ) (before : List ℕ) → Trace graph.nodes m before
      → HasEdge graph.nodes m n → ¬ (IsEarliest graph e Down n) → IsDelayed graph e Down n
      → ¬ (IsLatest graph e Down m)
  not_latest m n before t edge late d latest =
      elim (d (m ∷ before) (goes_on m n before t edge)) [
        | inl early ↦ late early
        | inr s ↦ elim latest.1 [
          | inl used ↦ true≢false (sym used ∙ s.0)
          | inr x ↦ x.2 (elim (facts.one_or_skips x.0) [
            | inl one ↦ delayed_on m x.0 x.1 (λ k edge'. one m k x.1 edge') (delayed_back m n edge late d) s.0
            | inr skips ↦ subst (λ y. IsDelayed graph e Down y) (sym (skip_leads graph.nodes m x.0 n (skips m x.1) edge)) d
          ])
        ]
      ]

  -- the lazy placement's edge: what is latest at m ends the delay
  pub lazy_edge : (m n : ℕ) (before : List ℕ) → Trace graph.nodes m before → HasEdge graph.nodes m n
      → (l dm dn en : Bool)
      → Is l (IsLatest graph e Down m) → Is dm (IsDelayed graph e Down m) → Is dn (IsDelayed graph e Down n) → Is en (IsEarliest graph e Down n)
      → one_if l + one_if dn ≤ one_if dm + one_if en
  lazy_edge m n before t edge true false dn en l dm d early = absurd (dm l.0)
  lazy_edge m n before t edge true true true false l dm d early = absurd (not_latest m n before t edge early d l)
  lazy_edge m n before t edge true true true true l dm d early = omega arith
  lazy_edge m n before t edge true true false en l dm d early = omega arith
  lazy_edge m n before t edge false false true false l dm d early = absurd (dm (delayed_back m n edge early d))
  lazy_edge m n before t edge false dm true true l d0 d early = omega arith
  lazy_edge m n before t edge false true true false l d0 d early = omega arith
  lazy_edge m n before t edge false dm false en l d0 d early = omega arith

  -- any admissible placement's edge: what is pending at m is evaluated there or pending at n, and so it is at an
  -- earliest node
  pub other_edge : (p : Places) → IsAdmissible graph e Down p → (m n : ℕ) (before : List ℕ)
      → Trace graph.nodes m before → HasEdge graph.nodes m n → (en om on : Bool)
      → Is en (IsEarliest graph e Down n) → Is om (IsPending graph e Down p m) → Is on (IsPending graph e Down p n)
      → one_if en + one_if om ≤ evaluations_at graph e p m + one_if on
  other_edge p ok m n before t edge true om false early o o' = absurd (o' (earliest_pending p ok m n before t edge early))
  other_edge p ok m n before t edge true false true early o o' = omega arith
  other_edge p ok m n before t edge true true true early o o' =
      elim (cause m n edge early)
      [ inl kill ↦ (let h = evaluates_kill p ok m (facts.sources_below m n edge) o kill in omega arith) | inr unsafe ↦ absurd (unsafe (inr o.0)) ]
  other_edge p ok m n before t edge false false on early o o' = omega arith
  other_edge p ok m n before t edge false true true early o o' = omega arith
  other_edge p ok m n before t edge false true false early o o' =
      stable_cases (evaluations_at graph e p m ≡ 0) (stable_le _ _) (λ z. absurd (o' (pending_on p ok m n edge o z))) (λ nz. omega arith)

  -- the lazy placement evaluates at latest nodes alone
  pub lazy_evaluates : (p : Places) → IsLazy graph e Down p → (n : ℕ) → n < length graph.nodes
      → (l : Bool) → Is l (IsLatest graph e Down n) → evaluations_at graph e p n ≤ one_if l
  lazy_evaluates p is n below false l =
      split_bit (p.inserts n) (λ i. absurd (l ((is.inserts_at n below).0 i).0)) (λ ni.
      split_bit (uses graph e n)
      (λ used. rw (ni, used, (is.replaces_at n below).1 (used, λ b. l b.0)) (omega arith))
      (λ unused. rw (ni, unused) (omega arith)))
  lazy_evaluates p is n below true l =
      split_bit (p.inserts n)
      (λ i. split_bit (uses graph e n)
      (λ used. rw (i, used, (is.replaces_at n below).1 (used, λ b. ((is.inserts_at n below).0 i).1 b.1)) (omega arith))
      (λ unused. rw (i, unused) (omega arith)))
      (λ ni. rw ni (split_bit (uses graph e n && not (p.replaces n)) (λ x. rw x (omega arith)) (λ x. rw x (omega arith))))
