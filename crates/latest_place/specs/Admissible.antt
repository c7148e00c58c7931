-- The lazy placement is admissible. For proofs only, here and above.
use Rattle.std.proofs.Common.{◌≡◌, ◌<◌, ◌⊎◌, ℕ, Bool, true, false, inl, inr, List, [], ◌∷◌, length}
use Rattle.mir_base.specs.declared.instructions.Expr.{Expr}
use Rattle.flow_graph.specs.Graphs.{GraphShape}
use Rattle.flow_graph.specs.Paths.{HasEdge, IsPath, Trace, from_start, goes_on}
use Rattle.motion_rewrite.specs.Expressions.{kills, uses}
use Rattle.motion_rewrite.specs.PlacementLaws.{killing_not_down}
use Rattle.motion_rewrite.specs.Placements.{DownLaws, IsAdmissible, IsAvailableAfter, IsSafe, Places, ReachesAlong}
use Rattle.latest_place.specs.Lazy.{ComesToUse, IsDelayed, IsLatest, IsLazy}
use Rattle.latest_place.specs.DelayLaws.{delayed_down}
use Rattle.latest_place.specs.Stable.{Stable, stable_of_dec, dec_is, dec_or, dec_both, stable_cases, split_bit}
use Rattle.latest_place.specs.SplitFacts.{SplitFacts, trace_below}

-- that a good node reaches along a path can be tested
pub dec_reaches : (good bad : ℕ → Bool) (before : List ℕ) → Dec (ReachesAlong (λ m. good m ≡ true) bad before)
dec_reaches good bad [] = no (λ h. h)
dec_reaches good bad (m ∷ before) = dec_both (dec_is (bad m) false) (dec_or (dec_is (good m) true) (dec_reaches good bad before))

-- a path leaves n and comes, through nodes that are not latest, to a use that is not latest
abbrev pub IsNeeded : GraphShape → Expr → (ℕ → Type 0) → ℕ → Type 0
IsNeeded graph e Down n = (path : List ℕ) × IsPath graph.nodes (n ∷ path)
    × ComesToUse graph e Down path

module _ (graph : GraphShape) (facts : SplitFacts graph) (e : Expr) (Down : ℕ → Type 0) where
  -- by the use at a successor, or by what a successor needs
  pub needed_at_once : (n s : ℕ) → HasEdge graph.nodes n s → ¬ (IsLatest graph e Down s)
      → uses graph e s ≡ true → IsNeeded graph e Down n
  needed_at_once n s edge not_latest used = (s ∷ [], (edge, facts.targets_below n s edge), (not_latest, used))

  pub needed_later : (n s : ℕ) → HasEdge graph.nodes n s → ¬ (IsLatest graph e Down s)
      → IsNeeded graph e Down s → IsNeeded graph e Down n
  needed_later n s edge not_latest more = (s ∷ more.0, (edge, more.1), through more.0 more.2)
    where
      through : (path : List ℕ) → ComesToUse graph e Down path → ComesToUse graph e Down (s ∷ path)
      through [] comes = absurd comes
      through (k ∷ path) comes = (not_latest, comes)

  module _ (laws : DownLaws graph e Down) where
    -- Start is not down
    pub start_not_down : ¬ (Down 0)
    start_not_down = killing_not_down graph e Down laws 0 facts.start_below (facts.start_kills e) (facts.start_unused e)

    -- a use that is not latest, or a node from which one is reached through nodes that are not latest
    abbrev pub Ahead : ℕ → Type 0
    Ahead n = (uses graph e n ≡ true) ⊎ IsNeeded graph e Down n

    -- what stands before n and makes an insertion sure
    abbrev pub Behind : ℕ → List ℕ → Type 0
    Behind n before = (Down n × ¬ (IsDelayed graph e Down n)) ⊎ IsAvailableAfter graph e (λ m. uses graph e m ≡ true) before

    module _ (p : Places) (is : IsLazy graph e Down p) where
      -- so before a node that is not latest, with a use ahead of it, an insertion has made e available
      pub inserted_before : (n : ℕ) (before : List ℕ) → Trace graph.nodes n before
          → ¬ (IsLatest graph e Down n) → Ahead n → Behind n before
          → IsAvailableAfter graph e (λ m. p.inserts m ≡ true) before
      inserted_before n before from_start not_latest ahead behind = elim behind [ inl d ↦ absurd (start_not_down d.0) | inr s ↦ absurd s ]
      inserted_before n before (goes_on m n0 path t edge) not_latest ahead behind =
          stable (λ none.
          let from : kills graph e m ≡ false → Behind m path → ⊥ =
          λ keeps back. none (keeps, inr (inserted_before m path t (not_here none keeps) (inr needed) back)) in
          elim behind [
            | inl d ↦ split_bit (kills graph e m)
                (λ kill. d.1 (λ path' t'. inl (d.0, (m, edge, inl kill))))
                (λ keeps. d.1 (λ path' t'. inl (
                  d.0,
                  (
                    m,
                    edge,
                    inr (λ safe. elim safe [
                      | inl up ↦ from keeps (inr (up path t))
                      | inr down ↦ from keeps (inl (down, λ delayed. not_here none keeps (delayed, inr (n, edge, d.1))))
                    ]),
                  ),
                )))
            | inr s ↦ elim s.1 [
              | inl used ↦ from s.0 (inl (laws.used m (facts.sources_below m n edge) used, λ delayed. not_here none s.0 (delayed, inl used)))
              | inr more ↦ from s.0 (inr more)
            ]
          ])
        where
          stable : Stable (IsAvailableAfter graph e (λ k. p.inserts k ≡ true) (m ∷ path))
          stable = stable_of_dec (dec_reaches p.inserts (kills graph e) (m ∷ path))

          needed : IsNeeded graph e Down m
          needed = elim ahead [ inl used ↦ needed_at_once m n edge not_latest used | inr more ↦ needed_later m n edge not_latest more ]

          not_here : ¬ (IsAvailableAfter graph e (λ k. p.inserts k ≡ true) (m ∷ path))
              → kills graph e m ≡ false → ¬ (IsLatest graph e Down m)
          not_here none keeps latest =
              none (keeps, inl ((is.inserts_at m (facts.sources_below m n edge)).1 (latest, λ isolated. isolated needed.0 needed.1 needed.2)))

      -- the theorem
      pub lazy_admissible : IsAdmissible graph e Down p
      lazy_admissible = record { replaced_uses = λ n below r. ((is.replaces_at n below).0 r).0; safe = safe_at; available = available_at }
        where
          safe_at : (n : ℕ) → n < length graph.nodes → p.inserts n ≡ true → IsSafe graph e Down n
          safe_at n below i =
              let reach = facts.reached n below in
              inr (delayed_down graph e Down laws n reach.0 reach.1 (((is.inserts_at n below).0 i).0.0 reach.0 reach.1))

          available_at : (n : ℕ) (before : List ℕ) → p.replaces n ≡ true
              → Trace graph.nodes n before
              → (p.inserts n ≡ true) ⊎ IsAvailableAfter graph e (λ m. p.inserts m ≡ true) before
          available_at n before r t =
              let below = trace_below graph facts n before t in
              stable_cases (IsLatest graph e Down n) (stable_of_dec (dec_or (dec_is (p.inserts n) true) (dec_reaches p.inserts (kills graph e) before)))
              (λ latest. inl ((is.inserts_at n below).1 (latest, λ isolated. ((is.replaces_at n below).0 r).1 (latest, isolated))))
              (λ not_latest.
              let used = ((is.replaces_at n below).0 r).0 in
              inr (inserted_before n before t not_latest (inl used) (inl (laws.used n below used, λ delayed. not_latest (delayed, inl used)))))
