-- What the answers of the path calls say: from where a Return is reached, and what is wanted.
use Rattle.std.proofs.Common.{◌≡◌, ◌↔◌, ◌<◌, ℕ, Bool, true, false, refl, sym, ◌∙◌, subst, List, [], ◌∷◌, length, slice_get}
use Rattle.flow_graph.specs.declared.nodes.Node.{Node}
use Rattle.flow_graph.specs.Paths.{Begins, Ends, IsPath, IsReturnAt, is_return}
use Rattle.motion_rewrite.specs.Placements.{Places}
use Rattle.path_laws.specs.Paths.{BornAhead, EndsBorn}
use Rattle.live_range.proofs.Ways.{head_below}
use Rattle.live_range.specs.Held.{InsertsNowhere, ReachesReturn}
use Rattle.live_range.specs.Wanted.{IsWanted}

module _ (nodes : List Node) where
  -- ---- Returns

  module _ (returns stop : ℕ → Bool) (are : (n : ℕ) → n < length nodes → returns n ≡ is_return (slice_get nodes n)) (none : (n : ℕ) → n < length nodes → stop n ≡ false) where
    reaches_on : (n : ℕ) (path : List ℕ) → IsPath nodes (n ∷ path) → EndsBorn returns stop (n ∷ path) → ReachesReturn nodes n
    reaches_on n [] is ends = record { later = []; is_path = is; last = n; ends = refl; returns = sym (are n is) ∙ ends }
    reaches_on n (s ∷ path) is ends =
        let more = reaches_on s path is.1 ends.1 in
        record { later = s ∷ more.later; is_path = (is.0, more.is_path); last = more.last; ends = more.ends; returns = more.returns }

    born_on : (last : ℕ) → IsReturnAt nodes last → (n : ℕ) (path : List ℕ) → IsPath nodes (n ∷ path) → Ends last (n ∷ path) → EndsBorn returns stop (n ∷ path)
    born_on last is_return_at n [] is ends = are n is ∙ subst (IsReturnAt nodes) (sym ends) is_return_at
    born_on last is_return_at n (s ∷ path) is ends = (none n (head_below nodes n (s ∷ path) is), born_on last is_return_at s path is.1 ends)

    -- with no stops a path ends where a bit is born, that of Returns, exactly where a Return is reached
    pub reaching_says : (n : ℕ) → BornAhead nodes returns stop n ↔ ReachesReturn nodes n
    reaching_says n = (
      λ ahead. to ahead.path ahead.is_path ahead.begins ahead.ends,
      λ reaches. record {
        path = n ∷ reaches.later;
        is_path = reaches.is_path;
        begins = refl;
        ends = born_on reaches.last reaches.returns n reaches.later reaches.is_path reaches.ends;
      },
    )
      where
        to : (path : List ℕ) → IsPath nodes path → Begins n path → EndsBorn returns stop path → ReachesReturn nodes n
        to [] is begins ends = absurd is
        to (k ∷ path) is begins ends = subst (ReachesReturn nodes) begins (reaches_on k path is ends)

  -- ---- what is wanted

  module _ (p : Places) (born : ℕ → Bool) (are : (n : ℕ) → n < length nodes → (born n ≡ true) ↔ ((p.replaces n ≡ true) × (p.inserts n ≡ false) × ReachesReturn nodes n)) where
    wanted_on : (n : ℕ) (path : List ℕ) → IsPath nodes (n ∷ path) → EndsBorn born p.inserts (n ∷ path) → IsWanted nodes p n
    wanted_on n [] is ends =
        let here = (are n is).0 ends in
        record { later = []; is_path = is; nowhere = (here.1, tt); last = n; ends = refl; replaced = here.0; returns = here.2 }
    wanted_on n (s ∷ path) is ends =
        let more = wanted_on s path is.1 ends.1 in
        record { later = s ∷ more.later; is_path = (is.0, more.is_path); nowhere = (ends.0, more.nowhere); last = more.last; ends = more.ends; replaced = more.replaced; returns = more.returns }

    ends_on : (last : ℕ) → p.replaces last ≡ true → ReachesReturn nodes last → (n : ℕ) (path : List ℕ) → IsPath nodes (n ∷ path) → InsertsNowhere p (n ∷ path) → Ends last (n ∷ path) → EndsBorn born p.inserts (n ∷ path)
    ends_on last replaced returns n [] is nowhere ends =
        (are n is).1 (subst (λ k. p.replaces k ≡ true) (sym ends) replaced, nowhere.0, subst (ReachesReturn nodes) (sym ends) returns)
    ends_on last replaced returns n (s ∷ path) is nowhere ends = (nowhere.0, ends_on last replaced returns s path is.1 nowhere.1 ends)

    -- stopped by insertions, a path ends where a bit is born, that of lasting replaced uses, exactly where it is wanted
    pub wanted_says : (n : ℕ) → BornAhead nodes born p.inserts n ↔ IsWanted nodes p n
    wanted_says n = (
      λ ahead. to ahead.path ahead.is_path ahead.begins ahead.ends,
      λ w. record {
        path = n ∷ w.later;
        is_path = w.is_path;
        begins = refl;
        ends = ends_on w.last w.replaced w.returns n w.later w.is_path w.nowhere w.ends;
      },
    )
      where
        to : (path : List ℕ) → IsPath nodes path → Begins n path → EndsBorn born p.inserts path → IsWanted nodes p n
        to [] is begins ends = absurd is
        to (k ∷ path) is begins ends = subst (IsWanted nodes p) begins (wanted_on k path is ends)
