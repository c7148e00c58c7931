-- What is wanted of the lazy placement is wanted of every optimal one.
use Rattle.std.proofs.Common.{◌≡◌, ◌≤◌, ℕ, true, false, inl, inr, List, [], ◌∷◌, sym, subst, arith}
use Rattle.mir_base.specs.declared.instructions.Expr.{Expr}
use Rattle.flow_graph.specs.Edges.{IsSplit}
use Rattle.flow_graph.specs.Graphs.{GraphShape, IsGraph}
use Rattle.flow_graph.specs.Paths.{Ends, IsPath}
use Rattle.motion_rewrite.specs.Expressions.{uses}
use Rattle.motion_rewrite.specs.Placements.{DownLaws, IsOptimal, Places, evaluations_at}
use Rattle.latest_place.specs.Lazy.{ComesToUse, IsDelayed, IsLatest, IsLazy}
use Rattle.latest_place.specs.Stable.{not_both, split_bit}
use Rattle.live_range.proofs.Tight.{evaluates_none, pending_delayed}
use Rattle.live_range.proofs.Ways.{head_below, reaches_along}
use Rattle.live_range.specs.Held.{InsertsNowhere, ReachesReturn}
use Rattle.live_range.specs.Wanted.{IsWanted}

module _ (graph : GraphShape) (is_graph : IsGraph graph.vars graph.received graph.nodes) (split : IsSplit graph.nodes) (e : Expr) (Down : ℕ → Type 0) (laws : DownLaws graph e Down)
    (p : Places) (is_lazy : IsLazy graph e Down p) (q : Places) (best : IsOptimal graph e Down q) where
  -- a path from n comes to a use that the lazy placement replaces, with no insertion of it on the way
  record Comes (n : ℕ) (path : List ℕ) : Type 0 where
    is_path : IsPath graph.nodes (n ∷ path)
    nowhere : InsertsNowhere p (n ∷ path)
    last : ℕ
    ends : Ends last (n ∷ path)
    replaced : p.replaces last ≡ true
    returns : ReachesReturn graph.nodes last

  -- the same from the next node
  abbrev next : (n s : ℕ) (path : List ℕ) → Comes n (s ∷ path) → Comes s path
  next n s path c = record { is_path = c.is_path.1; nowhere = c.nowhere.1; last = c.last; ends = c.ends; replaced = c.replaced; returns = c.returns }

  -- so at n the delay is over, and from n, with no latest node on the way, a use is come to that is not latest
  record IsPast (n : ℕ) (path : List ℕ) : Type 0 where
    not_latest : ¬ (IsLatest graph e Down n)
    late : ¬ (IsDelayed graph e Down n)
    comes : ComesToUse graph e Down (n ∷ path)

  past : (n : ℕ) (path : List ℕ) → Comes n path → IsPast n path
  past n [] c =
      let below = c.is_path in
      let here : p.replaces n ≡ true = subst (λ k. p.replaces k ≡ true) (sym c.ends) c.replaced in
      let used = ((is_lazy.replaces_at n below).0 here).0 in
      let not_latest : ¬ (IsLatest graph e Down n) = λ latest.
      not_both ((is_lazy.inserts_at n below).1 (latest, λ isolated. ((is_lazy.replaces_at n below).0 here).1 (latest, isolated))) c.nowhere.0 in
      record { not_latest = not_latest; late = λ delayed. not_latest (delayed, inl used); comes = (not_latest, used) }
  past n (s ∷ path) c =
      let after = past s path (next n s path c) in
      let below = head_below graph.nodes n (s ∷ path) c.is_path in
      let not_latest : ¬ (IsLatest graph e Down n) = λ latest.
      not_both ((is_lazy.inserts_at n below).1 (latest, λ isolated. isolated (s ∷ path) c.is_path after.comes)) c.nowhere.0 in
      record { not_latest = not_latest; late = λ delayed. not_latest (delayed, inr (s, c.is_path.0, after.late)); comes = (not_latest, after.comes) }

  -- a Return is reached from there
  reaches : (n : ℕ) (path : List ℕ) → Comes n path → ReachesReturn graph.nodes n
  reaches n path c = reaches_along graph.nodes n path c.last c.is_path c.ends c.returns

  -- so an optimal placement evaluates nothing there
  evaluates : (n : ℕ) (path : List ℕ) → Comes n path → evaluations_at graph e q n ≤ 0
  evaluates n path c =
      let at = past n path c in
      let reach = reaches n path c in
      evaluates_none graph is_graph split e Down laws p is_lazy q best n (head_below graph.nodes n path c.is_path) reach at.not_latest at.late
      (λ pending. pending_delayed graph is_graph split e Down laws p is_lazy q best n reach pending at.late)

  -- it inserts nothing
  inserts_none : (n : ℕ) (path : List ℕ) → Comes n path → q.inserts n ≡ false
  inserts_none n path c = split_bit (q.inserts n)
      (λ i. absurd (let h = evaluates n path c in let one : 1 ≤ evaluations_at graph e q n = rw i (omega arith) in omega (arith, h, one)))
      (λ ni. ni)

  -- and replaces a use
  replaces_use : (n : ℕ) (path : List ℕ) → Comes n path → uses graph e n ≡ true → q.replaces n ≡ true
  replaces_use n path c used = split_bit (q.replaces n)
      (λ r. r)
      (λ nr. absurd (let h = evaluates n path c in let one : 1 ≤ evaluations_at graph e q n = rw (used, nr) (omega arith) in omega (arith, h, one)))

  -- all along the path
  nowhere_too : (n : ℕ) (path : List ℕ) → Comes n path → InsertsNowhere q (n ∷ path)
  nowhere_too n [] c = (inserts_none n [] c, tt)
  nowhere_too n (s ∷ path) c = (inserts_none n (s ∷ path) c, nowhere_too s path (next n s path c))

  -- and at its end
  replaced_too : (n : ℕ) (path : List ℕ) → (c : Comes n path) → q.replaces c.last ≡ true
  replaced_too n [] c =
      let here : p.replaces n ≡ true = subst (λ k. p.replaces k ≡ true) (sym c.ends) c.replaced in
      subst (λ k. q.replaces k ≡ true) c.ends (replaces_use n [] c ((is_lazy.replaces_at n c.is_path).0 here).0)
  replaced_too n (s ∷ path) c = replaced_too s path (next n s path c)

  -- the theorem
  pub wanted_too : (n : ℕ) → IsWanted graph.nodes p n → IsWanted graph.nodes q n
  wanted_too n w =
      let c : Comes n w.later = record { is_path = w.is_path; nowhere = w.nowhere; last = w.last; ends = w.ends; replaced = w.replaced; returns = w.returns } in
      record { later = w.later; is_path = w.is_path; nowhere = nowhere_too n w.later c; last = w.last; ends = w.ends; replaced = replaced_too n w.later c; returns = w.returns }
