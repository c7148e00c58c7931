-- Ways of a bit, as paths.
use Rattle.std.proofs.Common.{◌≡◌, ◌≢◌, ℕ, ◌<◌, ◌⊎◌, Bool, true, false, not, ◌||◌, ◌&&◌, List, [], ◌∷◌, length, slice_get, eqb, refl, sym, subst, inl, inr, ◌∙◌}
use Rattle.std.proofs.Math.Bool.{or-true}
use Rattle.std.proofs.lemmas.Bool.{and_parts, cases_Bool, eqb-true, not-true, or_cases}
use Rattle.flow_graph.specs.declared.nodes.Node.{Node}
use Rattle.flow_graph.specs.Graphs.{Reached}
use Rattle.flow_graph.specs.PathLaws.{reached_trace}
use Rattle.flow_graph.specs.Paths.{Begins, HasEdge, IsPath, Trace, from_start, goes_on, is_return}
use Rattle.flow_graph.specs.BoundLaws.{slot_within}
use Rattle.path_laws.specs.Leads.{Leads, at_seed, one_more, steps_of}
use Rattle.path_laws.specs.Says.{either_says}
use Rattle.path_laws.specs.Paths.{BornAfter, BornAhead, BornBefore, EndsBorn, EndsWell, Meets, Since}

-- ---- some path from a node

module _ (nodes : List Node) (born stop : ℕ → Bool) where
  longer : (m n : ℕ) → HasEdge nodes m n → stop m ≡ false → BornAhead nodes born stop n → BornAhead nodes born stop m
  longer m n edge free s = lengthen s.path s.is_path s.begins s.ends
    where
      lengthen : (path : List ℕ) → IsPath nodes path → Begins n path → EndsBorn born stop path → BornAhead nodes born stop m
      lengthen [] p b e = absurd p
      lengthen (x ∷ path) p b e = record { path = m ∷ x ∷ path; is_path = (rw b edge, p); begins = refl; ends = (free, e) }

  pub ahead_from_leads : ((m k : ℕ) → HasEdge nodes m k → k < length nodes) → (n : ℕ) → n < length nodes → Leads (steps_of true nodes) born stop n → BornAhead nodes born stop n
  ahead_from_leads within n h (at_seed k seed) = record { path = n ∷ []; is_path = h; begins = refl; ends = seed }
  ahead_from_leads within n h (one_more m k step free rest) = longer n k step free (ahead_from_leads within k (within n k step) rest)

  pub leads_from_ahead : (path : List ℕ) (n : ℕ) → IsPath nodes path → Begins n path → EndsBorn born stop path → Leads (steps_of true nodes) born stop n
  leads_from_ahead [] n p b e = absurd p
  leads_from_ahead (x ∷ []) n p b e = rw (← b) (at_seed x e)
  leads_from_ahead (x ∷ y ∷ path) n p b e = rw (← b) (one_more x y p.0 e.0 (leads_from_ahead (y ∷ path) y p.1 refl e.1))

-- ---- every path from a node

-- the complement is seeded where a path may end with no birth, and barred where it meets one. A stop needs no bar:
-- with no birth it is a seed
module _ (nodes : List Node) (born stop seed : ℕ → Bool)
    (seed_is : (n : ℕ) → n < length nodes → seed n ≡ ((stop n || is_return (slice_get nodes n)) && not (born n))) where
  -- no node of the path has the bit born
  abbrev Misses : List ℕ → Type 0
  Misses [] = Unit {0}
  Misses (n ∷ path) = (born n ≡ false) × Misses path

  meets_or_misses : (path : List ℕ) → Meets born path ⊎ Misses path
  meets_or_misses [] = inr tt
  meets_or_misses (n ∷ path) = elim (cases_Bool (born n)) as (λ _. Meets born (n ∷ path) ⊎ Misses (n ∷ path)) [
    | inl on ↦ inl (inl on)
    | inr off ↦ elim (meets_or_misses path) as (λ _. Meets born (n ∷ path) ⊎ Misses (n ∷ path)) [ inl later ↦ inl (inr later) | inr never ↦ inr (off, never) ]
  ]

  not_both : (path : List ℕ) → Meets born path → Misses path → ⊥
  not_both [] met missed = met
  not_both (n ∷ path) (inl on) missed = let off : born n ≡ false = missed.0 in absurd (cc)
  not_both (n ∷ path) (inr later) missed = not_both path later missed.1

  record Missing (n : ℕ) : Type 0 where
    path : List ℕ
    is_path : IsPath nodes path
    begins : Begins n path
    ends : EndsWell nodes stop path
    misses : Misses path

  miss_longer : (m n : ℕ) → HasEdge nodes m n → born m ≡ false → stop m ≡ false → Missing n → Missing m
  miss_longer m n edge unborn free s = lengthen s.path s.is_path s.begins s.ends s.misses
    where
      lengthen : (path : List ℕ) → IsPath nodes path → Begins n path → EndsWell nodes stop path → Misses path → Missing m
      lengthen [] p b e q = absurd p
      lengthen (x ∷ path) p b e q = record { path = m ∷ x ∷ path; is_path = (rw b edge, p); begins = refl; ends = (free, e); misses = (unborn, q) }

  missing_from_leads : ((m k : ℕ) → HasEdge nodes m k → k < length nodes) → (n : ℕ) → n < length nodes → Leads (steps_of true nodes) seed born n → Missing n
  missing_from_leads within n h (at_seed k is) =
      let parts = and_parts (stop n || is_return (slice_get nodes n)) (not (born n)) (sym (seed_is n h) ∙ is) in
      record { path = n ∷ []; is_path = h; begins = refl; ends = or_cases (stop n) (is_return (slice_get nodes n)) parts.0; misses = (not-true (born n) parts.1, tt) }
  missing_from_leads within n h (one_more m k step free rest) = elim (cases_Bool (stop n)) as (λ _. Missing n) [
    | inl stopped ↦ record { path = n ∷ []; is_path = h; begins = refl; ends = inl stopped; misses = (free, tt) }
    | inr on ↦ miss_longer n k step free on (missing_from_leads within k (within n k step) rest)
  ]

  leads_from_missing : (path : List ℕ) (n : ℕ) → IsPath nodes path → Begins n path → EndsWell nodes stop path → Misses path → Leads (steps_of true nodes) seed born n
  leads_from_missing [] n p b e q = absurd p
  leads_from_missing (x ∷ []) n p b e q = rw (← b) (at_seed x (seed_is x p ∙ rw ((either_says (stop x) (is_return (slice_get nodes x))).1 e, q.0) refl))
  leads_from_missing (x ∷ y ∷ path) n p b e q = rw (← b) (one_more x y p.0 q.0 (leads_from_missing (y ∷ path) y p.1 refl e.1 q.1))

  pub after_from_none : (n : ℕ) → (Leads (steps_of true nodes) seed born n → ⊥) → BornAfter nodes born stop n
  after_from_none n none path p b e = elim (meets_or_misses path) as (λ _. Meets born path) [
    | inl met ↦ met
    | inr missed ↦ absurd (none (leads_from_missing path n p b e missed))
  ]

  pub none_from_after : ((m k : ℕ) → HasEdge nodes m k → k < length nodes) → (n : ℕ) → n < length nodes → BornAfter nodes born stop n → Leads (steps_of true nodes) seed born n → ⊥
  none_from_after within n h all leads = let m = missing_from_leads within n h leads in not_both m.path (all m.path m.is_path m.begins m.ends) m.misses

-- ---- every path to a node

-- the complement, after each node: seeded at Start and where the bit is stopped, with no birth there, and barred where
-- it is born
module _ (nodes : List Node) (born stop seed : ℕ → Bool) (seed_is : (n : ℕ) → n < length nodes → seed n ≡ ((stop n || eqb n 0) && not (born n))) where
  -- after these nodes the bit is not held
  abbrev Unheld : List ℕ → Type 0
  Unheld [] = Unit {0}
  Unheld (m ∷ before) = (born m ≡ false) × ((stop m ≡ true) ⊎ Unheld before)

  since_or_unheld : (before : List ℕ) → Since born stop before ⊎ Unheld before
  since_or_unheld [] = inr tt
  since_or_unheld (m ∷ before) = elim (cases_Bool (born m)) as (λ _. Since born stop (m ∷ before) ⊎ Unheld (m ∷ before)) [
    | inl on ↦ inl (inl on)
    | inr off ↦ elim (cases_Bool (stop m)) as (λ _. Since born stop (m ∷ before) ⊎ Unheld (m ∷ before)) [
      | inl stopped ↦ inr (off, inl stopped)
      | inr free ↦ elim (since_or_unheld before) as (λ _. Since born stop (m ∷ before) ⊎ Unheld (m ∷ before)) [ inl since ↦ inl (inr (free, since)) | inr unheld ↦ inr (off, inr unheld) ]
    ]
  ]

  not_held : (before : List ℕ) → Since born stop before → Unheld before → ⊥
  not_held [] since unheld = since
  not_held (m ∷ before) (inl on) unheld = let off : born m ≡ false = unheld.0 in absurd (cc)
  not_held (m ∷ before) (inr later) (off, inl stopped) = let free : stop m ≡ false = later.0 in absurd (cc)
  not_held (m ∷ before) (inr later) (off, inr unheld) = not_held before later.1 unheld

  pub trace_from_leads : ((k : ℕ) → k < length nodes → Reached nodes k) → (m : ℕ) → m < length nodes → Leads (steps_of false nodes) seed born m → (before : List ℕ) × Trace nodes m before × Unheld (m ∷ before)
  trace_from_leads reached m h (at_seed k is) =
      let parts = and_parts (stop m || eqb m 0) (not (born m)) (sym (seed_is m h) ∙ is) in
      let off = not-true (born m) parts.1 in
      elim (or_cases (stop m) (eqb m 0) parts.0) as (λ _. (before : List ℕ) × Trace nodes m before × Unheld (m ∷ before)) [
        | inl stopped ↦ let trace = reached_trace nodes m (reached m h) in (trace.0, trace.1, (off, inl stopped))
        | inr start ↦ ([], subst (λ k. Trace nodes k []) (sym (eqb-true m 0 start)) from_start, (off, inr tt))
      ]
  trace_from_leads reached m h (one_more k p step free rest) =
      let t = trace_from_leads reached p (slot_within nodes p step.0 m step.1) rest in
      (p ∷ t.0, goes_on p m t.0 t.1 step, (free, inr t.2))

  pub leads_from_trace : (m : ℕ) (before : List ℕ) → m < length nodes → Trace nodes m before → Unheld (m ∷ before) → Leads (steps_of false nodes) seed born m
  leads_from_trace m before h from_start (off, rest) = at_seed m (seed_is m h ∙ rw (off, or-true (stop m)) refl)
  leads_from_trace m before h (goes_on p k earlier trace step) (off, inl stopped) = at_seed m (seed_is m h ∙ rw (off, stopped) refl)
  leads_from_trace m before h (goes_on p k earlier trace step) (off, inr unheld) = one_more m p step off (leads_from_trace p earlier (slot_within nodes p step.0 m step.1) trace unheld)

  pub before_from_none : (n : ℕ) → n ≢ 0 → ((m : ℕ) → HasEdge nodes m n → Leads (steps_of false nodes) seed born m → ⊥) → BornBefore nodes born stop n
  before_from_none n apart none before from_start = absurd (apart refl)
  before_from_none n apart none before (goes_on m k earlier trace step) = elim (since_or_unheld (m ∷ earlier)) as (λ _. Since born stop (m ∷ earlier)) [
    | inl since ↦ since
    | inr unheld ↦ absurd (none m step (leads_from_trace m earlier (slot_within nodes m step.0 n step.1) trace unheld))
  ]

  pub none_from_before : ((k : ℕ) → k < length nodes → Reached nodes k) → (n : ℕ) → BornBefore nodes born stop n → (m : ℕ) → HasEdge nodes m n → Leads (steps_of false nodes) seed born m → ⊥
  none_from_before reached n all m step leads =
      let t = trace_from_leads reached m (slot_within nodes m step.0 n step.1) leads in
      not_held (m ∷ t.0) (all (m ∷ t.0) (goes_on m n t.0 t.1 step)) t.2

  pub not_at_start : BornBefore nodes born stop 0 → ⊥
  not_at_start all = all [] from_start
