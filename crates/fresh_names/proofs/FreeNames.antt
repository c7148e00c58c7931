-- Names of temporaries: the walk over the numbers finds the least free ones.
use Rattle.std.proofs.Common.{◌≡◌, ◌⊎◌, ℕ, ◌+◌, ◌<◌, ◌≤◌, ◌^◌, ◌≢◌, List, [], ◌∷◌, ◌++◌, length, length-append, take, slice_get, codes, Contains, Some, refl, sym, ap, ◌∙◌, subst, inl, inr, append_assoc, arith}
use Rattle.std.proofs.lemmas.Bool.{cases_eq}
use Rattle.std.proofs.lemmas.List.{take-append-le, take_at}
use Rattle.std.proofs.lemmas.List.Elements.{Contains-append_left, Contains-append_right, Contains-append_cases, Contains-push}
use Rattle.std.proofs.lemmas.Option.{slice_get_within, slice_get-get_or}
use Rattle.mir_base.specs.DecimalLaws.{numbered_differ}
use Rattle.flow_graph.specs.ListLaws.{get_push}
use Rattle.fresh_names.specs.FreshNames.{AreTemporaryNames, IsNextName, temporary_name}

-- ---- spelling

-- different numbers make different names
number_one : (m n : ℕ) → m < 2 ^ 64 → n < 2 ^ 64 → temporary_name m ≡ temporary_name n → m ≡ n
number_one = numbered_differ (codes "h")

-- ---- the walk: the names so far, before the next number

-- the names so far are those of so many temporaries; each smaller number makes one of them or a name that is taken
pub record AreSoFar (vars : List (List ℕ)) (count number : ℕ) (names : List (List ℕ)) : Type 0 where
  pub positive : 1 ≤ number
  pub few : length names ≤ count
  pub are : AreTemporaryNames vars (length names) names
  pub covered : (s : ℕ) → 1 ≤ s → s < number → Contains (vars ++ names) (temporary_name s)
  pub made : (k : ℕ) (name : List ℕ) → slice_get names k ≡ Some name → (m : ℕ) × (m < number) × (name ≡ temporary_name m)

-- at the start
pub none_so_far : (vars : List (List ℕ)) (count : ℕ) (names : List (List ℕ)) → names ≡ [] → AreSoFar vars count 1 names
none_so_far vars count names is = rw is (record {
  positive = omega arith;
  few = omega arith;
  are = record { long = refl; each = λ k name at. cc };
  covered = λ s low high. absurd (omega (arith, low, high));
  made = λ k name at. cc;
})

-- a name that is taken is passed by
pub passed_by : (vars : List (List ℕ)) (count number : ℕ) (names new : List (List ℕ)) (name : List ℕ) → name ≡ temporary_name number → Contains vars name → new ≡ names
    → AreSoFar vars count number names → AreSoFar vars count (number + 1) new
passed_by vars count number names new name is taken same before = rw same (record {
  positive = omega arith;
  few = before.few;
  are = before.are;
  covered = λ s low high. elim (cases_eq s number) as (λ _. Contains (vars ++ names) (temporary_name s)) [
    | inl at ↦ rw at (Contains-append_left vars names (temporary_name number) (subst (Contains vars) is taken))
    | inr other ↦ before.covered s low (omega (arith, high, other))
  ];
  made = λ k name at. let m = before.made k name at in (m.0, (let low : m.0 < number = m.1 in omega arith), m.2);
})

-- one that is free is the next
pub one_more : (vars : List (List ℕ)) (count number : ℕ) (names new : List (List ℕ)) (name : List ℕ) → number < 2 ^ 64 → name ≡ temporary_name number → (Contains vars name → ⊥) → length names ≢ count
    → new ≡ names ++ name ∷ [] → AreSoFar vars count number names → AreSoFar vars count (number + 1) new
one_more vars count number names new name low is free unfilled put before = rw put (record {
  positive = omega arith;
  few = omega (arith, grown, before.few, unfilled);
  are = record { long = refl; each = each };
  covered = λ s s_low high. elim (cases_eq s number) as (λ _. Contains (vars ++ (names ++ name ∷ [])) (temporary_name s)) [
    | inl at ↦ rw (at, sym is) (Contains-append_right vars (names ++ name ∷ []) name (Contains-push names name))
    | inr other ↦ subst (λ l. Contains l (temporary_name s)) (append_assoc vars names (name ∷ [])) (Contains-append_left (vars ++ names) (name ∷ []) (temporary_name s) (before.covered s s_low (omega (arith, high, other))))
  ];
  made = made;
})
  where
    grown : length (names ++ name ∷ []) ≡ length names + 1
    grown = length-append names (name ∷ [])

    back : (k : ℕ) (other : List ℕ) → slice_get (names ++ name ∷ []) k ≡ Some other → (slice_get names k ≡ Some other) ⊎ ((k ≡ length names) × (name ≡ other))
    back k other at = get_push names name other k at

    made : (k : ℕ) (other : List ℕ) → slice_get (names ++ name ∷ []) k ≡ Some other → (m : ℕ) × (m < number + 1) × (other ≡ temporary_name m)
    made k other at = elim (back k other at) as (λ _. (m : ℕ) × (m < number + 1) × (other ≡ temporary_name m)) [
      | inl old ↦ let m = before.made k other old in (m.0, (let m_low : m.0 < number = m.1 in omega arith), m.2)
      | inr last ↦ (number, omega arith, sym last.1 ∙ is)
    ]

    fresh : Contains (vars ++ names) name → ⊥
    fresh there = elim (Contains-append_cases vars names name there) as (λ _. ⊥) [
      | inl var ↦ free var
      | inr old ↦
          let m = before.made old.0 name (slice_get-get_or names old.0 name old.1 ∙ ap Some old.2) in
          let m_low : m.0 < number = m.1 in
          let one : m.0 ≡ number = number_one m.0 number (omega (arith, m_low, low)) low (sym m.2 ∙ is) in
          omega (arith, m_low, one)
    ]

    next : IsNextName (vars ++ names) name
    next = record { number = number; positive = before.positive; spelled = is; fresh = fresh; least = before.covered }

    each : (k : ℕ) (other : List ℕ) → slice_get (names ++ name ∷ []) k ≡ Some other → IsNextName (vars ++ take k (names ++ name ∷ [])) other
    each k other at = elim (back k other at) as (λ _. IsNextName (vars ++ take k (names ++ name ∷ [])) other) [
      | inl old ↦ (let inside : k < length names = slice_get_within names k other old in rw (take-append-le k names (name ∷ []) (omega (arith, inside))) (before.are.each k other old))
      | inr last ↦ rw (last.0, ← last.1, take_at names (name ∷ []) (length names) refl) next
    ]
