-- What comes past the nodes of a list, one after the other, and the first node of a list of which a test holds.
use Rattle.std.proofs.Common.{◌≡◌, ◌⊎◌, ℕ, zero, suc, ◌<◌, ◌≤◌, ◌+◌, ◌&&◌, not, Bool, true, false, if◌then◌else◌, List, [], ◌∷◌, take, length, slice_get, Some, sym, ap, inl, inr, ◌∙◌, arith, true≢false}
use Rattle.std.proofs.lemmas.Bool.{and_parts, cases_Bool, cases_eq, cases_lt, not-true, or_cases, or_left, or_right}
use Rattle.flow_graph.specs.ListLaws.{some_at}
use Rattle.path_laws.specs.Blockwise.{passed_all}
use Rattle.path_laws.specs.BlockwiseLaws.{passed_next}
use Rattle.sink_code.specs.BlockPlaces.{first_where}

-- ---- the first node of which a test holds

-- the test holds of the node at this index of the list, where there is one, and of none before it
pub record IsFirstIn (test : ℕ → Bool) (list : List ℕ) (at : ℕ) : Type 0 where
  pub few : at ≤ length list
  pub none : (i n : ℕ) → i < at → slice_get list i ≡ Some n → test n ≡ false
  pub holds : (n : ℕ) → slice_get list at ≡ Some n → test n ≡ true

-- where the first of a list has an index, that of the first of which the test holds
pub first_in : (test : ℕ → Bool) (index : ℕ) (list : List ℕ) → (k : ℕ) × (first_where test index list ≡ index + k) × IsFirstIn test list k
first_in test index [] = (0, omega arith, record { few = omega arith; none = λ i n lt e. absurd (omega (arith, lt)); holds = λ n e. cc })
first_in test index (m ∷ list) = elim (cases_Bool (test m)) [
  | inl on ↦ (
    0,
    ap (λ b. if b then index else first_where test (suc index) list) on ∙ (let same : index ≡ index + 0 = omega arith in same),
    record { few = omega arith; none = λ i n lt e. absurd (omega (arith, lt)); holds = λ n e. (let same : m ≡ n = cc in ap test (sym same) ∙ on) },
  )
  | inr off ↦
      let rest = first_in test (suc index) list in
      let at : first_where test (suc index) list ≡ suc index + rest.0 = rest.1 in (
        suc rest.0,
        ap (λ b. if b then index else first_where test (suc index) list) off ∙ at ∙ (let same : suc index + rest.0 ≡ index + suc rest.0 = omega arith in same),
        record { few = (let few = rest.2.few in omega (arith, few)); none = none off rest.0 rest.2; holds = λ n e. rest.2.holds n e },
      )
]
  where
    none : test m ≡ false → (k : ℕ) → IsFirstIn test list k → (i n : ℕ) → i < suc k → slice_get (m ∷ list) i ≡ Some n → test n ≡ false
    none off k first zero n lt e = let same : m ≡ n = cc in ap test (sym same) ∙ off
    none off k first (suc i) n lt e = first.none i n (omega (arith, lt)) e

-- there is one such index
pub one_first : (test : ℕ → Bool) (list : List ℕ) (i j : ℕ) → IsFirstIn test list i → IsFirstIn test list j → i ≡ j
one_first test list i j a b = elim (cases_lt i j) [
  | inl lt ↦ (let some = some_at list i (let few = b.few in omega (arith, lt, few)) in absurd (true≢false (sym (a.holds some.0 some.1) ∙ b.none i some.0 lt some.1)))
  | inr ge ↦ elim (cases_lt j i) [
    | inl gt ↦ (let some = some_at list j (let few = a.few in omega (arith, gt, few)) in absurd (true≢false (sym (b.holds some.0 some.1) ∙ a.none j some.0 gt some.1)))
    | inr le ↦ omega (arith, ge, le)
  ]
]

-- ---- what comes to an index of a list

module _ (seed block : ℕ → Bool) (list : List ℕ) (x : Bool) where
  -- what comes past the nodes before an index
  abbrev Comes : ℕ → Type 0
  Comes i = passed_all seed block x (take i list) ≡ true

  -- a seed comes past its node
  pub seed_comes : (i n : ℕ) → slice_get list i ≡ Some n → seed n ≡ true → Comes (suc i)
  seed_comes i n e on = passed_next seed block list i n x e ∙ or_left (seed n) (passed_all seed block x (take i list) && not (block n)) on

  -- and what comes to a node that does not block it
  pub passes_on : (i n : ℕ) → slice_get list i ≡ Some n → block n ≡ false → Comes i → Comes (suc i)
  passes_on i n e free comes =
      let here : (passed_all seed block x (take i list) && not (block n)) ≡ true = ap (λ b. b && not (block n)) comes ∙ ap not free in
      passed_next seed block list i n x e ∙ or_right (seed n) (passed_all seed block x (take i list) && not (block n)) here

  -- so it comes past nodes of which none blocks it
  pub comes_on : (more i : ℕ) → i + more ≤ length list → ((k n : ℕ) → i ≤ k → k < i + more → slice_get list k ≡ Some n → block n ≡ false) → Comes i → Comes (i + more)
  comes_on zero i few free comes = let same : i ≡ i + 0 = omega arith in ap (λ k. passed_all seed block x (take k list)) (sym same) ∙ comes
  comes_on (suc more) i few free comes =
      let some = some_at list i (omega (arith, few)) in
      let next = passes_on i some.0 some.1 (free i some.0 (omega arith) (omega arith) some.1) comes in
      let same : i + suc more ≡ suc i + more = omega arith in
      ap (λ k. passed_all seed block x (take k list)) same ∙ comes_on more (suc i) (omega (arith, few)) (λ k n low high e. free k n (omega (arith, low)) (omega (arith, high)) e) next

  -- a seed at an index, after which no node blocks before a later index
  pub record SeedAt (to : ℕ) : Type 0 where
    pub at : ℕ
    pub node : ℕ
    pub before : at < to
    pub listed : slice_get list at ≡ Some node
    pub seeded : seed node ≡ true
    pub free : (k n : ℕ) → at < k → k < to → slice_get list k ≡ Some n → block n ≡ false

  -- what comes to an index came from a seed, or to the first node, and no node blocks it on the way
  pub came_in : (i : ℕ) → i ≤ length list → Comes i → SeedAt i ⊎ ((x ≡ true) × ((k n : ℕ) → k < i → slice_get list k ≡ Some n → block n ≡ false))
  came_in zero few comes = inr (comes, λ k n lt e. absurd (omega (arith, lt)))
  came_in (suc i) few comes =
      let some = some_at list i (omega (arith, few)) in
      let n = some.0 in
      elim (or_cases (seed n) (passed_all seed block x (take i list) && not (block n)) (sym (passed_next seed block list i n x some.1) ∙ comes)) [
        | inl on ↦ inl (record { at = i; node = n; before = omega arith; listed = some.1; seeded = on; free = λ k m low high e. absurd (omega (arith, low, high)) })
        | inr came ↦
            let parts = and_parts (passed_all seed block x (take i list)) (not (block n)) came in
            let free = not-true (block n) parts.1 in
            elim (came_in i (omega (arith, few)) parts.0) [
              | inl from ↦ inl (record { at = from.at; node = from.node; before = (let lt = from.before in omega (arith, lt)); listed = from.listed; seeded = from.seeded; free = later free some.1 (λ k m low lt e. from.free k m low lt e) })
              | inr from ↦ inr (from.0, λ k m lt e. last free some.1 (λ j l lt' e'. from.1 j l lt' e') k m lt e)
            ]
      ]
    where
      last : {n i : ℕ} → block n ≡ false → slice_get list i ≡ Some n → ((k m : ℕ) → k < i → slice_get list k ≡ Some m → block m ≡ false) → (k m : ℕ) → k < suc i → slice_get list k ≡ Some m → block m ≡ false
      last {n} {i} free at before k m lt e = elim (cases_eq k i) [
        | inl same ↦ (let both : Some n ≡ Some m = sym at ∙ ap (slice_get list) (sym same) ∙ e in let is : n ≡ m = cc in ap block (sym is) ∙ free)
        | inr differ ↦ before k m (omega (arith, lt, differ)) e
      ]

      later : {n i : ℕ} → block n ≡ false → slice_get list i ≡ Some n → {low : ℕ} → ((k m : ℕ) → low < k → k < i → slice_get list k ≡ Some m → block m ≡ false) → (k m : ℕ) → low < k → k < suc i → slice_get list k ≡ Some m → block m ≡ false
      later {n} {i} free at {low} before k m above lt e = elim (cases_eq k i) [
        | inl same ↦ (let both : Some n ≡ Some m = sym at ∙ ap (slice_get list) (sym same) ∙ e in let is : n ≡ m = cc in ap block (sym is) ∙ free)
        | inr differ ↦ before k m above (omega (arith, lt, differ)) e
      ]
