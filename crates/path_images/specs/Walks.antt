-- Paths of the source, newest node first, and the way on along nodes that have one successor.
use Rattle.std.proofs.Common.{◌≡◌, ℕ, Bool, true, false, List, [], ◌∷◌, ◌++◌, length, flat_map, inl, inr, refl, sym, ap, ◌∙◌, subst, arith, append_assoc}
use Rattle.std.proofs.lemmas.Bool.{cases_lt, true≢false}
use Rattle.std.proofs.lemmas.List.Concat.{flat_map-append}
use Rattle.path_images.specs.Ends.{IsCons, IsEndOf, IsLonger, end_itself, end_through, ends_compare, longer_end, rest_of}

-- the way on along nodes that are not firm
abbrev pub IsLoose : (ℕ → Bool) → List ℕ → List ℕ → Type 0
IsLoose firm [] path = Unit {0}
IsLoose firm (n ∷ on) path = ((m : ℕ) (before : List ℕ) → on ++ path ≡ m ∷ before → firm m ≡ false)
    × IsLoose firm on path

-- it stands before the last node of the path, or at it
abbrev pub IsPlaced : (ℕ → List ℕ) → List ℕ → List ℕ → Type 0
IsPlaced over end path = (n : ℕ) (q : List ℕ) → path ≡ n ∷ q → IsLonger end (flat_map over q)

-- the part of the path up to where it stands
pub record Place (over : ℕ → List ℕ) (end path : List ℕ) : Type 0 where
  pub node : ℕ
  pub before : List ℕ
  pub part : IsEndOf (node ∷ before) path
  pub at : IsEndOf end (flat_map over (node ∷ before))
  pub placed : IsPlaced over end (node ∷ before)

-- what stands over a path stands at some place of it
pub place_of : (over : ℕ → List ℕ) (k : ℕ) (rest path : List ℕ) → IsEndOf (k ∷ rest) (flat_map over path) → Place over (k ∷ rest) path
place_of over k rest [] at = absurd (none at.0 at.1)
  where
    none : (f : List ℕ) → [] ≡ f ++ (k ∷ rest) → ⊥
    none [] e = let l = ap length e in omega (arith, l)
    none (n ∷ f) e = let l = ap length e in omega (arith, l)
place_of over k rest (n ∷ path) at = elim (cases_lt (length (flat_map over path)) (length (k ∷ rest))) [
  | inl less ↦ record {
    node = n;
    before = path;
    part = end_itself (n ∷ path);
    at = at;
    placed = λ m q e. subst (λ l. IsLonger (k ∷ rest) (flat_map over l)) (ap rest_of e) (longer_end (k ∷ rest) (flat_map over path) (flat_map over (n ∷ path)) at (over n, refl) less);
  }
  | inr ge ↦
      let r = place_of over k rest path (ends_compare (k ∷ rest) (flat_map over path) (flat_map over (n ∷ path)) at (over n, refl) ge) in
      record { node = r.node; before = r.before; part = end_through (r.node ∷ r.before) path (n ∷ path) r.part (n ∷ [], refl); at = r.at; placed = r.placed }
]

-- the oldest of a list
pub record Oldest (l : List ℕ) : Type 0 where
  pub front : List ℕ
  pub node : ℕ
  pub is : l ≡ front ++ (node ∷ [])

-- a list that is not empty has an oldest node
pub oldest : (n : ℕ) (l : List ℕ) → Oldest (n ∷ l)
oldest n [] = record { front = []; node = n; is = refl }
oldest n (m ∷ l) = let r = oldest m l in record { front = n ∷ r.front; node = r.node; is = ap (λ q. n ∷ q) r.is }

-- where the way on and another way on lead: along each other, as far as one of them goes
pub data Meeting (firm : ℕ → Bool) (on f p : List ℕ) : Type 0 where
  within : IsEndOf (on ++ p) (f ++ p) → Meeting firm on f p
  beyond : (more : List ℕ) → on ++ p ≡ more ++ (f ++ p) → IsLoose firm more (f ++ p)
      → Meeting firm on f p

-- two ways one after the other, without firm nodes, are one way without firm nodes
pub loose_append : (firm : ℕ → Bool) (b a p : List ℕ) → IsLoose firm b (a ++ p) → IsLoose firm a p → IsLoose firm (b ++ a) p
loose_append firm [] a p l m = m
loose_append firm (n ∷ b) a p l m = (λ k before e. l.0 k before (sym (append_assoc b a p) ∙ e), loose_append firm b a p l.1 m)

-- behind a firm node it does not lead
pub loose_stops : (firm : ℕ → Bool) (on path : List ℕ) (f : ℕ) (q : List ℕ) → path ≡ f ∷ q → firm f ≡ true → IsLoose firm on path → on ≡ []
loose_stops firm [] path f q e is l = refl
loose_stops firm (n ∷ []) path f q e is l = absurd (true≢false (sym is ∙ l.0 f q e))
loose_stops firm (n ∷ m ∷ on) path f q e is l = let r = ap length (loose_stops firm (m ∷ on) path f q e is l.1) in absurd (omega (arith, r))

module _ (Walk : List ℕ → Type 0) (firm : ℕ → Bool)
    (shorter : (f : List ℕ) (n : ℕ) (p : List ℕ) → Walk (f ++ (n ∷ p)) → Walk (n ∷ p))
    (single : (a c n : ℕ) (p : List ℕ) → Walk (a ∷ n ∷ p) → Walk (c ∷ n ∷ p) → firm n ≡ false → a ≡ c) where
  cons_of : (on : List ℕ) (n : ℕ) (q : List ℕ) → IsCons (on ++ (n ∷ q))
  cons_of [] n q = record { node = n; rest = q; is = refl }
  cons_of (m ∷ on) n q = record { node = m; rest = on ++ (n ∷ q); is = refl }

  pub along : (on f : List ℕ) (n : ℕ) (q : List ℕ) → IsLoose firm on (n ∷ q) → Walk (on ++ (n ∷ q)) → Walk (f ++ (n ∷ q)) → Meeting firm on f (n ∷ q)
  along [] f n q loose walk walk_f = within (f, refl)
  along (a ∷ on) f n q loose walk walk_f =
      let top = cons_of on n q in
      let walk_a : Walk (a ∷ top.node ∷ top.rest) = subst (λ l. Walk (a ∷ l)) top.is walk in
      elim (along on f n q loose.1 (subst Walk (sym top.is) (shorter (a ∷ []) top.node top.rest walk_a)) walk_f) [
        | within r ↦ by r.0 r.1
        | beyond more e l ↦ beyond (a ∷ more) (ap (λ q. a ∷ q) e) (λ m before h. loose.0 m before (e ∙ h), l)
      ]
    where
      by : (g : List ℕ) → f ++ (n ∷ q) ≡ g ++ (on ++ (n ∷ q)) → Meeting firm (a ∷ on) f (n ∷ q)
      by [] e = beyond (a ∷ []) (ap (λ l. a ∷ l) (sym e)) (λ m before h. loose.0 m before (sym e ∙ h), tt)
      by (c ∷ g) e =
          let top = cons_of on n q in
          let old = oldest c g in
          let whole : f ++ (n ∷ q) ≡ old.front ++ (old.node ∷ (on ++ (n ∷ q))) = e ∙ ap (λ l. l ++ (on ++ (n ∷ q))) old.is ∙ append_assoc old.front (old.node ∷ []) (on ++ (n ∷ q)) in
          let walk_c : Walk (old.node ∷ top.node ∷ top.rest) = subst (λ l. Walk (old.node ∷ l)) top.is (shorter old.front old.node (on ++ (n ∷ q)) (subst Walk whole walk_f)) in
          let same : a ≡ old.node = single a old.node top.node top.rest (subst (λ l. Walk (a ∷ l)) top.is walk) walk_c (loose.0 top.node top.rest top.is) in
          within (old.front, whole ∙ ap (λ m. old.front ++ (m ∷ (on ++ (n ∷ q)))) (sym same))

  -- of two ways on, both without firm nodes, the longer
  pub record Common (a b p : List ℕ) : Type 0 where
    pub on : List ℕ
    pub walk : Walk (on ++ p)
    pub loose : IsLoose firm on p
    pub one : IsEndOf (a ++ p) (on ++ p)
    pub other : IsEndOf (b ++ p) (on ++ p)

  pub common : (a b : List ℕ) (n : ℕ) (q : List ℕ) → IsLoose firm a (n ∷ q) → IsLoose firm b (n ∷ q)
      → Walk (a ++ (n ∷ q)) → Walk (b ++ (n ∷ q)) → Common a b (n ∷ q)
  common a b n q la lb wa wb = elim (along a b n q la wa wb) [
    | within e ↦ record { on = b; walk = wb; loose = lb; one = e; other = end_itself (b ++ (n ∷ q)) }
    | beyond more e l ↦ record { on = a; walk = wa; loose = la; one = end_itself (a ++ (n ∷ q)); other = (more, e) }
  ]

  -- a path with both, where one way on is without firm nodes
  pub record Both (a b : List ℕ) : Type 0 where
    pub path : List ℕ
    pub walk : Walk path
    pub one : IsEndOf a path
    pub other : IsEndOf b path

  pub both : (on f : List ℕ) (n : ℕ) (q : List ℕ) → IsLoose firm on (n ∷ q) → Walk (on ++ (n ∷ q)) → Walk (f ++ (n ∷ q)) → Both (on ++ (n ∷ q)) (f ++ (n ∷ q))
  both on f n q loose walk walk_f = elim (along on f n q loose walk walk_f) [
    | within e ↦ record { path = f ++ (n ∷ q); walk = walk_f; one = e; other = end_itself (f ++ (n ∷ q)) }
    | beyond more e l ↦ record { path = on ++ (n ∷ q); walk = walk; one = end_itself (on ++ (n ∷ q)); other = (more, e) }
  ]

-- what stands over a part of a path stands over the path
pub lift_end : (over : ℕ → List ℕ) (end a b : List ℕ) → IsEndOf a b → IsEndOf end (flat_map over a) → IsEndOf end (flat_map over b)
lift_end over end a b up at = end_through end (flat_map over a) (flat_map over b) at (flat_map over up.0, ap (flat_map over) up.1 ∙ flat_map-append over up.0 a)

-- the first node of the way on is not firm
pub loose_first : (firm : ℕ → Bool) (front : List ℕ) (a : ℕ) (path : List ℕ) (n : ℕ) (q : List ℕ) → path ≡ n ∷ q
    → IsLoose firm (front ++ (a ∷ [])) path → firm n ≡ false
loose_first firm [] a path n q e l = l.0 n q e
loose_first firm (m ∷ front) a path n q e l = loose_first firm front a path n q e l.1
