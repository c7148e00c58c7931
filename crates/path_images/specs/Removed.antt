-- The removal of some dead assignments: an image of the graph in which each node stays where it is.
use Rattle.std.proofs.Common.{◌≡◌, ℕ, Bool, true, false, if◌then◌else◌, List, [], ◌∷◌, ◌++◌, flat_map, inl, inr, refl, sym, ap, ◌∙◌, subst}
use Rattle.std.proofs.lemmas.Bool.{cases_Bool, true≢false}
use Rattle.path_images.specs.Ends.{IsEndOf, latest, latest_end, latest_here, latest_past}
use Rattle.path_images.specs.Images.{Acts, Ask, BothFrom, IsImage, Reads, Sets, from_behind}

module _ (P : Type 0) (Walk : List ℕ → Type 0) (does : Ask P → ℕ → Bool) (firm dead : ℕ → Bool) where
  abbrev pub does' : Ask P → ℕ → Bool
  does' q n = if dead n then false else does q n

  abbrev pub alone : ℕ → List ℕ
  alone n = n ∷ []

  -- what goes is not firm, and nothing reads what it assigns
  pub record IsOneRemoval : Type 0 where
    pub shorter : (f : List ℕ) (n : ℕ) (p : List ℕ) → Walk (f ++ (n ∷ p)) → Walk (n ∷ p)
    pub firm_stays : (n : ℕ) → firm n ≡ true → dead n ≡ false
    pub unread : (k d y : ℕ) (path before : List ℕ) → Walk (k ∷ path) → does (Reads y) k ≡ true → latest (does (Sets y)) path ≡ d ∷ before → dead d ≡ true → ⊥
    pub assigns : (n : ℕ) → Acts P Walk does firm does n → firm n ≡ false → (y : ℕ) × (does (Sets y) n ≡ true)

  pub lift_alone : (path : List ℕ) → flat_map alone path ≡ path
  lift_alone [] = refl
  lift_alone (n ∷ path) = ap (λ l. n ∷ l) (lift_alone path)

  pub kept_alike : (n : ℕ) → dead n ≡ false → (q : Ask P) → does' q n ≡ does q n
  kept_alike n not q = ap (λ b. (if b then false else does q n)) not

  dead_none : (n : ℕ) → dead n ≡ true → (q : Ask P) → does' q n ≡ false
  dead_none n is q = ap (λ b. (if b then false else does q n)) is

  -- a node that does something is kept
  pub doing_kept : (n : ℕ) (q : Ask P) → does' q n ≡ true → dead n ≡ false
  doing_kept n q is = elim (cases_Bool (dead n)) [
    | inl gone ↦ absurd (true≢false (sym is ∙ dead_none n gone q))
    | inr kept ↦ kept
  ]

  module _ (remove : IsOneRemoval) where
    -- where the last one that assigns y stays, it is the last one
    last_kept : (y : ℕ) (path : List ℕ)
        → ((d : ℕ) (before : List ℕ) → latest (does (Sets y)) path ≡ d ∷ before → dead d ≡ false)
        → latest (does' (Sets y)) path ≡ latest (does (Sets y)) path
    last_kept y [] kept = refl
    last_kept y (n ∷ path) kept = elim (cases_Bool (does (Sets y) n)) [
      | inl sets ↦
          let here = latest_here (does (Sets y)) n path sets in
          latest_here (does' (Sets y)) n path (kept_alike n (kept n path here) (Sets y) ∙ sets) ∙ sym here
      | inr not ↦
          let past = latest_past (does (Sets y)) n path not in
          latest_past (does' (Sets y)) n path (elim (cases_Bool (dead n)) [ inl is ↦ dead_none n is (Sets y) | inr stays ↦ kept_alike n stays (Sets y) ∙ not ])
          ∙ last_kept y path (λ d before e. kept d before (past ∙ e)) ∙ sym past
    ]

    -- in any case it is the last one or one before it
    last_older : (y : ℕ) (path : List ℕ) → IsEndOf (latest (does' (Sets y)) path) (latest (does (Sets y)) path)
    last_older y [] = ([], refl)
    last_older y (n ∷ path) = elim (cases_Bool (does (Sets y) n)) [
      | inl sets ↦ subst (IsEndOf (latest (does' (Sets y)) (n ∷ path))) (sym (latest_here (does (Sets y)) n path sets)) (latest_end (does' (Sets y)) (n ∷ path))
      | inr not ↦
          let gone : does' (Sets y) n ≡ false = elim (cases_Bool (dead n)) [ inl is ↦ dead_none n is (Sets y) | inr stays ↦ kept_alike n stays (Sets y) ∙ not ] in
          subst (λ l. IsEndOf l (latest (does (Sets y)) (n ∷ path))) (sym (latest_past (does' (Sets y)) n path gone))
          (subst (IsEndOf (latest (does' (Sets y)) path)) (sym (latest_past (does (Sets y)) n path not)) (last_older y path))
    ]

    at_walk : (path : List ℕ) (k : ℕ) (rest : List ℕ) → IsEndOf (k ∷ rest) (flat_map alone path) → IsEndOf (k ∷ rest) path
    at_walk path k rest at = subst (IsEndOf (k ∷ rest)) (lift_alone path) at

    acts_kept : (k : ℕ) → Acts P Walk does firm does' k → dead k ≡ false
    acts_kept k acts = elim acts.1 [ inl r ↦ doing_kept k (Reads acts.0) r | inr w ↦ doing_kept k (Sets acts.0) w ]

    -- a removal makes an image
    pub removed_image : IsImage P Walk does firm alone does' (λ l. l)
    removed_image = record {
      none = refl;
      itself = λ n. ([], refl);
      origin = λ path k rest walk at acts. record { at = at_walk path k rest at; node = k; before = rest; is = refl; alike = kept_alike k (acts_kept k acts); firm_same = refl };
      read = λ path k rest y walk at reads.
          (let low = at_walk path k rest at in
          let w = remove.shorter low.0 k rest (subst Walk low.1 walk) in
          let reads_old : does (Reads y) k ≡ true = sym (kept_alike k (doing_kept k (Reads y) reads) (Reads y)) ∙ reads in
          last_kept y rest (λ d before e. stays d (λ gone. remove.unread k d y rest before w reads_old e gone)));
      wrote = λ path k rest y walk at sets. last_older y rest;
      joins = λ b b' e s k d walk walk' at acts. behind k d b b';
      assignment = λ k acts not.
          (let kept = acts_kept k acts in
          let s = remove.assigns k (acts.0, elim acts.1 [ inl r ↦ inl (sym (kept_alike k kept (Reads acts.0)) ∙ r) | inr w ↦ inr (sym (kept_alike k kept (Sets acts.0)) ∙ w) ]) not in
          (s.0, kept_alike k kept (Sets s.0) ∙ s.1));
      firm_alike = λ n is q. kept_alike n (remove.firm_stays n is) q;
      fixed = λ path k rest walk at acts is. ([], ap (λ l. k ∷ l) (lift_alone rest));
    }
      where
        stays : (d : ℕ) → (dead d ≡ true → ⊥) → dead d ≡ false
        stays d none = elim (cases_Bool (dead d)) [
          | inl gone ↦ absurd (none gone)
          | inr kept ↦ kept
        ]

        behind : (k : ℕ) (d b b' : List ℕ) → BothFrom P Walk does firm b b' ((k ∷ d) ++ flat_map alone b) ((k ∷ d) ++ flat_map alone b')
        behind k d b b' = from_behind k d (ap (λ l. (k ∷ d) ++ l) (lift_alone b)) (ap (λ l. (k ∷ d) ++ l) (lift_alone b'))

    -- what is read stays
    pub read_stays : (k m y : ℕ) (before rest : List ℕ) → Walk (k ∷ before) → does (Reads y) k ≡ true
        → latest (does (Sets y)) before ≡ m ∷ rest → (q : Ask P) → does' q m ≡ does q m
    read_stays k m y before rest walk reads last q = elim (cases_Bool (dead m)) [
      | inl gone ↦ absurd (remove.unread k m y before rest walk reads last gone)
      | inr kept ↦ kept_alike m kept q
    ]
