-- Lists ordered place by place by an order of their items, and ranked by the sum of the ranks of the items. Cited by
-- the ghost members of lattices in the crates above, and the laws by proofs only.
use Rattle.std.proofs.Common.{◌≡◌, ℕ, suc, ◌+◌, ◌<◌, ◌⊎◌, inl, inr, List, [], ◌∷◌, length, refl, ap, ◌∙◌, arith}

-- the lists are equally long, and each item of the first is below that of the second
abbrev pub Pointwise : {A : Type 0} → (A → A → Type 0) → List A → List A → Type 0
Pointwise below [] [] = Unit {0}
Pointwise below [] (y ∷ ys) = ⊥
Pointwise below (x ∷ xs) [] = ⊥
Pointwise below (x ∷ xs) (y ∷ ys) = below x y × Pointwise below xs ys

-- the sum of the ranks of the items
abbrev pub total_rank : {A : Type 0} → (A → ℕ) → List A → ℕ
total_rank rank [] = 0
total_rank rank (x ∷ xs) = rank x + total_rank rank xs

-- ---- it is an order where that of the items is one

module _ {A : Type 0} (below : A → A → Type 0) where
  -- each list is below itself where each item is
  pub pointwise_refl : ((x : A) → below x x) → (xs : List A) → Pointwise below xs xs
  pointwise_refl itself [] = tt
  pointwise_refl itself (x ∷ xs) = (itself x, pointwise_refl itself xs)

  -- the order of lists is transitive where that of the items is
  pub pointwise_trans : ((x y z : A) → below x y → below y z → below x z) → (xs ys zs : List A) → Pointwise below xs ys
      → Pointwise below ys zs → Pointwise below xs zs
  pointwise_trans through [] [] [] p q = tt
  pointwise_trans through [] [] (z ∷ zs) p q = absurd q
  pointwise_trans through [] (y ∷ ys) zs p q = absurd p
  pointwise_trans through (x ∷ xs) [] zs p q = absurd p
  pointwise_trans through (x ∷ xs) (y ∷ ys) [] p q = absurd q
  pointwise_trans through (x ∷ xs) (y ∷ ys) (z ∷ zs) p q =
      (through x y z p.0 q.0, pointwise_trans through xs ys zs p.1 q.1)

  -- antisymmetric
  pub pointwise_antisym : ((x y : A) → below x y → below y x → x ≡ y) → (xs ys : List A) → Pointwise below xs ys
      → Pointwise below ys xs → xs ≡ ys
  pointwise_antisym equal [] [] p q = refl
  pointwise_antisym equal [] (y ∷ ys) p q = absurd p
  pointwise_antisym equal (x ∷ xs) [] p q = absurd p
  pointwise_antisym equal (x ∷ xs) (y ∷ ys) p q =
      ap (λ z. z ∷ xs) (equal x y p.0 q.0) ∙ ap (λ zs. y ∷ zs) (pointwise_antisym equal xs ys p.1 q.1)

  -- only lists of one length are in order
  pub pointwise_length : (xs ys : List A) → Pointwise below xs ys → length xs ≡ length ys
  pointwise_length [] [] p = refl
  pointwise_length [] (y ∷ ys) p = absurd p
  pointwise_length (x ∷ xs) [] p = absurd p
  pointwise_length (x ∷ xs) (y ∷ ys) p = ap suc (pointwise_length xs ys p.1)

  -- the lists are equal, or the rank rises, where it is so of the items
  pub pointwise_rises : (rank : A → ℕ) → ((x y : A) → below x y → (x ≡ y) ⊎ (rank x < rank y)) → (xs ys : List A)
      → Pointwise below xs ys → (xs ≡ ys) ⊎ (total_rank rank xs < total_rank rank ys)
  pointwise_rises rank rises [] [] p = inl refl
  pointwise_rises rank rises [] (y ∷ ys) p = absurd p
  pointwise_rises rank rises (x ∷ xs) [] p = absurd p
  pointwise_rises rank rises (x ∷ xs) (y ∷ ys) p = both (rises x y p.0) (pointwise_rises rank rises xs ys p.1)
    where
      both : (x ≡ y) ⊎ (rank x < rank y) → (xs ≡ ys) ⊎ (total_rank rank xs < total_rank rank ys)
          → (x ∷ xs ≡ y ∷ ys) ⊎ (rank x + total_rank rank xs < rank y + total_rank rank ys)
      both (inl e) (inl f) = inl (ap (λ z. z ∷ xs) e ∙ ap (λ zs. y ∷ zs) f)
      both (inl e) (inr l) = inr (omega (arith, ap rank e, l))
      both (inr k) (inl f) = inr (omega (arith, k, ap (total_rank rank) f))
      both (inr k) (inr l) = inr (omega (arith, k, l))
