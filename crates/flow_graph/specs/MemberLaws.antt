-- Laws of lists of numbers: what is in them, what is found by going over all numbers, and lists in ascending order. For
-- proofs only, of the crates above.
use Rattle.std.proofs.Common.{◌≡◌, ◌⊎◌, inl, inr, ℕ, zero, suc, ◌+◌, ◌<◌, ◌≤◌, Bool, true, false, ◌||◌, nat_eq, List, [], ◌∷◌, ◌++◌, slice_get, Some, refl, sym, ap, ◌∙◌, subst, arith}
use Rattle.std.proofs.lemmas.Bool.{cases_eq, cases_lt, eq-eqb, eqb-true}
use Rattle.std.proofs.lemmas.Option.{slice_get_within}
use Rattle.flow_graph.specs.ListLaws.{ascending_same, get_push}
use Rattle.flow_graph.specs.Numbering.{IsIn, is_in}

-- ---- numbers

-- two numbers differ or not
pub apart_or_not : (x y : ℕ) → (x ≡ y → ⊥) ⊎ (x ≡ y)
apart_or_not x y = elim (cases_eq x y) [ inl same ↦ inr same | inr apart ↦ inl apart ]

-- a number that is at least y and is not y is above it
pub above : (x y : ℕ) → y ≤ x → (x ≡ y → ⊥) → suc y ≤ x
above x y ge apart = elim (cases_lt y x) [ inl lt ↦ lt | inr le ↦ absurd (apart (omega (arith, le, ge))) ]

-- ---- in a list or not, by the test

-- neither of two
or_false : (b c : Bool) → b || c ≡ false → (b ≡ false) × (c ≡ false)
or_false true c e = cc
or_false false c e = (refl, e)

-- what is not in a list is neither its first nor in the rest
pub not_in : (x y : ℕ) (ys : List ℕ) → is_in x (y ∷ ys) ≡ false → (x ≡ y → ⊥) × (is_in x ys ≡ false)
not_in x y ys out =
    let both = or_false (nat_eq y x) (is_in x ys) out in
    (λ same. let e : nat_eq y x ≡ true = eq-eqb y x (sym same) in cc, both.1)

-- what is in a list but not in the rest is its first
pub in_first : (x y : ℕ) (ys : List ℕ) → is_in x (y ∷ ys) ≡ true → is_in x ys ≡ false → y ≡ x
in_first x y ys there out = go (nat_eq y x) refl
  where
    go : (b : Bool) → nat_eq y x ≡ b → y ≡ x
    go true is = eqb-true y x is
    go false is = let no : false || false ≡ true = ap (λ b. b || false) (sym is) ∙ ap (λ c. nat_eq y x || c) (sym out) ∙ there in cc

-- ---- in a list or not, by cases

-- a number is one of a list or not
pub in_or_not : (n : ℕ) (xs : List ℕ) → IsIn n xs ⊎ (IsIn n xs → ⊥)
in_or_not n [] = inr (λ there. there)
in_or_not n (x ∷ xs) = elim (cases_eq x n) [
  | inl same ↦ inl (inl same)
  | inr apart ↦ elim (in_or_not n xs) [ inl there ↦ inl (inr there) | inr out ↦ inr (elim [ inl same ↦ apart same | inr there ↦ out there ]) ]
]

-- a number that is one of a list stands at some place of it
pub place_of_member : (n : ℕ) (xs : List ℕ) → IsIn n xs → (k : ℕ) × (slice_get xs k ≡ Some n)
place_of_member n [] there = absurd there
place_of_member n (x ∷ xs) (inl same) = (0, ap Some same)
place_of_member n (x ∷ xs) (inr there) = let r = place_of_member n xs there in (suc r.0, r.1)

-- what is in a list with one more is in the list, or is the one
in_push : (m y : ℕ) (xs : List ℕ) → IsIn m (xs ++ y ∷ []) → IsIn m xs ⊎ (y ≡ m)
in_push m y [] (inl same) = inr same
in_push m y [] (inr there) = absurd there
in_push m y (x ∷ xs) (inl same) = inl (inl same)
in_push m y (x ∷ xs) (inr there) = elim (in_push m y xs there) [ inl old ↦ inl (inr old) | inr new ↦ inr new ]

-- what is in the list stays
in_left : (m y : ℕ) (xs : List ℕ) → IsIn m xs → IsIn m (xs ++ y ∷ [])
in_left m y [] there = absurd there
in_left m y (x ∷ xs) (inl same) = inl same
in_left m y (x ∷ xs) (inr there) = inr (in_left m y xs there)

-- the one is in it
in_last : (y : ℕ) (xs : List ℕ) → IsIn y (xs ++ y ∷ [])
in_last y [] = inl refl
in_last y (x ∷ xs) = inr (in_last y xs)

-- what stands in a list is in it
pub in_at : (xs : List ℕ) (i m : ℕ) → slice_get xs i ≡ Some m → IsIn m xs
in_at [] i m e = cc
in_at (x ∷ xs) zero m e = inl (cc)
in_at (x ∷ xs) (suc i) m e = inr (in_at xs i m e)

-- ---- lists in ascending order

-- the numbers stand in ascending order
abbrev pub Ascend : List ℕ → Type 0
Ascend xs = (i j m n : ℕ) → i < j → slice_get xs i ≡ Some m → slice_get xs j ≡ Some n → m < n

-- lists in ascending order with the same members are equal
pub members_same : (a b : List ℕ) → Ascend a → Ascend b → ((n : ℕ) → IsIn n a → IsIn n b) → ((n : ℕ) → IsIn n b → IsIn n a) → a ≡ b
members_same a b up up' to from =
    ascending_same (λ n. n) a b up up' (λ i x e. place_of_member x b (to x (in_at a i x e))) (λ i x e. place_of_member x a (from x (in_at b i x e)))

-- ---- which of the first n numbers are so

-- these are they, in order
pub record AreFoundBelow (Is : ℕ → Type 0) (n : ℕ) (found : List ℕ) : Type 0 where
  pub ordered : (i j a b : ℕ) → i < j → slice_get found i ≡ Some a → slice_get found j ≡ Some b
      → a < b
  pub are : (m : ℕ) → IsIn m found → (m < n) × Is m
  pub all : (m : ℕ) → m < n → Is m → IsIn m found

-- none at first
pub none_found : (Is : ℕ → Type 0) (found : List ℕ) → found ≡ [] → AreFoundBelow Is 0 found
none_found Is found is = subst (AreFoundBelow Is 0) (sym is) (record {
  ordered = λ i j a b lt e f. cc;
  are = λ m there. absurd there;
  all = λ m lt has. absurd (omega (arith, lt));
})

-- one more
pub found_more : (Is : ℕ → Type 0) (n : ℕ) (found found' : List ℕ) → AreFoundBelow Is n found → Is n
    → found' ≡ found ++ n ∷ [] → AreFoundBelow Is (n + 1) found'
found_more Is n found found' f has is = subst (AreFoundBelow Is (n + 1)) (sym is) (record {
  ordered = λ i j a b lt e g. elim (get_push found n b j g) [
    | inl old ↦ elim (get_push found n a i e) [
      | inl old' ↦ f.ordered i j a b lt old' old
      | inr last ↦ let within = slice_get_within found j b old in let at = last.0 in absurd (omega (arith, at, within, lt))
    ]
    | inr last ↦ elim (get_push found n a i e) [
      | inl old' ↦ let low = (f.are a (in_at found i a old')).0 in let same = last.1 in omega (arith, low, same)
      | inr last' ↦ let at = last.0 in let at' = last'.0 in absurd (omega (arith, at, at', lt))
    ]
  ];
  are = λ m there. elim (in_push m n found there) [
    | inl old ↦ let r = f.are m old in let low = r.0 in (omega (arith, low), r.1)
    | inr same ↦ (omega (arith, same), subst (Is) same has)
  ];
  all = λ m lt there. elim (cases_eq m n) [
    | inl same ↦ subst (λ k. IsIn k (found ++ n ∷ [])) (sym same) (in_last n found)
    | inr apart ↦ in_left m n found (f.all m (below m n lt apart) there)
  ];
})
  where
    below : (m k : ℕ) → m < k + 1 → (m ≡ k → ⊥) → m < k
    below m k lt apart = go (cases_eq m k)
      where
        go : (m ≡ k) ⊎ (m ≡ k → ⊥) → m < k
        go (inl same) = absurd (apart same)
        go (inr other) = grind (arith, lt, other)

-- one that is not
pub found_passed : (Is : ℕ → Type 0) (n : ℕ) (found : List ℕ) → AreFoundBelow Is n found → (Is n → ⊥) → AreFoundBelow Is (n + 1) found
found_passed Is n found f none = record {
  ordered = f.ordered;
  are = λ m there. let r = f.are m there in let low = r.0 in (omega (arith, low), r.1);
  all = λ m lt has. elim (cases_eq m n) [
    | inl same ↦ absurd (none (subst (Is) same has))
    | inr apart ↦ f.all m (grind (arith, lt, apart)) has
  ];
}

-- equal lists
pub same_found : (Is : ℕ → Type 0) (n : ℕ) (found found' : List ℕ) → found' ≡ found → AreFoundBelow Is (n + 1) found → AreFoundBelow Is (n + 1) found'
same_found Is n found found' is f = subst (AreFoundBelow Is (n + 1)) (sym is) f
