-- Laws of the list of the variables seen, and of what stands in a list of numbers. For proofs only, of the
-- crates above too.
use Rattle.std.proofs.Common.{◌≡◌, ℕ, Bool, true, false, if◌then◌else◌, nat_eq, ◌||◌, List, [], ◌∷◌, ◌++◌, ◌⊎◌, inl, inr, refl, sym, ap, ◌∙◌, append-nil, append_assoc}
use Rattle.std.proofs.lemmas.Bool.{eq-eqb, eqb-true}
use Rattle.std.proofs.Math.Bool.{or-true}
use Rattle.std.specs.List.{list_any}
use Rattle.flow_graph.specs.Numbering.{is_in, seen_after}

-- ---- what stands in joined lists

-- what stands in the first of two lists
pub is_in_first : (x : ℕ) (xs ys : List ℕ) → is_in x xs ≡ true → is_in x (xs ++ ys) ≡ true
is_in_first x [] ys e = cc
is_in_first x (z ∷ xs) ys e = chosen (nat_eq z x) e (is_in_first x xs ys)
  where
    chosen : (b : Bool) → b || is_in x xs ≡ true → (is_in x xs ≡ true → is_in x (xs ++ ys) ≡ true) → b || is_in x (xs ++ ys) ≡ true
    chosen true e' ih = refl
    chosen false e' ih = ih e'

-- what stands at the end
pub is_in_last : (x : ℕ) (xs : List ℕ) → is_in x (xs ++ x ∷ []) ≡ true
is_in_last x [] = ap (λ b. b || false) (eq-eqb x x refl)
is_in_last x (z ∷ xs) = ap (λ b. nat_eq z x || b) (is_in_last x xs) ∙ or-true (nat_eq z x)

-- what stands in a list with one number more stood there before, or is that number
pub is_in_pushed : (x y : ℕ) (xs : List ℕ) → is_in x (xs ++ y ∷ []) ≡ true → (is_in x xs ≡ true) ⊎ (y ≡ x)
is_in_pushed x y [] e = chosen (nat_eq y x) refl e
  where
    chosen : (b : Bool) → nat_eq y x ≡ b → b || false ≡ true → (is_in x [] ≡ true) ⊎ (y ≡ x)
    chosen true is e' = inr (eqb-true y x is)
    chosen false is e' = cc
is_in_pushed x y (z ∷ xs) e = chosen (nat_eq z x) e (is_in_pushed x y xs)
  where
    chosen : (b : Bool) → b || is_in x (xs ++ y ∷ []) ≡ true
        → (is_in x (xs ++ y ∷ []) ≡ true → (is_in x xs ≡ true) ⊎ (y ≡ x)) → (b || is_in x xs ≡ true) ⊎ (y ≡ x)
    chosen true e' ih = inl refl
    chosen false e' ih = ih e'

-- as a test of each
pub in_any : (x : ℕ) (ys : List ℕ) → is_in x ys ≡ list_any (λ y. nat_eq y x) ys
in_any x [] = refl
in_any x (y ∷ ys) = ap (λ b. nat_eq y x || b) (in_any x ys)

-- ---- the variables seen

-- the list only grows at its end
pub seen_grows : (seen xs : List ℕ) → (more : List ℕ) × (seen_after seen xs ≡ seen ++ more)
seen_grows seen [] = ([], sym (append-nil seen))
seen_grows seen (x ∷ xs) = chosen (is_in x seen) (seen_grows seen xs) (seen_grows (seen ++ x ∷ []) xs)
  where
    chosen : (b : Bool) → (more : List ℕ) × (seen_after seen xs ≡ seen ++ more)
        → (more : List ℕ) × (seen_after (seen ++ x ∷ []) xs ≡ (seen ++ x ∷ []) ++ more)
        → (more : List ℕ) × ((if b then seen_after seen xs else seen_after (seen ++ x ∷ []) xs) ≡ seen ++ more)
    chosen true p q = p
    chosen false p q = (x ∷ q.0, q.1 ∙ append_assoc seen (x ∷ []) q.0)
