-- Laws of tests of the numbers below one (`any_below`): a number of a list is one of them. For proofs only, here and above.
use Rattle.std.proofs.Common.{◌≡◌, ℕ, zero, suc, Bool, true, false, nat_eq, nat_lt, ◌||◌, List, [], ◌∷◌, inl, inr, refl, sym, ap, ◌∙◌, arith}
use Rattle.std.specs.List.{list_any}
use Rattle.std.proofs.lemmas.Bool.{cases_lt, eq-eqb, le-ltb, lt-ltb, ne_eqb}
use Rattle.flow_graph.specs.Numbering.{is_in}
use Rattle.key_rows.specs.KeyRows.{any_below}

-- two tests of two things each
pub or_swap : (a b c d : Bool) → ((a || b) || (c || d)) ≡ ((a || c) || (b || d))
or_swap true b c d = refl
or_swap false true true d = refl
or_swap false true false d = refl
or_swap false false true d = refl
or_swap false false false d = refl

-- where one of two tests holds of a number below one, one of them does so
below_or : (f g : ℕ → Bool) (n : ℕ) → any_below (λ x. f x || g x) n ≡ (any_below f n || any_below g n)
below_or f g zero = refl
below_or f g (suc n) = ap (λ b. b || (f n || g n)) (below_or f g n) ∙ or_swap (any_below f n) (any_below g n) (f n) (g n)

-- no test that never holds does so
below_none : (n : ℕ) → any_below (λ x. false) n ≡ false
below_none zero = refl
below_none (suc n) = ap (λ b. b || false) (below_none n)

-- a number stands below another where it is one of those below
below_is : (y n : ℕ) → any_below (nat_eq y) n ≡ nat_lt y n
below_is y zero = sym (le-ltb y 0 (omega arith))
below_is y (suc n) = ap (λ b. b || nat_eq y n) (below_is y n) ∙ sym (elim (cases_lt y n) [
  | inl lt ↦ lt-ltb y (suc n) (omega (arith, lt)) ∙ sym (ap (λ b. b || nat_eq y n) (lt-ltb y n lt))
  | inr ge ↦ elim (cases_lt n y) [
    | inl gt ↦ le-ltb y (suc n) (omega (arith, gt)) ∙ sym (ap (λ b. b || nat_eq y n) (le-ltb y n (omega (arith, ge))) ∙ ne_eqb y n (λ same. omega (arith, gt, same)))
    | inr le ↦
        let same : y ≡ n = omega (arith, ge, le) in
        lt-ltb y (suc n) (omega (arith, same)) ∙ sym (ap (λ b. b || nat_eq y n) (le-ltb y n (omega (arith, ge))) ∙ eq-eqb y n same)
  ]
])

-- one of the globals is one of these variables
pub any_in : (n : ℕ) (xs : List ℕ) → any_below (λ x. is_in x xs) n ≡ list_any (λ x. nat_lt x n) xs
any_in n [] = below_none n
any_in n (y ∷ xs) = below_or (nat_eq y) (λ x. is_in x xs) n ∙ ap (λ b. b || any_below (λ x. is_in x xs) n) (below_is y n) ∙ ap (λ b. nat_lt y n || b) (any_in n xs)
