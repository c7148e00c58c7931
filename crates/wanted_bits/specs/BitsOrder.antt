-- Numbers of wanted bits, one for each variable, and their order. Cited by the ghost members of `WantedList`.
use Rattle.std.proofs.Common.{◌≡◌, ◌≢◌, ℕ, suc, ◌*◌, ◌<◌, ◌≤◌, ◌⊎◌, min, max, inl, inr, List, [], ◌∷◌, length, slice_index_or, refl, sym, ◌∙◌, subst, arith}
use Rattle.std.proofs.lemmas.Bool.{cases_lt, cases_eq}
use Rattle.fix_solve.specs.Order.{IsLeastUpper, OrderLaws}
use Rattle.fix_solve.specs.Pointwise.{Pointwise, total_rank, pointwise_refl, pointwise_trans, pointwise_antisym, pointwise_length, pointwise_rises}

-- fewer bits are below more, of which there are at most 64; more than 64, which are never wanted, are below themselves
abbrev pub BelowNumber : ℕ → ℕ → Type 0
BelowNumber a b = (a ≡ b) ⊎ ((a < b) × (b ≤ 64))

-- variable by variable
abbrev pub BelowLists : List ℕ → List ℕ → Type 0
BelowLists = Pointwise BelowNumber

-- the rank of a number of bits
abbrev pub bits_rank : ℕ → ℕ
bits_rank a = min a 65

-- of a list of them
abbrev pub lists_rank : List ℕ → ℕ
lists_rank = total_rank bits_rank

-- ---- it is an order

-- a number is below itself
bits_refl : (a : ℕ) → BelowNumber a a
bits_refl a = inl refl

-- and below what is above what is above it
bits_trans : (a b c : ℕ) → BelowNumber a b → BelowNumber b c → BelowNumber a c
bits_trans a b c (inl p) (inl q) = inl (p ∙ q)
bits_trans a b c (inl p) (inr q) = inr (omega (arith, p, q.0), q.1)
bits_trans a b c (inr p) (inl q) = inr (omega (arith, p.0, q), omega (arith, p.1, q))
bits_trans a b c (inr p) (inr q) = inr (omega (arith, p.0, q.0), q.1)

-- two that are below one another are one
bits_antisym : (a b : ℕ) → BelowNumber a b → BelowNumber b a → a ≡ b
bits_antisym a b (inl p) q = p
bits_antisym a b (inr p) (inl q) = sym q
bits_antisym a b (inr p) (inr q) = absurd (omega (arith, p.0, q.0))

-- and the rank rises
bits_rises : (a b : ℕ) → BelowNumber a b → (a ≡ b) ⊎ (bits_rank a < bits_rank b)
bits_rises a b (inl p) = inl p
bits_rises a b (inr p) = inr (omega (arith, p.0, p.1))

-- that of lists too
lists_rise : (xs ys : List ℕ) → BelowLists xs ys → xs ≢ ys → lists_rank xs < lists_rank ys
lists_rise xs ys p d = elim (pointwise_rises BelowNumber bits_rank bits_rises xs ys p) as (λ _. lists_rank xs < lists_rank ys) [ inl e ↦ absurd (d e) | inr l ↦ l ]

-- as a solver needs it
pub lists_laws : OrderLaws BelowLists length lists_rank
lists_laws = record {
  reflexive = pointwise_refl BelowNumber bits_refl;
  transitive = pointwise_trans BelowNumber bits_trans;
  antisymmetric = pointwise_antisym BelowNumber bits_antisym;
  same_size = pointwise_length BelowNumber;
  rises = lists_rise;
}

-- the rank is bounded
pub rank_most : (xs : List ℕ) → lists_rank xs ≤ 65 * length xs
rank_most [] = omega arith
rank_most (x ∷ xs) = omega (arith, rank_most xs)

-- ---- joins

-- each number is at most 64
abbrev pub AreFew : List ℕ → Type 0
AreFew [] = Unit {0}
AreFew (x ∷ xs) = (x ≤ 64) × AreFew xs

-- the number at each place is at most 64
abbrev pub HasFew : List ℕ → Type 0
HasFew xs = (x : ℕ) → slice_index_or xs x 0 ≤ 64

-- numbers that are few at each place are few
pub few_each : (xs : List ℕ) → HasFew xs → AreFew xs
few_each [] few = tt
few_each (x ∷ xs) few = (few 0, few_each xs (λ i. few (suc i)))

-- at each place the greater of two numbers
abbrev pub joined_bits : List ℕ → List ℕ → List ℕ
joined_bits [] ys = []
joined_bits (x ∷ xs) [] = x ∷ xs
joined_bits (x ∷ xs) (y ∷ ys) = max x y ∷ joined_bits xs ys

-- the greater of two numbers is their least upper bound
bits_join : (a b : ℕ) → a ≤ 64 → b ≤ 64 → IsLeastUpper BelowNumber a b (max a b)
bits_join a b p q = elim (cases_lt a b) [
  | inl lt ↦
      let is : max a b ≡ b = omega arith in
      subst (IsLeastUpper BelowNumber a b) (sym is) (record { left = inr (lt, q); right = inl refl; least = λ w u v. v })
  | inr ge ↦
      let is : max a b ≡ a = omega arith in
      subst (IsLeastUpper BelowNumber a b) (sym is) (record { left = inl refl; right = elim (cases_eq b a) [ inl e ↦ inl e | inr ne ↦ inr (omega (arith, ge, ne), p) ]; least = λ w u v. u })
]

-- and that of lists is made of the greater ones
pub lists_join : (xs ys : List ℕ) → length xs ≡ length ys → AreFew xs → AreFew ys → IsLeastUpper BelowLists xs ys (joined_bits xs ys)
lists_join [] [] e p q = record { left = tt; right = tt; least = λ w u v. u }
lists_join [] (y ∷ ys) e p q = absurd (omega (arith, e))
lists_join (x ∷ xs) [] e p q = absurd (omega (arith, e))
lists_join (x ∷ xs) (y ∷ ys) e p q =
    let rest = lists_join xs ys (let e' : suc (length xs) ≡ suc (length ys) = e in omega arith) p.1 q.1 in
    let head = bits_join x y p.0 q.0 in
    record { left = (head.left, rest.left); right = (head.right, rest.right); least = least head rest }
  where
    least : IsLeastUpper BelowNumber x y (max x y) → IsLeastUpper BelowLists xs ys (joined_bits xs ys) → (w : List ℕ) → BelowLists (x ∷ xs) w → BelowLists (y ∷ ys) w → BelowLists (max x y ∷ joined_bits xs ys) w
    least head rest [] p q = absurd p
    least head rest (w ∷ ws) p q = (head.least w p.0 q.0, rest.least ws p.1 q.1)
