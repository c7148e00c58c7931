-- The numbers that a row of bits lists.
use Rattle.std.proofs.Common.{◌≡◌, ℕ, zero, suc, ◌+◌, ◌<◌, Bool, true, false, ◌||◌, eqb, List, [], ◌∷◌, slice_index_or, ◌⊎◌, inl, inr, refl, sym, ap, ◌∙◌, arith}
use Rattle.std.proofs.lemmas.Bool.{eq-eqb, ne_eqb, or_from, or_left, or_right, true≢false}
use Rattle.bit_rows.specs.Bits.{row_of}
use Rattle.flow_graph.specs.Numbering.{is_in}
use Rattle.flow_graph.specs.Sums.{one_if, sum_on}
use Rattle.path_laws.specs.Paths.{has_bit}
use Rattle.motion_rewrite.specs.Flatten.{set_from, inserted}

-- no number below the first is listed
among_below : (k i : ℕ) (bits : List Bool) → i < k → is_in i (set_from k bits) ≡ false
among_below k i [] lt = refl
among_below k i (true ∷ bits) lt = or_from (eqb k i) (is_in i (set_from (suc k) bits)) (ne_eqb k i (λ e. omega (arith, e, lt))) (among_below (suc k) i bits (omega (arith, lt)))
among_below k i (false ∷ bits) lt = among_below (suc k) i bits (omega (arith, lt))

-- a number is listed where its bit is set
among_set : (k i m : ℕ) (bits : List Bool) → k + i ≡ m → is_in m (set_from k bits) ≡ slice_index_or bits i false
among_set k i m [] e = refl
among_set k zero m (true ∷ bits) e = or_left (eqb k m) (is_in m (set_from (suc k) bits)) (eq-eqb k m (omega (arith, e)))
among_set k zero m (false ∷ bits) e = among_below (suc k) m bits (omega (arith, e))
among_set k (suc i) m (true ∷ bits) e = ap (λ b. b || is_in m (set_from (suc k) bits)) (ne_eqb k m (λ same. omega (arith, e, same))) ∙ among_set (suc k) i m bits (omega (arith, e))
among_set k (suc i) m (false ∷ bits) e = among_set (suc k) i m bits (omega (arith, e))

-- the numbers that are listed are those with a bit
pub among_inserted : (rows : List (List Bool)) (n i : ℕ) → is_in i (inserted rows n) ≡ has_bit rows i n
among_inserted rows n i = among_set 0 i i (row_of rows n) (omega arith)

-- ---- each of them once

-- the set bits are numbered from the first index upward, so a smaller index is not among them
none_below : (k i : ℕ) (bits : List Bool) → i < k → sum_on (λ j. one_if (eqb j i)) (set_from k bits) ≡ 0
none_below k i [] lt = refl
none_below k i (true ∷ bits) lt =
    let first : one_if (eqb k i) ≡ 0 = ap one_if (ne_eqb k i (λ e. omega (arith, e, lt))) in
    omega (arith, first, none_below (suc k) i bits (omega (arith, lt)))
none_below k i (false ∷ bits) lt = none_below (suc k) i bits (omega (arith, lt))

-- an index is listed once where its bit is set, and otherwise never
once_set : (k i m : ℕ) (bits : List Bool) → k + i ≡ m → sum_on (λ j. one_if (eqb j m)) (set_from k bits) ≡ one_if (slice_index_or bits i false)
once_set k i m [] e = refl
once_set k zero m (true ∷ bits) e =
    let first : one_if (eqb k m) ≡ 1 = ap one_if (eq-eqb k m (omega (arith, e))) in
    omega (arith, first, none_below (suc k) m bits (omega (arith, e)))
once_set k zero m (false ∷ bits) e = none_below (suc k) m bits (omega (arith, e))
once_set k (suc i) m (true ∷ bits) e =
    let first : one_if (eqb k m) ≡ 0 = ap one_if (ne_eqb k m (λ same. omega (arith, e, same))) in
    omega (arith, first, once_set (suc k) i m bits (omega (arith, e)))
once_set k (suc i) m (false ∷ bits) e = once_set (suc k) i m bits (omega (arith, e))

-- a row lists a number once where its bit is set, and else never
pub once_inserted : (rows : List (List Bool)) (n i : ℕ) → sum_on (λ j. one_if (eqb j i)) (inserted rows n) ≡ one_if (has_bit rows i n)
once_inserted rows n i = once_set 0 i i (row_of rows n) (omega arith)

-- ---- the first of them

-- a list has its first item
pub among_head : (i : ℕ) (numbers : List ℕ) → is_in i (i ∷ numbers) ≡ true
among_head i numbers = or_left (eqb i i) (is_in i numbers) (eq-eqb i i refl)

-- and those of its remainder
pub among_tail : (i j : ℕ) (numbers : List ℕ) → is_in i numbers ≡ true → is_in i (j ∷ numbers) ≡ true
among_tail i j numbers is = or_right (eqb j i) (is_in i numbers) is

-- a list is empty or has a first item
pub head_or_none : (numbers : List ℕ) → (numbers ≡ []) ⊎ ((i : ℕ) × (rest : List ℕ) × (numbers ≡ i ∷ rest))
head_or_none [] = inl refl
head_or_none (i ∷ rest) = inr (i, rest, refl)

-- where a bit of the row is set, it lists a number
pub lists_some : (rows : List (List Bool)) (n i : ℕ) → has_bit rows i n ≡ true → (j : ℕ) × (rest : List ℕ) × (inserted rows n ≡ j ∷ rest)
lists_some rows n i set = elim (head_or_none (inserted rows n)) [
  | inl none ↦ absurd (true≢false (sym set ∙ sym (among_inserted rows n i) ∙ ap (is_in i) none))
  | inr first ↦ first
]

-- where none is, it lists none
pub lists_none : (rows : List (List Bool)) (n : ℕ) → ((i : ℕ) → has_bit rows i n ≡ false) → inserted rows n ≡ []
lists_none rows n unset = elim (head_or_none (inserted rows n)) [
  | inl none ↦ none
  | inr first ↦ absurd (true≢false (sym (ap (is_in first.0) first.2 ∙ among_head first.0 first.1) ∙ among_inserted rows n first.0 ∙ unset first.0))
]
