-- Variables that are set one after the other.
use Rattle.std.proofs.Common.{◌≡◌, ℕ, zero, suc, ◌+◌, ◌-◌, ◌<◌, List, [], ◌∷◌, ◌++◌, length, replicate, slice_index_or, slice_set, take, sym, ap, ◌∙◌, arith}
use Rattle.std.specs.List.{range_with_len}
use Rattle.cond_flow.specs.Passing.{all_set}

-- one more of a range
pub set_on : {K : Type 0} (of : ℕ → K) (i x stop : ℕ) (ks ls : List K) (k : K) → x < stop → k ≡ of i → ls ≡ slice_set ks x k
    → all_set of (i + 1) (range_with_len (x + 1) (stop - (x + 1))) ls ≡ all_set of i (range_with_len x (stop - x)) ks
set_on of i x stop ks ls k lt is set =
    let more : stop - x ≡ suc (stop - (x + 1)) = omega (arith, lt) in
    let next : i + 1 ≡ suc i = omega arith in
    ap (λ n. all_set of n (range_with_len (x + 1) (stop - (x + 1))) ls) next
    ∙ ap (all_set of (suc i) (range_with_len (x + 1) (stop - (x + 1)))) (set ∙ ap (slice_set ks x) is)
    ∙ sym (ap (λ n. all_set of i (range_with_len x n) ks) more)

-- the numbers up to one more
pub range_more : (a n : ℕ) → range_with_len a (n + 1) ≡ range_with_len a n ++ (a + n) ∷ []
range_more a zero = ap (λ k. k ∷ []) (omega arith)
range_more a (suc n) =
    let more : suc n + 1 ≡ suc (n + 1) = omega arith in
    let next : a + 1 + n ≡ a + suc n = omega arith in
    ap (range_with_len a) more ∙ ap (λ l. a ∷ l) (range_more (a + 1) n ∙ ap (λ k. range_with_len (a + 1) n ++ k ∷ []) next)

-- the first items of a list taken over, and the rest as it was
pub taken_more : {K : Type 0} (xs : List K) (x : ℕ) (k : K) (facts : List K) → x < length xs → facts ≡ take x xs ++ replicate (length xs - x) k
    → (d : K) → slice_set facts x (slice_index_or xs x d) ≡ take (x + 1) xs ++ replicate (length xs - (x + 1)) k
taken_more {K = K} xs x k facts lt is d = ap (λ l. slice_set l x (slice_index_or xs x d)) is ∙ more xs x lt
  where
    more : (xs : List K) (x : ℕ) → x < length xs → slice_set (take x xs ++ replicate (length xs - x) k) x (slice_index_or xs x d) ≡ take (x + 1) xs ++ replicate (length xs - (x + 1)) k
    more [] x lt = absurd (omega (arith, lt))
    more (y ∷ xs) zero lt =
        let all : suc (length xs) - zero ≡ suc (length xs) = omega arith in
        let rest : suc (length xs) - (zero + 1) ≡ length xs = omega arith in
        ap (λ n. slice_set (replicate n k) zero y) all ∙ sym (ap (λ n. y ∷ replicate n k) rest)
    more (y ∷ xs) (suc x) lt =
        let same : suc (length xs) - suc x ≡ length xs - x = omega arith in
        let next : suc x + 1 ≡ suc (x + 1) = omega arith in
        let last : length xs - (x + 1) ≡ suc (length xs) - suc (x + 1) = omega arith in
        ap (λ n. slice_set (y ∷ (take x xs ++ replicate n k)) (suc x) (slice_index_or xs x d)) same
        ∙ ap (λ l. y ∷ l) (more xs x (omega (arith, lt)))
        ∙ ap (λ n. y ∷ (take (x + 1) xs ++ replicate n k)) last
        ∙ sym (ap (λ n. take n (y ∷ xs) ++ replicate (suc (length xs) - n) k) next)
