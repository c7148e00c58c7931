-- Laws: where a node stands that is retained, and that retained nodes stay in order. For proofs only.
use Rattle.std.proofs.Common.{◌≡◌, ℕ, zero, suc, ◌<◌, Bool, true, false, List, [], ◌∷◌, length, slice_get, Some, refl, arith}
use Rattle.flow_graph.specs.Retained.{marked_below, marked}

-- what is marked at index n stands, among all that is marked, at the number of marks before n
pub at_rank : {A : Type 0} (marks : List Bool) (xs : List A) (n : ℕ) → slice_get marks n ≡ Some true
    → length marks ≡ length xs → slice_get (marked marks xs) (marked_below marks n) ≡ slice_get xs n
at_rank [] xs n e long = cc
at_rank (b ∷ marks) [] n e long = absurd (omega arith)
at_rank (true ∷ marks) (x ∷ xs) zero e long = refl
at_rank (false ∷ marks) (x ∷ xs) zero e long = cc
at_rank (true ∷ marks) (x ∷ xs) (suc n) e long = at_rank marks xs n e (omega arith)
at_rank (false ∷ marks) (x ∷ xs) (suc n) e long = at_rank marks xs n e (omega arith)

-- a marked one stands before each later one
pub rank_below : (marks : List Bool) (n m : ℕ) → slice_get marks n ≡ Some true → n < m → marked_below marks n < marked_below marks m
rank_below [] n m e lt = cc
rank_below (b ∷ marks) n zero e lt = absurd (omega (arith, lt))
rank_below (true ∷ marks) zero (suc m) e lt = omega arith
rank_below (false ∷ marks) zero (suc m) e lt = cc
rank_below (true ∷ marks) (suc n) (suc m) e lt = let rest = rank_below marks n m e (omega (arith, lt)) in omega (arith, rest)
rank_below (false ∷ marks) (suc n) (suc m) e lt = rank_below marks n m e (omega (arith, lt))
