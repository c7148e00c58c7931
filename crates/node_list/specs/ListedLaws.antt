-- At how many places a node stands that is listed, or is not, and in joined lists. For proofs only; edge_split cites it
-- too.
use Rattle.std.proofs.Common.{◌≡◌, ℕ, zero, suc, ◌<◌, ◌≤◌, true, false, List, [], replicate, refl, arith, ◌∷◌, ◌++◌, ◌+◌}
use Rattle.std.proofs.lemmas.Bool.{ltb-true, ltb-false}
use Rattle.node_list.specs.Lists.{times, is_listed, times_in}

-- a node that is not listed stands there no times
pub none_listed : (lists : List (List ℕ)) (n : ℕ) → is_listed lists n ≡ false → times lists n ≡ 0
none_listed lists n h = let le : times lists n ≤ 0 = ltb-false 0 (times lists n) h in omega arith

-- one that is listed stands there at least once
pub some_listed : (lists : List (List ℕ)) (n : ℕ) → is_listed lists n ≡ true → 0 < times lists n
some_listed lists n h = ltb-true 0 (times lists n) h

-- in empty lists a node stands no times
pub times_none : (count n : ℕ) → times (replicate count []) n ≡ 0
times_none zero n = refl
times_none (suc count) n = let ih : times (replicate count []) n ≡ 0 = times_none count n in omega arith

-- counts of joined lists add up
pub times_in_append : (n : ℕ) (xs ys : List ℕ) → times_in n (xs ++ ys) ≡ times_in n xs + times_in n ys
times_in_append n [] ys = omega arith
times_in_append n (x ∷ xs) ys = let ih : times_in n (xs ++ ys) ≡ times_in n xs + times_in n ys = times_in_append n xs ys in omega arith
