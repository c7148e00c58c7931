-- Lists of numbers that are all below a bound (`AllBelow`): joined lists, the item at a place, greater bounds.
-- For proofs only.
use Rattle.std.proofs.Common.{◌≡◌, ℕ, zero, suc, ◌<◌, ◌≤◌, List, [], ◌∷◌, ◌++◌, slice_get, flat_map, Some, subst, arith}
use Rattle.mir_base.specs.Shapes.{AllBelow}

-- the first part of a joined list
pub all_below_left : (m : ℕ) (xs ys : List ℕ) → AllBelow m (xs ++ ys) → AllBelow m xs
all_below_left m [] ys h = tt
all_below_left m (x ∷ xs) ys h = (h.0, all_below_left m xs ys h.1)

-- the second part
pub all_below_right : (m : ℕ) (xs ys : List ℕ) → AllBelow m (xs ++ ys) → AllBelow m ys
all_below_right m [] ys h = h
all_below_right m (x ∷ xs) ys h = all_below_right m xs ys h.1

-- the joined list
pub all_below_append : (m : ℕ) (xs ys : List ℕ) → AllBelow m xs → AllBelow m ys → AllBelow m (xs ++ ys)
all_below_append m [] ys h k = k
all_below_append m (x ∷ xs) ys h k = (h.0, all_below_append m xs ys h.1 k)

-- one number more at the end
pub all_below_push : (m n : ℕ) (xs : List ℕ) → AllBelow m xs → n < m → AllBelow m (xs ++ n ∷ [])
all_below_push m n xs h lt = all_below_append m xs (n ∷ []) h (lt, tt)

-- each number of a list of numbers below m is below m
pub all_below_at : (m : ℕ) (xs : List ℕ) (i x : ℕ) → AllBelow m xs → slice_get xs i ≡ Some x → x < m
all_below_at m [] i x h e = cc
all_below_at m (y ∷ xs) zero x h e = let same : y ≡ x = cc in subst (λ z. z < m) same h.0
all_below_at m (y ∷ xs) (suc i) x h e = all_below_at m xs i x h.1 e

-- where the numbers of all items are below m, so are those of one of them
pub all_below_item : {A : Type 0} (f : A → List ℕ) (m : ℕ) (xs : List A) (i : ℕ) (x : A) → AllBelow m (flat_map f xs)
    → slice_get xs i ≡ Some x → AllBelow m (f x)
all_below_item f m [] i x h e = cc
all_below_item f m (y ∷ xs) zero x h e = let same : y ≡ x = cc in subst (λ z. AllBelow m (f z)) same (all_below_left m (f y) (flat_map f xs) h)
all_below_item f m (y ∷ xs) (suc i) x h e = all_below_item f m xs i x (all_below_right m (f y) (flat_map f xs) h) e

-- numbers below m are below each n that is not less
pub all_below_more : (m n : ℕ) (xs : List ℕ) → m ≤ n → AllBelow m xs → AllBelow n xs
all_below_more m n [] more h = tt
all_below_more m n (x ∷ xs) more h = (omega (arith, h.0), all_below_more m n xs more h.1)
