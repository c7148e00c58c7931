-- Sums over the nodes of a path. `one_if` is cited by contracts of the crates above, the others by proofs.
use Rattle.std.proofs.Common.{◌≡◌, ℕ, ◌+◌, Bool, if◌then◌else◌, List, [], ◌∷◌, ◌++◌, reverse, count_by, refl, ap, ◌∙◌, arith}
use Rattle.std.proofs.lemmas.List.{reverse-append}
use Rattle.std.proofs.lemmas.List.Sums.{sum_by-cons}

-- 1 where it is true
abbrev pub one_if : Bool → ℕ
one_if b = if b then 1 else 0

-- over the elements of a list
abbrev pub sum_on : (ℕ → ℕ) → List ℕ → ℕ
sum_on f [] = 0
sum_on f (n ∷ path) = f n + sum_on f path

-- a count is a sum of ones
pub count_sums : (test : ℕ → Bool) (path : List ℕ) → count_by test path ≡ sum_on (λ n. one_if (test n)) path
count_sums test [] = refl
count_sums test (n ∷ path) =
    sum_by-cons (λ m. one_if (test m)) n path ∙ ap (λ k. one_if (test n) + k) (count_sums test path)

-- a sum over joined lists
pub sum_append : (f : ℕ → ℕ) (xs ys : List ℕ) → sum_on f (xs ++ ys) ≡ sum_on f xs + sum_on f ys
sum_append f [] ys = omega arith
sum_append f (x ∷ xs) ys = let ih = sum_append f xs ys in omega (arith, ih)

-- a sum over the reversed list
pub sum_reverse : (f : ℕ → ℕ) (xs : List ℕ) → sum_on f (reverse xs) ≡ sum_on f xs
sum_reverse f [] = refl
sum_reverse f (x ∷ xs) =
    let split : sum_on f (reverse (x ∷ xs)) ≡ sum_on f (reverse xs ++ x ∷ []) =
    ap (sum_on f) (reverse-append (x ∷ []) xs) in
    omega (arith, split, sum_append f (reverse xs) (x ∷ []), sum_reverse f xs)

-- a sum of sums
pub on_plus : (f g : ℕ → ℕ) (path : List ℕ) → sum_on (λ n. f n + g n) path ≡ sum_on f path + sum_on g path
on_plus f g [] = refl
on_plus f g (n ∷ path) = let ih = on_plus f g path in omega (arith, ih)

-- sums of equal functions
pub on_same : (f g : ℕ → ℕ) (path : List ℕ) → ((n : ℕ) → f n ≡ g n) → sum_on f path ≡ sum_on g path
on_same f g [] same = refl
on_same f g (n ∷ path) same = let first = same n in let ih = on_same f g path same in omega (arith, first, ih)
