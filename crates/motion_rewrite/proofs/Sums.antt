-- Sums over lists of numbers.
use Rattle.std.proofs.Common.{◌≡◌, ℕ, zero, suc, ◌+◌, ◌<◌, ◌≤◌, List, [], ◌∷◌, refl, sym, arith, le_refl}
use Rattle.flow_graph.specs.Sums.{sum_on}

-- over the numbers below k
abbrev pub sum_below : ℕ → (ℕ → ℕ) → ℕ
sum_below zero f = 0
sum_below (suc k) f = f 0 + sum_below k (λ i. f (suc i))

-- a sum of sums
pub sum_plus : (k : ℕ) (f g : ℕ → ℕ) → sum_below k (λ i. f i + g i) ≡ sum_below k f + sum_below k g
sum_plus zero f g = refl
sum_plus (suc k) f g = omega (arith, sum_plus k (λ i. f (suc i)) (λ i. g (suc i)))

-- of equal numbers
pub sum_same : (k : ℕ) (f g : ℕ → ℕ) → ((i : ℕ) → i < k → f i ≡ g i) → sum_below k f ≡ sum_below k g
sum_same zero f g same = refl
sum_same (suc k) f g same = omega (arith, same 0 (omega arith), sum_same k (λ i. f (suc i)) (λ i. g (suc i)) (λ i lt. same (suc i) (omega (arith, lt))))

-- of smaller ones
pub sum_least : (k : ℕ) (f g : ℕ → ℕ) → ((i : ℕ) → i < k → f i ≤ g i) → sum_below k f ≤ sum_below k g
sum_least zero f g least = le_refl 0
sum_least (suc k) f g least = omega (arith, least 0 (omega arith), sum_least k (λ i. f (suc i)) (λ i. g (suc i)) (λ i lt. least (suc i) (omega (arith, lt))))

-- of zeros
pub sum_none : (k : ℕ) (f : ℕ → ℕ) → ((i : ℕ) → f i ≡ 0) → sum_below k f ≡ 0
sum_none zero f none = refl
sum_none (suc k) f none = omega (arith, none 0, sum_none k (λ i. f (suc i)) (λ i. none (suc i)))

-- sums of sums in either order
pub on_below : (k : ℕ) (f : ℕ → ℕ → ℕ) (path : List ℕ) → sum_on (λ n. sum_below k (λ i. f i n)) path ≡ sum_below k (λ i. sum_on (f i) path)
on_below k f [] = sym (sum_none k (λ i. 0) (λ i. refl))
on_below k f (n ∷ path) = omega (arith, on_below k f path, sum_plus k (λ i. f i n) (λ i. sum_on (f i) path))
