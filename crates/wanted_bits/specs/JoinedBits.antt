-- Numbers of which the greater one stands at each place. For proofs only, of the crates above too.
use Rattle.std.proofs.Common.{◌≡◌, ℕ, zero, suc, max, List, [], ◌∷◌, length, get_or, refl, ap, arith}
use Rattle.wanted_bits.specs.BitsOrder.{HasFew, joined_bits}

-- a join is as long as the first list
pub joined_long : (xs ys : List ℕ) → length ys ≡ length xs → length (joined_bits xs ys) ≡ length xs
joined_long [] ys e = refl
joined_long (x ∷ xs) [] e = absurd (omega (arith, e))
joined_long (x ∷ xs) (y ∷ ys) e = ap suc (joined_long xs ys (let e' : suc (length ys) ≡ suc (length xs) = e in omega arith))

-- and has the greater number at each place
pub joined_at : (xs ys : List ℕ) (k : ℕ) → length ys ≡ length xs → get_or (joined_bits xs ys) k 0 ≡ max (get_or xs k 0) (get_or ys k 0)
joined_at [] [] k e = refl
joined_at [] (y ∷ ys) k e = absurd (omega (arith, e))
joined_at (x ∷ xs) [] k e = absurd (omega (arith, e))
joined_at (x ∷ xs) (y ∷ ys) zero e = refl
joined_at (x ∷ xs) (y ∷ ys) (suc k) e = joined_at xs ys k (let e' : suc (length ys) ≡ suc (length xs) = e in omega arith)

-- few numbers stay few
pub joined_few : (xs ys : List ℕ) → length ys ≡ length xs → HasFew xs → HasFew ys → HasFew (joined_bits xs ys)
joined_few xs ys e p q k = omega (arith, joined_at xs ys k e, p k, q k)
