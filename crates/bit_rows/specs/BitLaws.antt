-- Laws of lists of truth values that are made place by place: how long they are, and each place of them. For proofs
-- only.
use Rattle.std.proofs.Common.{◌≡◌, ℕ, zero, suc, ◌<◌, Bool, false, not, ◌||◌, ◌&&◌, List, [], ◌∷◌, length, get_or, refl, sym, ap, arith}
use Rattle.std.proofs.lemmas.List.{get_or-map, length-map}
use Rattle.bit_rows.specs.Bits.{zip_with, or_bits, and_bits, minus_bits, not_bits}

-- a row that is made of two bit by bit is as long as they are
pub length_zip_with : (f : Bool → Bool → Bool) (xs ys : List Bool) → length xs ≡ length ys → length (zip_with f xs ys) ≡ length xs
length_zip_with f [] ys e = refl
length_zip_with f (x ∷ xs) [] e = absurd (omega (arith, e))
length_zip_with f (x ∷ xs) (y ∷ ys) e = ap suc (length_zip_with f xs ys (let e' : suc (length xs) ≡ suc (length ys) = e in omega arith))

-- a row made from two bit by bit has at each index the operation of their bits
pub get_or_zip_with : (f : Bool → Bool → Bool) (xs ys : List Bool) (k : ℕ) → length xs ≡ length ys → k < length xs
    → get_or (zip_with f xs ys) k false ≡ f (get_or xs k false) (get_or ys k false)
get_or_zip_with f [] ys k e h = absurd (let h' : k < 0 = h in omega arith)
get_or_zip_with f (x ∷ xs) [] k e h = absurd (omega (arith, e))
get_or_zip_with f (x ∷ xs) (y ∷ ys) zero e h = refl
get_or_zip_with f (x ∷ xs) (y ∷ ys) (suc k) e h = get_or_zip_with f xs ys k (let e' : suc (length xs) ≡ suc (length ys) = e in omega arith) (let h' : suc k < suc (length xs) = h in omega arith)

-- past the end all are false, so what is false of two false places needs no bound
pub zip_bit : (f : Bool → Bool → Bool) → f false false ≡ false → (xs ys : List Bool) (k : ℕ) → length xs ≡ length ys
    → get_or (zip_with f xs ys) k false ≡ f (get_or xs k false) (get_or ys k false)
zip_bit f off [] [] k e = sym off
zip_bit f off [] (y ∷ ys) k e = absurd (omega (arith, e))
zip_bit f off (x ∷ xs) [] k e = absurd (omega (arith, e))
zip_bit f off (x ∷ xs) (y ∷ ys) zero e = refl
zip_bit f off (x ∷ xs) (y ∷ ys) (suc k) e = zip_bit f off xs ys k (let e' : suc (length xs) ≡ suc (length ys) = e in omega arith)

-- ---- lengths

-- as long as each of the two, or as the one
pub length_or : (xs ys : List Bool) → length xs ≡ length ys → length (or_bits xs ys) ≡ length xs
length_or = length_zip_with (λ x y. x || y)

-- the operations keep the length, here the conjunction of two rows
pub length_and : (xs ys : List Bool) → length xs ≡ length ys → length (and_bits xs ys) ≡ length xs
length_and = length_zip_with (λ x y. x && y)

-- the same of one row without another
pub length_minus : (xs ys : List Bool) → length xs ≡ length ys → length (minus_bits xs ys) ≡ length xs
length_minus = length_zip_with (λ x y. x && not y)

-- the same of the negation
pub length_not : (xs : List Bool) → length (not_bits xs) ≡ length xs
length_not xs = length-map xs not

-- ---- places

-- each bit is made of those of the two, or of the one
pub or_bit : (xs ys : List Bool) (k : ℕ) → length xs ≡ length ys → get_or (or_bits xs ys) k false ≡ (get_or xs k false || get_or ys k false)
or_bit = zip_bit (λ x y. x || y) refl

-- each bit of a conjunction is the conjunction of the bits
pub and_bit : (xs ys : List Bool) (k : ℕ) → length xs ≡ length ys → get_or (and_bits xs ys) k false ≡ (get_or xs k false && get_or ys k false)
and_bit = zip_bit (λ x y. x && y) refl

-- the same of one row without another
pub minus_bit : (xs ys : List Bool) (k : ℕ) → length xs ≡ length ys → get_or (minus_bits xs ys) k false ≡ (get_or xs k false && not (get_or ys k false))
minus_bit = zip_bit (λ x y. x && not y) refl

-- the same of the negation
pub not_bit : (xs : List Bool) (k : ℕ) → k < length xs → get_or (not_bits xs) k false ≡ not (get_or xs k false)
not_bit xs k h = get_or-map not xs k false false h
