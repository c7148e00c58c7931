-- Lists of which the first items are mapped where they stand.
use Rattle.std.proofs.Common.{◌≡◌, ℕ, zero, suc, ◌≤◌, List, [], ◌∷◌, ◌++◌, map, length, set, take, drop, slice_get, Some, refl, sym, ap, ◌∙◌, arith}
use Rattle.std.proofs.lemmas.List.{length-map, take-append-le, take_all}

-- the list with its first n items mapped
abbrev pub mapped_below : {A : Type 0} → (A → A) → ℕ → List A → List A
mapped_below f zero xs = xs
mapped_below f (suc n) [] = []
mapped_below f (suc n) (x ∷ xs) = f x ∷ mapped_below f n xs

-- item n is the old one
pub mapped_get : {A : Type 0} (f : A → A) (n : ℕ) (xs : List A) → slice_get (mapped_below f n xs) n ≡ slice_get xs n
mapped_get f zero xs = refl
mapped_get f (suc n) [] = refl
mapped_get f (suc n) (x ∷ xs) = mapped_get f n xs

-- one item more is mapped
pub mapped_more : {A : Type 0} (f : A → A) (n : ℕ) (xs : List A) (x : A) → slice_get xs n ≡ Some x → set (mapped_below f n xs) n (f x) ≡ mapped_below f (suc n) xs
mapped_more f zero [] x e = cc
mapped_more f zero (y ∷ xs) x e = let same : y ≡ x = cc in ap (λ z. f z ∷ xs) (sym same)
mapped_more f (suc n) [] x e = cc
mapped_more f (suc n) (y ∷ xs) x e = ap (λ l. f y ∷ l) (mapped_more f n xs x e)

-- and in the end all are
pub mapped_whole : {A : Type 0} (f : A → A) (n : ℕ) (xs : List A) → length xs ≤ n → mapped_below f n xs ≡ map f xs
mapped_whole f zero [] le = refl
mapped_whole f zero (x ∷ xs) le = absurd (omega (arith, le))
mapped_whole f (suc n) [] le = refl
mapped_whole f (suc n) (x ∷ xs) le = ap (λ l. f x ∷ l) (mapped_whole f n xs (omega (arith, le)))

-- a list that is mapped as a slice of n items has them mapped
pub mapped_back : {A : Type 0} (f : A → A) (new old : List A) (n : ℕ) → n ≡ length old → new ≡ map f old → take n (new ++ drop (length new) old) ≡ map f old
mapped_back f new old n long is =
    let same : length new ≡ length old = ap length is ∙ length-map old f in
    take-append-le n new (drop (length new) old) (omega (arith, long, same)) ∙ take_all n new (omega (arith, long, same)) ∙ is
