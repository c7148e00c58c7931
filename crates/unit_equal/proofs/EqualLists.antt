-- Lists that are compared item by item.
use Rattle.std.proofs.Common.{◌≡◌, ◌<◌, ℕ, suc, List, [], ◌∷◌, length, slice_get, refl, ap, ◌∙◌, arith}

-- as long, and with equal items
pub same_items : {A : Type 0} (a b : List A) → length a ≡ length b → ((k : ℕ) → k < length a → slice_get a k ≡ slice_get b k) → a ≡ b
same_items [] [] long each = refl
same_items [] (y ∷ ys) long each = cc
same_items (x ∷ xs) [] long each = cc
same_items (x ∷ xs) (y ∷ ys) long each =
    let head : x ≡ y = let both = each 0 (omega arith) in cc in
    let tail : xs ≡ ys = same_items xs ys (omega (arith, long)) (λ k lt. each (suc k) (omega (arith, lt))) in
    ap (λ z. z ∷ xs) head ∙ ap (λ l. y ∷ l) tail
