-- Names that are equal as bytes, and names that are among others. For proofs only.
use Rattle.std.proofs.Common.{◌≡◌, ℕ, zero, suc, true, ◌||◌, List, [], ◌∷◌, slice_get, Some, refl, ap, sym, ◌∙◌, subst}
use Rattle.std.proofs.Math.Bool.{or-true}
use Rattle.std.specs.Cmp.Lexicographic.{bytes_decides}
use Rattle.mir_base.specs.Words.{is_text}
use Rattle.mir_valid.specs.Names.{has_name}

-- a name is the same as itself
pub same_self : (x : List ℕ) → is_text x x ≡ true
same_self x = (bytes_decides x x).1 refl

-- names that are the same are equal
pub same_is : (x y : List ℕ) → is_text x y ≡ true → x ≡ y
same_is x y e = (bytes_decides x y).0 e

-- a name that stands somewhere is one of the names
pub has_at : (names : List (List ℕ)) (i : ℕ) (x : List ℕ) → slice_get names i ≡ Some x → has_name names x ≡ true
has_at [] i x at = absurd (cc)
has_at (y ∷ names) zero x at = let same : y ≡ x = cc in ap (λ b. b || has_name names x) (subst (λ (z : List ℕ). is_text x z ≡ true) (sym same) (same_self x))
has_at (y ∷ names) (suc i) x at = ap (λ b. is_text x y || b) (has_at names i x at) ∙ or-true (is_text x y)
