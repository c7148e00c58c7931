-- The item at a place of a list, of joined lists, of a prefix and of what a function makes of a list, and what is there
-- or is not.
-- For proofs only, of the crates above too.
use Rattle.std.proofs.Common.{◌≡◌, ℕ, zero, suc, ◌<◌, true, false, List, [], ◌∷◌, ◌++◌, length, slice_get, Option, None, Some, is_some, refl, subst, arith, Contains, map, take, sym, ◌∙◌}
use Rattle.std.specs.List.{All}
use Rattle.std.proofs.lemmas.Option.{slice_get_within, get_or_from_slice_get}
use Rattle.std.specs.Option.{option_or}
use Rattle.mir_base.specs.Shapes.{AllDiffer}

-- what holds of each item holds of the one at a place
pub all_at : {A : Type 0} (P : A → Type 0) (xs : List A) (i : ℕ) (x : A) → All P xs → slice_get xs i ≡ Some x → P x
all_at P xs i x all at = subst P (get_or_from_slice_get xs i x x at) (all i x (slice_get_within xs i x at))

-- what stands at a place is contained
pub contained_at : {A : Type 0} (xs : List A) (x : A) (i : ℕ) → slice_get xs i ≡ Some x → Contains xs x
contained_at xs x i at = (i, slice_get_within xs i x at, get_or_from_slice_get xs i x x at)

-- in a list of distinct items an item has one place
pub one_place : {A : Type 0} (xs : List A) → AllDiffer xs → (i j : ℕ) (x : A) → slice_get xs i ≡ Some x → slice_get xs j ≡ Some x → i ≡ j
one_place xs differ i j x here there = differ i j (slice_get_within xs i x here) (slice_get_within xs j x there) (here ∙ sym there)

-- a list of one item has no other
pub one_item : {A : Type 0} (x y : A) (i : ℕ) → slice_get (x ∷ []) i ≡ Some y → x ≡ y
one_item x y zero at = cc
one_item x y (suc i) at = absurd (cc)

-- what a function makes of a list comes from the list
pub map_at : {A B : Type 0} (f : A → B) (xs : List A) (i : ℕ) (y : B) → slice_get (map f xs) i ≡ Some y → (x : A) × (slice_get xs i ≡ Some x) × (f x ≡ y)
map_at f [] i y at = absurd (cc)
map_at f (x ∷ xs) zero y at = (x, refl, cc)
map_at f (x ∷ xs) (suc i) y at = map_at f xs i y at

-- a place in the first of two joined lists
pub get_left : {A : Type 0} (xs ys : List A) (i : ℕ) → i < length xs → slice_get (xs ++ ys) i ≡ slice_get xs i
get_left [] ys i low = absurd (omega (arith, low))
get_left (x ∷ xs) ys zero low = refl
get_left (x ∷ xs) ys (suc i) low = get_left xs ys i (omega (arith, low))

-- one item more at the end
pub get_last : {A : Type 0} (xs : List A) (x : A) → slice_get (xs ++ x ∷ []) (length xs) ≡ Some x
get_last [] x = refl
get_last (y ∷ xs) x = get_last xs x

-- a place in a prefix
pub get_take : {A : Type 0} (xs : List A) (n i : ℕ) → i < n → slice_get (take n xs) i ≡ slice_get xs i
get_take [] zero i lt = refl
get_take [] (suc n) i lt = refl
get_take (x ∷ xs) zero i lt = absurd (omega (arith, lt))
get_take (x ∷ xs) (suc n) zero lt = refl
get_take (x ∷ xs) (suc n) (suc i) lt = get_take xs n i (omega (arith, lt))

-- what is there, and that nothing is
pub some_of : {A : Type 0} (found : Option A) → is_some found ≡ true → (x : A) × (found ≡ Some x)
some_of None e = absurd (cc)
some_of (Some x) e = (x, refl)

-- a search that found nothing is None
pub none_of : {A : Type 0} (found : Option A) → is_some found ≡ false → found ≡ None
none_of None e = refl
none_of (Some x) e = absurd (cc)

-- nothing more leaves what is found
pub or_none : {A : Type 0} (found : Option A) → option_or found None ≡ found
or_none None = refl
or_none (Some x) = refl

-- where nothing is found in either, nothing is in each
pub none_or : {A : Type 0} (found more : Option A) → option_or found more ≡ None → (found ≡ None) × (more ≡ None)
none_or None more e = (refl, e)
none_or (Some x) more e = absurd (cc)
