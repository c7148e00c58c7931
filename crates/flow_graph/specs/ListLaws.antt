-- Laws of lists that std has only for reads with a default: `slice_get` of joined, shortened and written lists, and a
-- list item by item. For proofs only; the crates above cite them too. std's `lemmas.List` has those of `length`,
-- `take`, `drop`, `slice_set` and `slice_index_or` that are not here.
use Rattle.std.proofs.Common.{◌≡◌, ◌≢◌, ℕ, zero, suc, ◌+◌, ◌<◌, List, [], ◌∷◌, ◌++◌, length, map, take, drop, slice_get, slice_set, slice_index_or, Some, ◌⊎◌, inl, inr, refl, sym, ap, ◌∙◌, subst, arith, append_assoc, true, ◌||◌, nat_eq, eq-eqb}
use Rattle.std.proofs.lemmas.Bool.{cases_eq}
use Rattle.std.proofs.lemmas.List.{get_or_append_left, get_or_push}
use Rattle.std.proofs.lemmas.Option.{slice_get_within}
use Rattle.std.proofs.Math.Bool.{or-true}
use Rattle.flow_graph.specs.Numbering.{is_in}
pub use Rattle.mir_base.specs.ItemLaws.{get_left, get_last, get_take}

-- two lists with equal first items and equal remainders
pub cons_same : {A : Type 0} {x y : A} {xs ys : List A} → x ≡ y → xs ≡ ys → x ∷ xs ≡ y ∷ ys
cons_same e e' = cc

-- ---- an item of a list, and of two joined lists

-- an index below the length has an item
pub some_at : {A : Type 0} (xs : List A) (i : ℕ) → i < length xs → (x : A) × (slice_get xs i ≡ Some x)
some_at [] i lt = absurd (omega (arith, lt))
some_at (x ∷ xs) zero lt = (x, refl)
some_at (x ∷ xs) (suc i) lt = some_at xs i (omega (arith, lt))

-- the item there stays
pub get_left_some : {A : Type 0} (xs ys : List A) (i : ℕ) (x : A) → slice_get xs i ≡ Some x → slice_get (xs ++ ys) i ≡ Some x
get_left_some xs ys i x at = get_left xs ys i (slice_get_within xs i x at) ∙ at

-- an item that stands in a list is found in it
pub listed_in : (xs : List ℕ) (i x : ℕ) → slice_get xs i ≡ Some x → is_in x xs ≡ true
listed_in [] i x at = cc
listed_in (y ∷ ys) zero x at = let same : y ≡ x = cc in ap (λ b. b || is_in x ys) (eq-eqb y x same)
listed_in (y ∷ ys) (suc i) x at = ap (λ b. nat_eq y x || b) (listed_in ys i x at) ∙ or-true (nat_eq y x)

-- an index into the second
pub get_right_at : {A : Type 0} (xs ys : List A) (n i : ℕ) → n ≡ length xs + i → slice_get (xs ++ ys) n ≡ slice_get ys i
get_right_at [] ys n i e = ap (slice_get ys) (omega (arith, e))
get_right_at (x ∷ xs) ys zero i e = absurd (omega (arith, e))
get_right_at (x ∷ xs) ys (suc n) i e = get_right_at xs ys n i (omega (arith, e))

-- the same, with the index counted from the seam
pub get_right : {A : Type 0} (xs ys : List A) (i : ℕ) → slice_get (xs ++ ys) (length xs + i) ≡ slice_get ys i
get_right xs ys i = get_right_at xs ys (length xs + i) i refl

-- the first item of the second
pub get_seam : {A : Type 0} (xs ys : List A) (y : A) → slice_get (xs ++ y ∷ ys) (length xs) ≡ Some y
get_seam [] ys y = refl
get_seam (x ∷ xs) ys y = get_seam xs ys y

-- an item of joined lists is one of the first or of the second
pub get_append : {A : Type 0} (xs ys : List A) (i : ℕ) (x : A) → slice_get (xs ++ ys) i ≡ Some x
    → (slice_get xs i ≡ Some x) ⊎ ((j : ℕ) × (i ≡ length xs + j) × (slice_get ys j ≡ Some x))
get_append [] ys i x e = inr (i, omega arith, e)
get_append (z ∷ xs) ys zero x e = inl e
get_append (z ∷ xs) ys (suc i) x e = elim (get_append xs ys i x e) [ inl l ↦ inl l | inr r ↦ inr (r.0, omega (arith, r.1), r.2) ]

-- an item of a list to which one was added stood there before, or is the one that was added
pub get_push : {A : Type 0} (xs : List A) (x y : A) (i : ℕ) → slice_get (xs ++ x ∷ []) i ≡ Some y → (slice_get xs i ≡ Some y) ⊎ ((i ≡ length xs) × (x ≡ y))
get_push [] x y zero e = inr (refl, cc)
get_push [] x y (suc i) e = cc
get_push (z ∷ xs) x y zero e = inl e
get_push (z ∷ xs) x y (suc i) e = elim (get_push xs x y i e) [ inl h ↦ inl h | inr p ↦ inr (ap suc p.0, p.1) ]

-- ---- a prefix, and what stands at an index and after it

-- one more item: with `suc i`, and with `i + 1`, as loops count
pub take_next : {A : Type 0} (xs : List A) (i : ℕ) (x : A) → slice_get xs i ≡ Some x → take (suc i) xs ≡ take i xs ++ x ∷ []
take_next [] i x at = cc
take_next (a ∷ xs) zero x at = let same : a ≡ x = cc in ap (λ b. b ∷ []) same
take_next (a ∷ xs) (suc i) x at = ap (λ l. a ∷ l) (take_next xs i x at)

-- with `i + 1`
pub take_one : {A : Type 0} (xs : List A) (i : ℕ) (x : A) → slice_get xs i ≡ Some x → take (i + 1) xs ≡ take i xs ++ x ∷ []
take_one xs i x at = let one : i + 1 ≡ suc i = omega arith in ap (λ n. take n xs) one ∙ take_next xs i x at

-- what is left from an index on begins with the item there; with `suc i`, and with `i + 1`
pub drop_next : {A : Type 0} (xs : List A) (i : ℕ) (x : A) → slice_get xs i ≡ Some x → drop i xs ≡ x ∷ drop (suc i) xs
drop_next [] i x e = cc
drop_next (y ∷ ys) zero x e = let same : y ≡ x = cc in ap (λ z. z ∷ ys) same
drop_next (y ∷ ys) (suc i) x e = drop_next ys i x e

-- with `i + 1`
pub drop_at : {A : Type 0} (xs : List A) (i : ℕ) (x : A) → slice_get xs i ≡ Some x → drop i xs ≡ x ∷ drop (i + 1) xs
drop_at xs i x e = let one : suc i ≡ i + 1 = omega arith in drop_next xs i x e ∙ ap (λ n. x ∷ drop n xs) one

-- the items before an index, the item there, and those after it
pub around : {A : Type 0} (xs : List A) (i : ℕ) (x : A) → slice_get xs i ≡ Some x → xs ≡ take i xs ++ x ∷ drop (suc i) xs
around [] i x e = cc
around (y ∷ ys) zero x e = let same : y ≡ x = cc in ap (λ z. z ∷ ys) same
around (y ∷ ys) (suc i) x e = ap (λ l. y ∷ l) (around ys i x e)

-- with `i + 1`
pub around_at : {A : Type 0} (xs : List A) (i : ℕ) (x : A) → slice_get xs i ≡ Some x → xs ≡ take i xs ++ x ∷ drop (i + 1) xs
around_at xs i x e = let one : suc i ≡ i + 1 = omega arith in around xs i x e ∙ ap (λ n. take i xs ++ x ∷ drop n xs) one

-- ---- a list with one item written

-- the item written
pub set_here : {A : Type 0} (xs : List A) (i : ℕ) (x : A) → i < length xs → slice_get (slice_set xs i x) i ≡ Some x
set_here [] i x lt = absurd (omega (arith, lt))
set_here (y ∷ xs) zero x lt = refl
set_here (y ∷ xs) (suc i) x lt = set_here xs i x (omega (arith, lt))

-- and every other item
pub set_elsewhere : {A : Type 0} (xs : List A) (i j : ℕ) (x : A) → j ≢ i → slice_get (slice_set xs i x) j ≡ slice_get xs j
set_elsewhere [] i j x other = refl
set_elsewhere (y ∷ xs) zero zero x other = absurd (other refl)
set_elsewhere (y ∷ xs) zero (suc j) x other = refl
set_elsewhere (y ∷ xs) (suc i) zero x other = refl
set_elsewhere (y ∷ xs) (suc i) (suc j) x other = set_elsewhere xs i j x (λ e. other (ap suc e))

-- ---- lists that are built item by item

-- what holds of each entry by its index still does, once an entry of which it holds is pushed
pub table_push : {A : Type 0} (P : ℕ → A → Type 0) (d : A) (xs xs' : List A) (n : ℕ) (x : A) → xs' ≡ xs ++ x ∷ []
    → length xs ≡ n → ((k : ℕ) → k < n → P k (slice_index_or xs k d)) → P n x → (k : ℕ) → k < n + 1
    → P k (slice_index_or xs' k d)
table_push P d xs xs' n x is long are last k lt = elim (cases_eq k n) [
  | inl same ↦
      let here : slice_index_or xs' k d ≡ x = ap (λ l. slice_index_or l k d) is ∙ get_or_push xs x d k (omega (arith, same, long)) in
      subst (P k) (sym here) (subst (λ i. P i x) (sym same) last)
  | inr other ↦
      let low : k < n = omega (arith, lt, other) in
      let here : slice_index_or xs' k d ≡ slice_index_or xs k d = ap (λ l. slice_index_or l k d) is ∙ get_or_append_left xs (x ∷ []) d k (omega (arith, low, long)) in
      subst (P k) (sym here) (are k low)
]

-- one more item is mapped: those done and those to come are the whole still
pub mapped_push : {A B : Type 0} (f : A → B) (done done' : List B) (left left' : List A) (x : A) (y : B) (all : List B)
    → done' ≡ done ++ y ∷ [] → y ≡ f x → left ≡ x ∷ left' → done ++ map f left ≡ all → done' ++ map f left' ≡ all
mapped_push f done done' left left' x y all pushed is taken so_far =
    let made : done' ≡ done ++ f x ∷ [] = pushed ∙ ap (λ z. done ++ z ∷ []) is in
    let ahead : map f left ≡ f x ∷ map f left' = ap (map f) taken in
    ap (λ l. l ++ map f left') made ∙ append_assoc done (f x ∷ []) (map f left') ∙ ap (λ l. done ++ l) (sym ahead) ∙ so_far

-- ---- lists in ascending order of a key that have the same items are equal

-- the keys of the items ascend
abbrev pub Ascends : {A : Type 0} → (A → ℕ) → List A → Type 0
Ascends {A = A} key xs =
    (i j : ℕ) (x y : A) → i < j → slice_get xs i ≡ Some x → slice_get xs j ≡ Some y → key x < key y

-- each item of the one list is an item of the other
abbrev pub AllAmong : {A : Type 0} → List A → List A → Type 0
AllAmong {A = A} xs ys = (i : ℕ) (x : A) → slice_get xs i ≡ Some x → (j : ℕ) × (slice_get ys j
    ≡ Some x)

module _ {A : Type 0} (key : A → ℕ) where
  tail_ascends : (x : A) (xs : List A) → Ascends key (x ∷ xs) → Ascends key xs
  tail_ascends x xs up i j a b lt = up (suc i) (suc j) a b (omega (arith, lt))

  heads_same : (x y : A) (xs ys : List A) → Ascends key (x ∷ xs) → Ascends key (y ∷ ys) → AllAmong (x ∷ xs) (y ∷ ys) → AllAmong (y ∷ ys) (x ∷ xs) → x ≡ y
  heads_same x y xs ys up up' in_ys in_xs = from (in_ys 0 x refl).0 (in_ys 0 x refl).1 (in_xs 0 y refl).0 (in_xs 0 y refl).1
    where
      from : (i : ℕ) → slice_get (y ∷ ys) i ≡ Some x → (j : ℕ) → slice_get (x ∷ xs) j ≡ Some y → x ≡ y
      from zero e j e' = cc
      from (suc i) e zero e' = cc
      from (suc i) e (suc j) e' = absurd (omega (arith, up' 0 (suc i) y x (omega arith) refl e, up 0 (suc j) x y (omega arith) refl e'))

  tail_among : (x y : A) (xs ys : List A) → x ≡ y → Ascends key (x ∷ xs) → AllAmong (x ∷ xs) (y ∷ ys) → AllAmong xs ys
  tail_among x y xs ys same up in_ys i z e = from (in_ys (suc i) z e).0 (in_ys (suc i) z e).1
    where
      from : (j : ℕ) → slice_get (y ∷ ys) j ≡ Some z → (k : ℕ) × (slice_get ys k ≡ Some z)
      from zero e' = let at : y ≡ z = cc in absurd (omega (arith, up 0 (suc i) x z (omega arith) refl e, ap {B = ℕ} key (same ∙ at)))
      from (suc j) e' = (j, e')

  pub ascending_same : (xs ys : List A) → Ascends key xs → Ascends key ys → AllAmong xs ys → AllAmong ys xs → xs ≡ ys
  ascending_same [] [] up up' in_ys in_xs = refl
  ascending_same [] (y ∷ ys) up up' in_ys in_xs = let bad = (in_xs 0 y refl).1 in cc
  ascending_same (x ∷ xs) [] up up' in_ys in_xs = let bad = (in_ys 0 x refl).1 in cc
  ascending_same (x ∷ xs) (y ∷ ys) up up' in_ys in_xs =
      let same = heads_same x y xs ys up up' in_ys in_xs in
      cons_same same (ascending_same xs ys (tail_ascends x xs up) (tail_ascends y ys up') (tail_among x y xs ys same up in_ys) (tail_among y x ys xs (sym same) up' in_xs))
