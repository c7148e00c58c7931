-- Lists whose items are related place by place.
use Rattle.std.proofs.Common.{◌≡◌, ℕ, zero, suc, ◌+◌, ◌<◌, List, [], ◌∷◌, ◌++◌, take, length, get_or, slice_get, Some, sym, ap, ◌∙◌, subst, add-one}
use Rattle.std.specs.List.{AllZip}
use Rattle.std.specs.Prelude.{All}
use Rattle.std.proofs.lemmas.List.Elements.{All-cons, All-nil}
use Rattle.std.proofs.lemmas.Option.{slice_get-get_or}
use Rattle.flow_graph.specs.ListLaws.{take_next}

module _ {A B : Type 0} (R : A → B → Type 0) where
  -- items at one place are related
  pub zip_at : (xs : List A) (ys : List B) → AllZip R xs ys → (n : ℕ) (x : A) (y : B) → slice_get xs n ≡ Some x → slice_get ys n ≡ Some y → R x y
  zip_at [] ys z n x y at at' = cc
  zip_at (a ∷ xs) [] z n x y at at' = absurd z
  zip_at (a ∷ xs) (b ∷ ys) z zero x y at at' =
      let one : a ≡ x = cc in
      let two : b ≡ y = cc in
      subst (λ x. R x y) one (subst (R a) two z.0)
  zip_at (a ∷ xs) (b ∷ ys) z (suc n) x y at at' = zip_at xs ys z.1 n x y at at'

  -- one more item of each list
  push_zip : (xs : List A) (ys : List B) (x : A) (y : B) → AllZip R xs ys → R x y → AllZip R (xs ++ x ∷ []) (ys ++ y ∷ [])
  push_zip [] [] x y z r = (r, tt)
  push_zip [] (b ∷ ys) x y z r = absurd z
  push_zip (a ∷ xs) [] x y z r = absurd z
  push_zip (a ∷ xs) (b ∷ ys) x y z r = (z.0, push_zip xs ys x y z.1 r)

  -- of a prefix of the first list
  pub next_zip : (xs : List A) (ys ys' : List B) (n : ℕ) (x : A) (y : B) → AllZip R (take n xs) ys → slice_get xs n ≡ Some x → R x y → ys' ≡ ys ++ y ∷ [] → AllZip R (take (n + 1) xs) ys'
  next_zip xs ys ys' n x y z at r is = subst (AllZip R (take (n + 1) xs)) (sym is) (subst (λ l. AllZip R l (ys ++ y ∷ [])) (sym (ap (λ m. take m xs) (add-one n) ∙ take_next xs n x at)) (push_zip (take n xs) ys x y z r))

  -- where P holds of each item that R relates to another, it holds of all items of the second list
  pub zip_all : (P : B → Type 0) → ((x : A) (y : B) → R x y → P y) → (xs : List A) (ys : List B) → AllZip R xs ys → All P ys
  zip_all P holds [] [] z = All-nil P
  zip_all P holds [] (y ∷ ys) z = absurd z
  zip_all P holds (x ∷ xs) [] z = absurd z
  zip_all P holds (x ∷ xs) (y ∷ ys) z = All-cons P y ys (holds x y z.0) (zip_all P holds xs ys z.1)

  -- where Q follows from R, lists that are related by R item by item are related by Q
  pub zip_map : (Q : A → B → Type 0) → ((x : A) (y : B) → R x y → Q x y) → (xs : List A) (ys : List B) → AllZip R xs ys → AllZip Q xs ys
  zip_map Q holds [] [] z = tt
  zip_map Q holds [] (b ∷ ys) z = absurd z
  zip_map Q holds (a ∷ xs) [] z = absurd z
  zip_map Q holds (a ∷ xs) (b ∷ ys) z = (holds a b z.0, zip_map Q holds xs ys z.1)

  -- by way of a third list
  pub zip_trans : {C : Type 0} (S : B → C → Type 0) (Q : A → C → Type 0) → ((x : A) (y : B) (w : C) → R x y → S y w → Q x w) → (xs : List A) (ys : List B) (ws : List C) → AllZip R xs ys → AllZip S ys ws → AllZip Q xs ws
  zip_trans S Q holds [] [] [] z z' = tt
  zip_trans S Q holds [] [] (w ∷ ws) z z' = absurd z'
  zip_trans S Q holds [] (b ∷ ys) ws z z' = absurd z
  zip_trans S Q holds (a ∷ xs) [] ws z z' = absurd z
  zip_trans S Q holds (a ∷ xs) (b ∷ ys) [] z z' = absurd z'
  zip_trans S Q holds (a ∷ xs) (b ∷ ys) (w ∷ ws) z z' = (holds a b w z.0 z'.0, zip_trans S Q holds xs ys ws z.1 z'.1)

-- the same where the item is that of a loop
pub next_zip_at : {A B : Type 0} (R : A → B → Type 0) (xs : List A) (ys ys' : List B) (n : ℕ) (x : A) (y : B) → AllZip R (take n xs) ys → n < length xs → x ≡ get_or xs n x → R x y → ys' ≡ ys ++ y ∷ [] → AllZip R (take (n + 1) xs) ys'
next_zip_at R xs ys ys' n x y z lt is r pushed = next_zip R xs ys ys' n x y z (slice_get-get_or xs n x lt ∙ ap Some (sym is)) r pushed
