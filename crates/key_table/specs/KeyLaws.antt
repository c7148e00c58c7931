-- Laws of lists of distinct keys: a key that is put in, and the number of a key. For proofs only.
use Rattle.std.proofs.Common.{◌≡◌, ◌⊎◌, inl, inr, ℕ, Bool, true, false, is_some, position, if◌then◌else◌, List, [], ◌∷◌, ◌++◌, length, get_or, slice_get, Contains, Option, Some, None, refl, sym, ap, ◌∙◌, subst, true≢false, length-append, arith}
use Rattle.std.specs.List.{list_any}
use Rattle.std.proofs.lemmas.Bool.{cases_lt}
use Rattle.std.proofs.lemmas.List.Elements.{Contains-push}
use Rattle.std.proofs.lemmas.List.Folds.{list_any_at}
use Rattle.std.proofs.lemmas.List.Quantifiers.{position-Some}
use Rattle.std.proofs.lemmas.Option.{slice_get_within, slice_get-get_or}
use Rattle.indexmap.proofs.CallerLemmas.{Contains-list_any}
use Rattle.indexmap.specs.IndexSet.{insert_key}
use Rattle.mir_base.specs.ItemLaws.{get_last, get_left, contained_at, one_place}
use Rattle.mir_base.specs.Shapes.{AllDiffer}
use Rattle.key_table.specs.Keys.{FindsKey, FindsSome, IsWithKey}

module _ {K : Type 0} where
  -- ---- places

  -- what is contained stands at a place
  pub place_of : (keys : List K) (k : K) → Contains keys k → (i : ℕ) × (slice_get keys i ≡ Some k)
  place_of keys k there = (there.0, slice_get-get_or keys there.0 k there.1 ∙ ap Some there.2)

  -- ---- put in

  -- a place of the longer list is one of the list, or its end
  pushed_at : (keys : List K) (key : K) (i : ℕ) (k : K) → slice_get (keys ++ key ∷ []) i ≡ Some k
      → (slice_get keys i ≡ Some k) ⊎ ((i ≡ length keys) × (k ≡ key))
  pushed_at keys key i k here = elim (cases_lt i (length keys)) [
    | inl lt ↦ inl (sym (get_left keys (key ∷ []) i lt) ∙ here)
    | inr ge ↦
        let within = slice_get_within (keys ++ key ∷ []) i k here in
        let last : i ≡ length keys = omega (arith, ge, within, length-append keys (key ∷ [])) in
        let same : Some k ≡ Some key = sym here ∙ ap (slice_get (keys ++ key ∷ [])) last ∙ get_last keys key in
        inr (last, cc)
  ]

  -- a new key behind distinct ones
  longer_differs : (keys : List K) (key : K) → (Contains keys key → ⊥) → AllDiffer keys → AllDiffer (keys ++ key ∷ [])
  longer_differs keys key new differ i j i_in j_in e =
      let at_i = slice_get-get_or (keys ++ key ∷ []) i key i_in in
      let k = get_or (keys ++ key ∷ []) i key in
      two k (pushed_at keys key i k at_i) (pushed_at keys key j k (sym e ∙ at_i))
    where
      two : (k : K) → (slice_get keys i ≡ Some k) ⊎ ((i ≡ length keys) × (k ≡ key)) → (slice_get keys j ≡ Some k) ⊎ ((j ≡ length keys) × (k ≡ key)) → i ≡ j
      two k (inl p) (inl q) = one_place keys differ i j k p q
      two k (inl p) (inr q) = absurd (new (contained_at keys key i (p ∙ ap Some q.1)))
      two k (inr p) (inl q) = absurd (new (contained_at keys key j (q ∙ ap Some p.1)))
      two k (inr p) (inr q) = p.0 ∙ sym q.0

  module _ (old : List K) (key : K) (new : List K) where
    -- distinct keys stay distinct
    pub put_differs : IsWithKey old key new → AllDiffer old → AllDiffer new
    put_differs (inl there) differ = subst AllDiffer (sym there.1) differ
    put_differs (inr fresh) differ = subst AllDiffer (sym fresh.1) (longer_differs old key fresh.0 differ)

    -- the keys keep their places
    pub put_stays : IsWithKey old key new → (i : ℕ) (k : K) → slice_get old i ≡ Some k → slice_get new i ≡ Some k
    put_stays (inl there) i k here = ap (λ l. slice_get l i) there.1 ∙ here
    put_stays (inr fresh) i k here = ap (λ l. slice_get l i) fresh.1 ∙ get_left old (key ∷ []) i (slice_get_within old i k here) ∙ here

    -- so they stay
    pub put_keeps : IsWithKey old key new → (k : K) → Contains old k → Contains new k
    put_keeps put k there = let place = place_of old k there in contained_at new k place.0 (put_stays put place.0 k place.1)

    -- the key that was put is there
    pub put_there : IsWithKey old key new → Contains new key
    put_there (inl there) = subst (λ l. Contains l key) (sym there.1) there.0
    put_there (inr fresh) = subst (λ l. Contains l key) (sym fresh.1) (Contains-push old key)

    -- and nothing else is new
    pub put_only : IsWithKey old key new → (i : ℕ) (k : K) → slice_get new i ≡ Some k → (slice_get old i ≡ Some k) ⊎ (k ≡ key)
    put_only (inl there) i k here = inl (ap (λ l. slice_get l i) (sym there.1) ∙ here)
    put_only (inr fresh) i k here = elim (pushed_at old key i k (ap (λ l. slice_get l i) (sym fresh.1) ∙ here)) [ inl at ↦ inl at | inr last ↦ inr last.1 ]

    -- one that comes after a prefix of distinct keys goes last, so they stay in their order
    pub put_in_order : IsWithKey old key new → (rest : List K) → AllDiffer (old ++ key ∷ rest) → new ≡ old ++ key ∷ []
    put_in_order (inr fresh) rest differ = fresh.1
    put_in_order (inl there) rest differ =
        let place = place_of old key there.0 in
        let within = slice_get_within old place.0 key place.1 in
        let front : slice_get (old ++ key ∷ rest) place.0 ≡ Some key = get_left old (key ∷ rest) place.0 within ∙ place.1 in
        let one : place.0 ≡ length old = one_place (old ++ key ∷ rest) differ place.0 (length old) key front (seam old) in
        absurd (omega (arith, within, one))
      where
        seam : (xs : List K) → slice_get (xs ++ key ∷ rest) (length xs) ≡ Some key
        seam [] = refl
        seam (x ∷ xs) = seam xs

  -- ---- found

  -- the number of a key, where there is one
  pub finds_some : (keys : List K) (key : K) (found : Option ℕ) → FindsKey keys key found → AllDiffer keys → FindsSome keys (Some key) found
  finds_some keys key found finds differ i k here = (
    (λ same. let one : k ≡ key = cc in (finds i).0 (here ∙ ap Some one)),
    (λ is. sym ((finds i).1 is) ∙ here),
  )

  -- ---- by an equality

  module _ (eq : K → K → Bool) (same : (a b : K) → eq a b ≡ true → a ≡ b) (itself : (a : K) → eq a a ≡ true) where
    -- a key that the list has is equal to some item
    pub contained_any : (keys : List K) (key : K) → Contains keys key → list_any (eq key) keys ≡ true
    contained_any keys key there = list_any_at (eq key) keys there.0 key there.1 (ap (eq key) there.2 ∙ itself key)

    -- what is put in where no item is equal to it
    pub inserted_is : (keys : List K) (key : K) (new : List K) → new ≡ insert_key eq keys key → IsWithKey keys key new
    inserted_is keys key new is = by (list_any (eq key) keys) refl is
      where
        by : (b : Bool) → list_any (eq key) keys ≡ b → new ≡ (if b then keys else keys ++ key ∷ []) → IsWithKey keys key new
        by true any put = inl (Contains-list_any eq same keys key any, put)
        by false any put = inr (λ there. true≢false (sym (contained_any keys key there) ∙ any), put)

    -- and back
    pub is_inserted : (keys : List K) (key : K) (new : List K) → IsWithKey keys key new → new ≡ insert_key eq keys key
    is_inserted keys key new (inl there) = there.1 ∙ sym (ap (λ b. if b then keys else keys ++ key ∷ []) (contained_any keys key there.0))
    is_inserted keys key new (inr fresh) = by (list_any (eq key) keys) refl
      where
        by : (b : Bool) → list_any (eq key) keys ≡ b → new ≡ (if b then keys else keys ++ key ∷ [])
        by true any = absurd (fresh.0 (Contains-list_any eq same keys key any))
        by false any = fresh.1

    -- the first position of an item that is equal to the key is the place of the key
    pub position_finds : (keys : List K) (key : K) (found : Option ℕ) → AllDiffer keys
        → found ≡ position (eq key) keys → is_some found ≡ list_any (eq key) keys → FindsKey keys key found
    position_finds keys key found differ is any i = (λ here. at found refl here, λ one. there i (sym is ∙ one))
      where
        there : (j : ℕ) → position (eq key) keys ≡ Some j → slice_get keys j ≡ Some key
        there j p =
            let first = position-Some (eq key) keys j key p in
            slice_get-get_or keys j key first.0 ∙ ap Some (sym (same key (get_or keys j key) first.1))

        at : (o : Option ℕ) → found ≡ o → slice_get keys i ≡ Some key → o ≡ Some i
        at None none here = absurd (true≢false (sym (contained_any keys key (contained_at keys key i here)) ∙ sym any ∙ ap is_some none))
        at (Some j) some here = ap Some (one_place keys differ j i key (there j (sym is ∙ some)) here)
