-- What is known of variables, as it is kept in two lists, place by place.
use Rattle.std.proofs.Common.{pos, ◌≡◌, ◌↔◌, ℕ, ℤ, Bool, true, false, ◌&&◌, inl, inr, zero, suc, ◌+◌, ◌<◌, ◌≤◌, slice_set, List, [], ◌∷◌, ◌++◌, length, take, replicate, get_or, refl, sym, ap, arith, ◌∙◌, ⊎_elim, take_all}
use Rattle.std.specs.List.{AllClonesOf, AppendsClonesOf}
use Rattle.std.proofs.lemmas.Bool.{cases_eq}
use Rattle.std.proofs.lemmas.List.{set-get_or}
use Rattle.std.proofs.lemmas.Option.{slice_get-get_or}
use Rattle.flow_graph.specs.ListLaws.{take_next}
use Rattle.cond_flow.specs.FactLists.{IsJoinedKind, JoinedCode, StaysCode, decoded_each, joined_code}
use Rattle.cond_flow.specs.Joining.{SameItems}
use Rattle.cond_flow.specs.Rules.{OrderRules, Rules}

-- where a path meets itself nothing is lost
pub joined_self : {K : Type 0} {below : K → K → Type 0} {rules : Rules K} → OrderRules below rules → (x : K) → rules.joined x x ≡ x
joined_self order x =
    let meets = order.joins x x in
    order.antisymmetric _ x (meets.least x (order.reflexive x) (order.reflexive x)) meets.left

module _ {K : Type 0} (decoded : ℕ → ℤ → K) where
  -- as many are known as there are numbers
  pub length_facts : (kinds : List ℕ) (numbers : List ℤ) → length numbers ≡ length kinds → length (decoded_each decoded kinds numbers) ≡ length kinds
  length_facts [] numbers e = refl
  length_facts (k ∷ kinds) [] e = absurd (omega (arith, e))
  length_facts (k ∷ kinds) (n ∷ numbers) e = ap suc (length_facts kinds numbers (let e' : suc (length numbers) ≡ suc (length kinds) = e in omega arith))

  -- what is known of one
  pub facts_at : (kinds : List ℕ) (numbers : List ℤ) (x d : ℕ) (v : ℤ) (otherwise : K) → length numbers ≡ length kinds → x < length kinds → get_or (decoded_each decoded kinds numbers) x otherwise ≡ decoded (get_or kinds x d) (get_or numbers x v)
  facts_at [] numbers x d v o e h = absurd (omega (arith, h))
  facts_at (k ∷ kinds) [] x d v o e h = absurd (omega (arith, e))
  facts_at (k ∷ kinds) (n ∷ numbers) zero d v o e h = refl
  facts_at (k ∷ kinds) (n ∷ numbers) (suc x) d v o e h = facts_at kinds numbers x d v o (let e' : suc (length numbers) ≡ suc (length kinds) = e in omega arith) (let h' : suc x < suc (length kinds) = h in omega arith)

  -- where the code is this one, what it stands for is known
  pub facts_same : (kinds : List ℕ) (numbers : List ℤ) (x k : ℕ) (n : ℤ) (otherwise : K) → length numbers ≡ length kinds → x < length kinds → get_or kinds x 0 ≡ k → get_or numbers x (pos 0) ≡ n → otherwise ≡ decoded k n → get_or (decoded_each decoded kinds numbers) x otherwise ≡ otherwise
  facts_same kinds numbers x k n o long there is_k is_n code =
      facts_at kinds numbers x 0 (pos 0) o long there ∙ ap (λ z. decoded z (get_or numbers x (pos 0))) is_k ∙ ap (decoded k) is_n ∙ sym code

  -- nothing is known past the last
  pub facts_past : (kinds : List ℕ) (numbers : List ℤ) (x : ℕ) (otherwise : K) → length numbers ≡ length kinds → length kinds ≤ x → get_or (decoded_each decoded kinds numbers) x otherwise ≡ otherwise
  facts_past [] numbers x o e h = refl
  facts_past (k ∷ kinds) [] x o e h = absurd (omega (arith, e))
  facts_past (k ∷ kinds) (n ∷ numbers) zero o e h = absurd (omega (arith, h))
  facts_past (k ∷ kinds) (n ∷ numbers) (suc x) o e h = facts_past kinds numbers x o (let e' : suc (length numbers) ≡ suc (length kinds) = e in omega arith) (let h' : suc (length kinds) ≤ suc x = h in omega arith)

  -- one is set in both lists
  pub facts_set : (kinds : List ℕ) (numbers : List ℤ) (x k : ℕ) (n : ℤ) → length numbers ≡ length kinds → decoded_each decoded (slice_set kinds x k) (slice_set numbers x n) ≡ slice_set (decoded_each decoded kinds numbers) x (decoded k n)
  facts_set [] [] x k n e = refl
  facts_set [] (v ∷ numbers) x k n e = absurd (omega (arith, e))
  facts_set (f ∷ kinds) [] x k n e = absurd (omega (arith, e))
  facts_set (f ∷ kinds) (v ∷ numbers) zero k n e = refl
  facts_set (f ∷ kinds) (v ∷ numbers) (suc x) k n e = ap (λ l. decoded f v ∷ l) (facts_set kinds numbers x k n (let e' : suc (length numbers) ≡ suc (length kinds) = e in omega arith))

  -- a kind is set, and the number stays
  pub kind_set : (kinds : List ℕ) (numbers : List ℤ) (x k : ℕ) → length numbers ≡ length kinds → decoded_each decoded (slice_set kinds x k) numbers ≡ slice_set (decoded_each decoded kinds numbers) x (decoded k (get_or numbers x (pos 0)))
  kind_set kinds numbers x k e =
      ap (decoded_each decoded (slice_set kinds x k)) (sym (set-get_or numbers x (pos 0))) ∙ facts_set kinds numbers x k (get_or numbers x (pos 0)) e

  -- the same of each
  pub facts_alike : (c k : ℕ) (n : ℤ) → decoded_each decoded (replicate c k) (replicate c n) ≡ replicate c (decoded k n)
  facts_alike zero k n = refl
  facts_alike (suc c) k n = ap (λ l. decoded k n ∷ l) (facts_alike c k n)

module _ {K : Type 0} (rules : Rules K) (decoded : ℕ → ℤ → K) where
  -- what is known where paths meet has the kind that the two kinds tell
  kinds_tell : (kinds : List ℕ) (numbers : List ℤ) (x kind met : ℕ) (n : ℤ) → length numbers ≡ length kinds → x < length kinds → IsJoinedKind rules decoded (get_or kinds x 0) kind met
      → decoded met (get_or numbers x (pos 0)) ≡ joined_code rules decoded kinds numbers x kind n
  kinds_tell kinds numbers x kind met n long there meets =
      sym (meets.joined (get_or numbers x (pos 0)) n) ∙ ap (λ k. rules.joined k (decoded kind n)) (sym (facts_at decoded kinds numbers x 0 (pos 0) (decoded kind n) long there))

  -- so to set it is to join
  pub kind_joins : (kinds : List ℕ) (numbers : List ℤ) (x kind met : ℕ) (n : ℤ) → length numbers ≡ length kinds → x < length kinds → IsJoinedKind rules decoded (get_or kinds x 0) kind met
      → JoinedCode rules decoded kinds numbers x kind n (decoded_each decoded (slice_set kinds x met) numbers)
  kind_joins kinds numbers x kind met n long there meets =
      kind_set decoded kinds numbers x met long ∙ ap (slice_set (decoded_each decoded kinds numbers) x) (kinds_tell kinds numbers x kind met n long there meets)

  -- and nothing changes where it is set already
  pub kind_stays : (kinds : List ℕ) (numbers : List ℤ) (x kind met : ℕ) (n : ℤ) (changed : Bool) → length numbers ≡ length kinds → x < length kinds → IsJoinedKind rules decoded (get_or kinds x 0) kind met
      → ((changed ≡ false) ↔ (met ≡ get_or kinds x 0)) → (changed ≡ false) ↔ StaysCode rules decoded kinds numbers x kind n
  kind_stays kinds numbers x kind met n changed long there meets tells =
      let v = get_or numbers x (pos 0) in
      let told = kinds_tell kinds numbers x kind met n long there meets in
      let here = facts_at decoded kinds numbers x 0 (pos 0) (decoded kind n) long there in (
        λ off. sym told ∙ ap (λ k. decoded k v) (tells.0 off) ∙ sym here,
        λ same. tells.1 (meets.stays v (told ∙ same ∙ here)),
      )

-- past the last nothing is set
pub items_kept : {T : Type 0} (ks : List T) (x : ℕ) (k : T) → length ks ≤ x → slice_set ks x k ≡ ks
items_kept [] x k h = refl
items_kept (a ∷ ks) zero k h = absurd (omega (arith, h))
items_kept (a ∷ ks) (suc x) k h = ap (λ l. a ∷ l) (items_kept ks x k (let h' : suc (length ks) ≤ suc x = h in omega arith))

-- clones that are the same are as many copies
pub alike_clones : {T : Type 0} (x : T) (ys : List T) → AllClonesOf (λ a b. b ≡ a) x ys → ys ≡ replicate (length ys) x
alike_clones x [] every = refl
alike_clones x (y ∷ ys) every =
    let here : y ≡ x = ⊎_elim (λ e. e) (λ e. e) every.0 in
    ap (λ z. z ∷ ys) here ∙ ap (λ l. x ∷ l) (alike_clones x ys every.1)

-- an empty list that is filled up
pub filled_up : {T : Type 0} (n : ℕ) (x : T) (old new : List T) → old ≡ [] → AppendsClonesOf (λ a b. b ≡ a) (take n old) new x → length new ≡ n → new ≡ replicate n x
filled_up n x old new empty made count =
    let ys = made.0 in
    let front : take n old ≡ [] = ap (take n) empty ∙ take_all n [] (omega arith) in
    let all : new ≡ ys = made.1 ∙ ap (λ l. l ++ ys) front in
    all ∙ alike_clones x ys made.2 ∙ ap (λ k. replicate k x) (sym (ap length all) ∙ count)

-- one more
pub listed_more : {K : Type 0} (ks list : List K) (x : ℕ) (k d : K) → x < length ks → list ≡ take x ks → k ≡ get_or ks x d → list ++ k ∷ [] ≡ take (x + 1) ks
listed_more ks list x k d h so_far is =
    let more : take (x + 1) ks ≡ take x ks ++ get_or ks x d ∷ [] = ap (λ n. take n ks) (let e : x + 1 ≡ suc x = omega arith in e) ∙ take_next ks x (get_or ks x d) (slice_get-get_or ks x d h) in
    ap (λ l. l ++ k ∷ []) so_far ∙ ap (λ j. take x ks ++ j ∷ []) is ∙ sym more

-- ---- parts of lists in which the same stands

-- one place more
pub items_more : {T : Type 0} (d : T) (xs ys : List T) (start i : ℕ) (same here : Bool) → (same ≡ true → SameItems d xs ys start i)
    → (here ≡ true → get_or xs i d ≡ get_or ys i d) → (same && here) ≡ true → SameItems d xs ys start (i + 1)
items_more d xs ys start i same here so_far is both = record {
  each = λ k l h. elim (cases_eq k i) as (λ _. get_or xs k d ≡ get_or ys k d) [
    | inl e ↦ rw e (is (and_parts same here both).1)
    | inr apart ↦ (so_far (and_parts same here both).0).each k l (omega (arith, h, apart))
  ];
}
  where
    and_parts : (s t : Bool) → (s && t) ≡ true → (s ≡ true) × (t ≡ true)
    and_parts true t on = (refl, on)
    and_parts false t on = absurd (cc)

-- where the same kinds and numbers stand the same is known
pub codes_same : {K : Type 0} (decoded : ℕ → ℤ → K) (kinds others : List ℕ) (numbers others' : List ℤ) (start stop : ℕ) (otherwise : K)
    → length numbers ≡ length kinds → length others' ≡ length others → stop ≤ length kinds → stop ≤ length others
    → SameItems 0 kinds others start stop → SameItems (pos 0) numbers others' start stop
    → (k : ℕ) → start ≤ k → k < stop → get_or (decoded_each decoded kinds numbers) k otherwise ≡ get_or (decoded_each decoded others others') k otherwise
codes_same decoded kinds others numbers others' start stop otherwise long long' here there kinds_are numbers_are k l h =
    facts_at decoded kinds numbers k 0 (pos 0) otherwise long (omega (arith, h, here))
    ∙ ap (λ z. decoded z (get_or numbers k (pos 0))) (kinds_are.each k l h) ∙ ap (decoded (get_or others k 0)) (numbers_are.each k l h)
    ∙ sym (facts_at decoded others others' k 0 (pos 0) otherwise long' (omega (arith, h, there)))
