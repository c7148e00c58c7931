-- Classes that are joined.
use Rattle.std.proofs.Common.{◌≡◌, ◌≢◌, ℕ, ◌+◌, ◌<◌, List, [], ◌∷◌, ◌++◌, length, drop, slice_set, slice_index_or, ◌⊎◌, inl, inr, refl, sym, ap, ◌∙◌, subst, arith}
use Rattle.std.proofs.lemmas.List.{length-set, get_or_past, get_or-set_same, get_or-set_other}
use Rattle.std.proofs.lemmas.Bool.{cases_lt, cases_eq}
use Rattle.mir_base.specs.Shapes.{AllBelow}
use Rattle.jump_clean.specs.Classes.{class, members_of, HasMembers, AreMoved}
use Rattle.jump_clean.proofs.Follow.{in_rest, rest_below}
use Rattle.flow_graph.specs.Numbering.{IsIn}

-- a number of the first list, or of the second, is in both together, and there is no other
pub in_left : (x : ℕ) (xs ys : List ℕ) → IsIn x xs → IsIn x (xs ++ ys)
in_left x [] ys h = absurd h
in_left x (y ∷ xs) ys (inl e) = inl e
in_left x (y ∷ xs) ys (inr h) = inr (in_left x xs ys h)

-- the second list
pub in_right : (x : ℕ) (xs ys : List ℕ) → IsIn x ys → IsIn x (xs ++ ys)
in_right x [] ys h = h
in_right x (y ∷ xs) ys h = inr (in_right x xs ys h)

-- either
pub in_either : (x : ℕ) (xs ys : List ℕ) → IsIn x (xs ++ ys) → IsIn x xs ⊎ IsIn x ys
in_either x [] ys h = inr h
in_either x (y ∷ xs) ys (inl e) = inl (inl e)
in_either x (y ∷ xs) ys (inr h) = elim (in_either x xs ys h) [ inl p ↦ inl (inr p) | inr p ↦ inr p ]

-- a list is below a bound if each of its numbers is
pub members_below : (k : ℕ) (xs : List ℕ) → ((n : ℕ) → IsIn n xs → n < k) → AllBelow k xs
members_below k [] h = tt
members_below k (x ∷ xs) h = (h x (inl refl), members_below k xs (λ n p. h n (inr p)))

-- ---- each node alone

-- where each node is alone, it is the one member of its class
pub alone : (of : List ℕ) (members : List (List ℕ)) (nodes : ℕ) → length of ≡ nodes → length members ≡ nodes → ((k : ℕ) → k < nodes → class of k ≡ k) → ((k : ℕ) → k < nodes → members_of members k ≡ k ∷ []) → HasMembers of members
alone of members nodes long long' own single = record {
  long = long' ∙ sym long;
  within = λ n lt. omega (arith, own n (omega (arith, lt, long)), lt);
  all = λ n lt.
      let own_n : class of n ≡ n = own n (omega (arith, lt, long)) in
      subst (λ c. IsIn n (members_of members c)) (sym own_n) (subst (IsIn n) (sym (single n (omega (arith, lt, long)))) (inl refl));
  only = λ n c h. elim (cases_lt c nodes) [
    | inl lt ↦ from_single n c lt (subst (IsIn n) (single c lt) h)
    | inr ge ↦ absurd (subst (IsIn n) (get_or_past members c [] (omega (arith, ge, long'))) h)
  ];
}
  where
    from_single : (n c : ℕ) → c < nodes → IsIn n (c ∷ []) → (n < length of) × (class of n ≡ c)
    from_single n c lt (inl e) = (omega (arith, e, lt, long), own n (omega (arith, e, lt)) ∙ sym e)
    from_single n c lt (inr p) = absurd p

-- ---- new numbers for some nodes

-- one more node gets the new number
pub relabel_step : (nodes : List ℕ) (into i : ℕ) (of first : List ℕ) → i < length nodes → length of ≡ length first → AllBelow (length of) (drop i nodes) → ((n : ℕ) → IsIn n nodes → (class of n ≡ into) ⊎ IsIn n (drop i nodes)) → ((n : ℕ) → (class of n ≡ class first n) ⊎ IsIn n nodes) → IsIn (slice_index_or nodes i 0) nodes →
    (length (slice_set of (slice_index_or nodes i 0) into) ≡ length first)
    × AllBelow (length (slice_set of (slice_index_or nodes i 0) into)) (drop (i + 1) nodes)
    × ((n : ℕ) → IsIn n nodes → (class (slice_set of (slice_index_or nodes i 0) into) n ≡ into) ⊎ IsIn n (drop (i + 1) nodes))
    × ((n : ℕ) → (class (slice_set of (slice_index_or nodes i 0) into) n ≡ class first n) ⊎ IsIn n nodes)
relabel_step nodes into i of first lt long below gone others one =
    let x = slice_index_or nodes i 0 in
    let b = rest_below (length of) nodes i lt below in (
      length-set of x into ∙ long,
      subst (λ k. AllBelow k (drop (i + 1) nodes)) (sym (length-set of x into)) b.1,
      λ n h. elim (cases_eq n x) [
        | inl same ↦ inl (ap (class (slice_set of x into)) same ∙ get_or-set_same of x into 0 b.0)
        | inr other ↦ elim (gone n h) [
          | inl old ↦ inl (get_or-set_other of x n into 0 other ∙ old)
          | inr rest ↦ elim (in_rest nodes i n lt rest) [ inl same ↦ absurd (other (sym same)) | inr later ↦ inr later ]
        ]
      ],
      λ n. elim (cases_eq n x) [
        | inl same ↦ inr (subst (λ k. IsIn k nodes) (sym same) one)
        | inr other ↦ elim (others n) [ inl old ↦ inl (get_or-set_other of x n into 0 other ∙ old) | inr h ↦ inr h ]
      ],
    )

-- ---- one class goes into another

module _ (of of' : List ℕ) (members members' : List (List ℕ)) (from into : ℕ) (moved : List ℕ)
    (has : HasMembers of members) (low : from < length of) (low' : into < length of) (apart : from ≢ into)
    (taken : moved ≡ members_of members from) (long : length of' ≡ length of)
    (gone : (n : ℕ) → IsIn n moved → class of' n ≡ into) (others : (n : ℕ) → (class of' n ≡ class of n) ⊎ IsIn n moved)
    (added : members' ≡ slice_set (slice_set members from []) into (members_of (slice_set members from []) into ++ moved)) where
  in_moved : (n : ℕ) → n < length of → class of n ≡ from → IsIn n moved
  in_moved n lt is = subst (IsIn n) (sym taken) (subst (λ c. IsIn n (members_of members c)) is (has.all n lt))

  from_moved : (n : ℕ) → IsIn n moved → (n < length of) × (class of n ≡ from)
  from_moved n h = has.only n from (subst (IsIn n) taken h)

  stayed : (n : ℕ) → class of n ≢ from → class of' n ≡ class of n
  stayed n other = elim (others n) [ inl same ↦ same | inr h ↦ absurd (other (from_moved n h).1) ]

  pub are_moved : AreMoved of of' from into moved
  are_moved = record {
    long = long;
    gone = λ n lt is. (gone n (in_moved n lt is), in_moved n lt is);
    stayed = λ n lt other. stayed n other;
    below = members_below (length of) moved (λ n h. (from_moved n h).0);
  }

  left : length (slice_set members from []) ≡ length of
  left = length-set members from [] ∙ has.long

  members_into : members_of members' into ≡ members_of members into ++ moved
  members_into =
      ap (λ l. members_of l into) added ∙ get_or-set_same (slice_set members from []) into _ [] (omega (arith, left, low'))
      ∙ ap (λ l. l ++ moved) (get_or-set_other members from into [] [] (λ e. apart (sym e)))

  members_from : members_of members' from ≡ []
  members_from = ap (λ l. members_of l from) added ∙ get_or-set_other (slice_set members from []) into from _ [] apart ∙ get_or-set_same members from [] [] (omega (arith, has.long, low))

  members_other : (c : ℕ) → c ≢ into → c ≢ from → members_of members' c ≡ members_of members c
  members_other c not_into not_from = ap (λ l. members_of l c) added ∙ get_or-set_other (slice_set members from []) into c _ [] not_into ∙ get_or-set_other members from c [] [] not_from

  pub has_moved : HasMembers of' members'
  has_moved = record {
    long = ap length added ∙ length-set (slice_set members from []) into _ ∙ left ∙ sym long;
    within = λ n lt. elim (cases_eq (class of n) from) [
      | inl is ↦ let new = gone n (in_moved n (omega (arith, lt, long)) is) in omega (arith, new, low', long)
      | inr other ↦ let old = stayed n other in let w = has.within n (omega (arith, lt, long)) in omega (arith, old, w, long)
    ];
    all = λ n lt. elim (cases_eq (class of n) from) [
      | inl is ↦
          let h = in_moved n (omega (arith, lt, long)) is in
          subst (λ c. IsIn n (members_of members' c)) (sym (gone n h)) (subst (IsIn n) (sym members_into) (in_right n (members_of members into) moved h))
      | inr other ↦ subst (λ c. IsIn n (members_of members' c)) (sym (stayed n other)) (still n (class of n) other (has.all n (omega (arith, lt, long))))
    ];
    only = λ n c h. elim (cases_eq c into) [
      | inl is ↦ elim (in_either n (members_of members into) moved (subst (IsIn n) members_into (subst (λ d. IsIn n (members_of members' d)) is h))) [
        | inl old ↦
            let o = has.only n into old in
            (omega (arith, o.0, long), stayed n (λ e. apart (sym e ∙ o.1)) ∙ o.1 ∙ sym is)
        | inr new ↦ let o = from_moved n new in (omega (arith, o.0, long), gone n new ∙ sym is)
      ]
      | inr not_into ↦ elim (cases_eq c from) [
        | inl is ↦ absurd (subst (IsIn n) members_from (subst (λ d. IsIn n (members_of members' d)) is h))
        | inr not_from ↦
            let o = has.only n c (subst (IsIn n) (members_other c not_into not_from) h) in
            (omega (arith, o.0, long), stayed n (λ e. not_from (sym o.1 ∙ e)) ∙ o.1)
      ]
    ];
  }
    where
      still : (n c : ℕ) → c ≢ from → IsIn n (members_of members c) → IsIn n (members_of members' c)
      still n c other h = elim (cases_eq c into) [
        | inl is ↦ subst (λ d. IsIn n (members_of members' d)) (sym is) (subst (IsIn n) (sym members_into) (in_left n (members_of members into) moved (subst (λ d. IsIn n (members_of members d)) is h)))
        | inr not_into ↦ subst (IsIn n) (sym (members_other c not_into other)) h
      ]
