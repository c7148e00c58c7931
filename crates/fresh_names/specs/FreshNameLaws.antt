-- Laws: the new names differ from each other and from those of the graph's variables, and are the only ones. For proofs
-- only, of the passes that add variables.
use Rattle.std.proofs.Common.{◌≡◌, ℕ, zero, suc, ◌+◌, ◌-◌, ◌<◌, ◌≤◌, List, [], ◌∷◌, ◌++◌, take, length, slice_get, Some, inl, inr, refl, sym, ap, ◌∙◌, subst, arith, length-append}
use Rattle.std.specs.Prelude.{Contains}
use Rattle.std.proofs.lemmas.Bool.{cases_lt}
use Rattle.std.proofs.Math.Seq.{take-length}
use Rattle.mir_base.specs.ItemLaws.{contained_at}
use Rattle.mir_base.specs.Shapes.{AllDiffer}
use Rattle.flow_graph.specs.ListLaws.{get_left, get_right_at, get_take, some_at, take_next}
use Rattle.fresh_names.specs.FreshNames.{AreTemporaryNames, IsNextName, temporary_name}

-- ---- they differ

module _ (vars names : List (List ℕ)) (count : ℕ) (are : AreTemporaryNames vars count names)
    (differ : AllDiffer vars) where
  -- a temporary's name is no earlier one
  new_apart : (i k : ℕ) → i < length vars + k → k < length names
      → slice_get (vars ++ names) i ≡ slice_get (vars ++ names) (length vars + k) → ⊥
  new_apart i k lt within same =
      let name = some_at names k within in
      let there : slice_get (vars ++ names) i ≡ Some name.0 =
      same ∙ get_right_at vars names (length vars + k) k refl ∙ name.1 in
      elim (cases_lt i (length vars)) [
        | inl old ↦
            let here : slice_get (vars ++ take k names) i ≡ Some name.0 =
            get_left vars (take k names) i old ∙ sym (get_left vars names i old) ∙ there in
            (are.each k name.0 name.1).fresh (contained_at (vars ++ take k names) name.0 i here)
        | inr ge ↦
            let l = i - length vars in
            let is : i ≡ length vars + l = omega (arith, ge) in
            let before : l < k = omega (arith, ge, lt) in
            let here : slice_get (vars ++ take k names) i ≡ Some name.0 =
            get_right_at vars (take k names) i l is ∙ get_take names k l before ∙ sym
            (get_right_at vars names i l is) ∙ there in
            (are.each k name.0 name.1).fresh (contained_at (vars ++ take k names) name.0 i here)
      ]

  -- nor is a later name an earlier one
  ordered : (i j : ℕ) → i < j → j < length (vars ++ names) → slice_get (vars ++ names) i ≡ slice_get (vars ++ names) j
      → ⊥
  ordered i j lt within same = elim (cases_lt j (length vars)) [
    | inl old ↦
        let before : i < length vars = omega (arith, lt, old) in
        let is = differ i j before old (sym (get_left vars names i before) ∙ same ∙ get_left vars names j old) in
        omega (arith, is, lt)
    | inr ge ↦
        let is : j ≡ length vars + (j - length vars) = omega (arith, ge) in
        new_apart i (j - length vars) (omega (arith, lt, is)) (omega (arith, ge, within, length-append vars names))
        (same ∙ ap (slice_get (vars ++ names)) is)
  ]

  -- so all names differ
  pub names_differ : AllDiffer (vars ++ names)
  names_differ i j i_in j_in same = elim (cases_lt i j) [
    | inl lt ↦ absurd (ordered i j lt j_in same)
    | inr ge ↦ elim (cases_lt j i) [
      | inl lt ↦ absurd (ordered j i lt i_in (sym same))
      | inr le ↦ omega (arith, ge, le)
    ]
  ]

-- ---- they are the only ones

-- of two next names neither has the smaller number
not_less : (names : List (List ℕ)) (x y : List ℕ) (p : IsNextName names x) (q : IsNextName names y)
    → p.number < q.number → ⊥
not_less names x y p q lt = p.fresh (subst (Contains names) (sym p.spelled) (q.least p.number p.positive lt))

-- so they are one
next_is_one : (names : List (List ℕ)) (x y : List ℕ) → IsNextName names x → IsNextName names y → x ≡ y
next_is_one names x y p q = elim (cases_lt p.number q.number) [
  | inl lt ↦ absurd (not_less names x y p q lt)
  | inr ge ↦ elim (cases_lt q.number p.number) [
    | inl lt ↦ absurd (not_less names y x q p lt)
    | inr ge' ↦ let same : p.number ≡ q.number =
        omega (arith, ge, ge') in p.spelled ∙ ap temporary_name same ∙ sym q.spelled
  ]
]

-- there is one list of names
pub names_are_one : (vars : List (List ℕ)) (count : ℕ) (a b : List (List ℕ)) → AreTemporaryNames vars count a
    → AreTemporaryNames vars count b → a ≡ b
names_are_one vars count a b p q =
    sym (take-length a) ∙ ap (λ n. take n a) p.long ∙ fronts count (omega arith) ∙ ap (λ n. take n b)
    (sym q.long) ∙ take-length b
  where
    fronts : (k : ℕ) → k ≤ count → take k a ≡ take k b
    fronts zero le = refl
    fronts (suc k) le =
        let same = fronts k (omega (arith, le)) in
        let x = some_at a k (omega (arith, le, p.long)) in
        let y = some_at b k (omega (arith, le, q.long)) in
        let one = next_is_one (vars ++ take k b) x.0 y.0
        (subst (λ l. IsNextName (vars ++ l) x.0) same (p.each k x.0 x.1)) (q.each k y.0 y.1) in
        take_next a k x.0 x.1 ∙ ap (λ l. l ++ x.0 ∷ []) same ∙ ap (λ z. take k b ++ z ∷ []) one ∙ sym
        (take_next b k y.0 y.1)
